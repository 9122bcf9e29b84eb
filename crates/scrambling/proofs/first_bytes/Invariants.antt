-- `scrambling::first_bytes` meets its contract: each turn stores one byte, and the register is the one at it. Assumes nothing.
use mathlib.Core.Path.{◌≡◌}
use Prim.Native.Nat.{◌<◌, ◌*◌}
use lib.ListN.{length}
use Rattle.layout.specs.Lengths.{frame_main_size}
use Rattle.lists.proofs.Fill.{Upto}
use Rattle.scrambling.specs.Scrambling.{preset_of, register, scrambling_byte}
use Rattle.scrambling.proofs.first_bytes.Given as goal

abbrev pub invariant-loop-i : goal.invariant-loop-i
invariant-loop-i l = record {
  size : length l.initial.s ≡ frame_main_size;
  small : l.r < 0x8000;
  shifted : l.r ≡ register (preset_of l.number) (8 * l.i);
  bytes : Upto (scrambling_byte (preset_of l.number)) l.initial.s l.s l.i;
}
