-- `scrambling::scrambling_bytes` meets its contract: each turn stores one byte. Assumes nothing.
use mathlib.Core.Path.{◌≡◌}
use lib.ListN.{length}
use Rattle.layout.specs.Lengths.{frame_main_size}
use Rattle.lists.proofs.Fill.{Upto}
use Rattle.scrambling.specs.Scrambling.{preset_of, scrambling_byte}
use Rattle.scrambling.proofs.scrambling_bytes.Given as goal

abbrev pub invariant-loop-i : goal.invariant-loop-i
invariant-loop-i l = (length l.initial.s ≡ frame_main_size) × Upto (scrambling_byte (preset_of l.number)) l.initial.s l.s l.i
