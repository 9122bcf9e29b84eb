-- `zeroruns::zero_runs_hold` meets its contract. What is left of the test after j bits is the test of the bits from j on.
-- Assumes nothing.
use mathlib.Core.Path.{◌≡◌}
use Prim.Native.Nat.{◌-◌, ◌<◌}
use lib.ListN.{drop}
use Rattle.std.specs.Prelude.{Some}
use Rattle.channel.specs.Bits.{bits_bytes, zero_runs_from, zero_runs_hold}
use Rattle.zeroruns.proofs.zero_runs_hold.Given as goal

abbrev pub invariant-loop-j : goal.invariant-loop-j
invariant-loop-j l = (l.zeros < l.j) × (zero_runs_hold l.stream ≡ zero_runs_from (Some (l.j - l.zeros - 1)) l.j (drop l.j (bits_bytes l.stream)))
