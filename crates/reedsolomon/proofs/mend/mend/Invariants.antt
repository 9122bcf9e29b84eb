-- `mend::mend` meets its contract. Assumes nothing.
use mathlib.Core.Path.{◌≡◌}
use Prim.Native.Nat.{◌-◌}
use lib.ListN.{length}
use Rattle.codes.specs.Inner.{at, mend_from, mended}
use Rattle.reedsolomon.proofs.mend.mend.Given as goal

abbrev pub invariant-loop-j : goal.invariant-loop-j
invariant-loop-j g l = (length l.bytes ≡ g.row.N) × (mend_from (at l.syndromes) l.places l.j (length l.places - l.j) l.bytes ≡ mended (at l.syndromes) l.places l.initial.bytes)
