-- `mend::error_value` meets its contract. Assumes nothing.
use mathlib.Core.Path.{◌≡◌}
use Prim.Native.Nat.{ℕ}
use lib.ListN.{length}
use Rattle.codes.specs.Inner.{at, without_others, spread}
use Rattle.reedsolomon.proofs.mend.error_value.Given as goal

abbrev pub invariant-loop-l : goal.invariant-loop-l
invariant-loop-l g l = (length l.rest ≡ g.row.P) × ((i : ℕ) → at l.rest i ≡ without_others l.places l.j l.l (at l.fn.syndromes) i) × (l.d ≡ spread l.places l.j l.l l.x)
