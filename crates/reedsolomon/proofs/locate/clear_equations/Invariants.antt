-- `locate::clear_equations` meets its contract. Assumes nothing.
use mathlib.Core.Path.{◌≡◌}
use Prim.Native.Nat.{ℕ, ◌-◌}
use lib.ListN.{length}
use Rattle.codes.specs.Inner.{at, Pivots, Candidate}
use Rattle.reedsolomon.proofs.locate.clear_equations.Given as goal

abbrev pub invariant-loop-i : goal.invariant-loop-i
invariant-loop-i l = (length l.candidate ≡ length l.initial.candidate) × (length l.pivots ≡ length l.initial.pivots)
    × ((k : ℕ) → Pivots (at l.syndromes) (length l.initial.candidate - 1) (length l.initial.candidate) k l.initial.pivots → Candidate (at l.syndromes) (length l.initial.candidate) k 0 l.initial.candidate → (l.pivots ≡ l.initial.pivots) × Candidate (at l.syndromes) (length l.initial.candidate) k l.i l.candidate)
