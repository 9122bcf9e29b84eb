-- `erasures::take_out_erased` meets its contract: the marked bytes before i are taken out. Assumes nothing.
use mathlib.Core.Path.{◌≡◌}
use Prim.Native.Nat.{ℕ, ◌-◌}
use lib.ListN.{length}
use Rattle.codes.specs.Inner.{at, erased_place, without_marked}
use Rattle.reedsolomon.proofs.erasures.take_out_erased.Given as goal

abbrev pub invariant-loop-i : goal.invariant-loop-i
invariant-loop-i l = (length l.syndromes ≡ length l.initial.syndromes)
    × ((j : ℕ) → without_marked (erased_place l.erasures) (length l.erasures - l.i) (at l.syndromes) j ≡ without_marked (erased_place l.erasures) (length l.erasures) (at l.initial.syndromes) j)
