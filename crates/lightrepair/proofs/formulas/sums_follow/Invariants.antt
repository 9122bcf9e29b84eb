-- `formulas::sums_follow` meets its contract: the sums before i + 2 follow. Assumes nothing.
use mathlib.Core.Path.{◌≡◌}
use Prim.Native.Nat.{ℕ, ◌+◌, ◌<◌}
use lib.ListN.{get_or}
use Rattle.field.specs.Field.{add, mul}
use Rattle.lightrepair.proofs.formulas.sums_follow.Given as goal

abbrev pub invariant-loop-i : goal.invariant-loop-i
invariant-loop-i l = (j : ℕ) → j < l.i → get_or l.sums (j + 2) 0 ≡ add (mul l.a (get_or l.sums (j + 1) 0)) (mul l.b (get_or l.sums j 0))
