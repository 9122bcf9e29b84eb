-- `formulas::first_root` meets its contract: no place before k has a root for its locator. Assumes nothing.
use mathlib.Core.Path.{◌≡◌}
use mathlib.Core.Bool.{false}
use Prim.Native.Nat.{ℕ, ◌<◌}
use Rattle.field.specs.Field.{pow}
use Rattle.codes.specs.Inner.{is_locator}
use Rattle.lightrepair.proofs.formulas.first_root.Given as goal

abbrev pub invariant-loop-k : goal.invariant-loop-k
invariant-loop-k l = (j : ℕ) → j < l.k → is_locator l.a l.b (pow 2 j) ≡ false
