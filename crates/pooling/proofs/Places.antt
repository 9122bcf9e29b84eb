-- What two readings know of a place is what stands there: its byte (byte_known) and its mark (mark_known).
-- Assumes nothing.
use mathlib.Core.Path.{◌≡◌, refl, sym, ◌∙◌}
use mathlib.Core.Bool.{Bool, true, false, not, cond}
use Prim.Native.Nat.{ℕ}
use lib.Dec.{eqb}
use mir.Val.{bool_byte}
use Rattle.std.specs.Prelude.{None, Some, is_some}
use Rattle.std.specs.Option.{unwrap_or}
use Rattle.lists.specs.Count.{bit}
use Rattle.pooling.specs.Pool.{MarkedBytes, byte_at, marked_at, pooled_byte, pooled_mark}
use Rattle.pooling.specs.Inner.{known, both_know}

-- what place i gets, where a and b are the readings
abbrev pub byte : MarkedBytes → MarkedBytes → ℕ → ℕ
byte a b i = pooled_byte (marked_at a i) (byte_at a i) (marked_at b i) (byte_at b i)

abbrev pub erasure : MarkedBytes → MarkedBytes → ℕ → ℕ
erasure a b i = bit (pooled_mark (marked_at a i) (byte_at a i) (marked_at b i) (byte_at b i))

module _ (x m y n : ℕ) where
  pub byte_known : unwrap_or (both_know (known x m) (known y n)) 0 ≡ pooled_byte (eqb m 1) x (eqb n 1) y
  byte_known = go (eqb m 1) (eqb n 1)
    where
      same : (t : Bool) → unwrap_or (cond t (Some x) None) 0 ≡ cond t x 0
      same true = refl
      same false = refl

      go : (a b : Bool) → unwrap_or (both_know (cond a None (Some x)) (cond b None (Some y))) 0 ≡ pooled_byte a x b y
      go true true = refl
      go true false = refl
      go false true = refl
      go false false = same (eqb x y)

  some_known : is_some (both_know (known x m) (known y n)) ≡ not (pooled_mark (eqb m 1) x (eqb n 1) y)
  some_known = go (eqb m 1) (eqb n 1)
    where
      same : (t : Bool) → is_some (cond t (Some x) None) ≡ not (not t)
      same true = refl
      same false = refl

      go : (a b : Bool) → is_some (both_know (cond a None (Some x)) (cond b None (Some y))) ≡ not (pooled_mark a x b y)
      go true true = refl
      go true false = refl
      go false true = refl
      go false false = same (eqb x y)

  -- t says that nothing is known, and r is its digit
  pub mark_known : (t : Bool) (r : ℕ) → is_some (both_know (known x m) (known y n)) ≡ not t → r ≡ bool_byte t → r ≡ bit (pooled_mark (eqb m 1) x (eqb n 1) y)
  mark_known t r e d = d ∙ go t (pooled_mark (eqb m 1) x (eqb n 1) y) (sym e ∙ some_known)
    where
      go : (a b : Bool) → not a ≡ not b → bool_byte a ≡ bit b
      go true true q = refl
      go true false q = cc
      go false true q = cc
      go false false q = refl
