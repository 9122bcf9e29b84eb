-- The DSV as a signed number and as a number with 0 at 2^40.
-- Assumes nothing.
use mathlib.Core.Path.{◌≡◌, refl, sym, ap, subst, ◌∙◌}
use mathlib.Core.Bool.{Bool, true, false, cond, not}
use Prim.Native.Nat.{ℕ, suc, ◌+◌, ◌*◌, ◌-◌, ◌<◌, ◌≤◌}
use native.Mathlib.Omega.{arith}
use borrow.Author.Tests.{ltb-true, ltb-false, lt-ltb, le-ltb, le-leb, lt-leb}
use lib.Dec.{T, leb, ltb}
use lib.IntN.{ℤ, pos, negsuc, ◌+ℤ◌, nat_abs}
use lib.Signed.{lt_z, le_z}
use mir.Syntax.{w64}
use mir.Val.{SFits}
use Rattle.levels.specs.Level.{zero_at, magnitude}
use Rattle.writer.specs.Records.{offset, signed}

-- ---- one way and back

cond_is : {A : Type 0} (b c : Bool) (x y : A) → b ≡ c → cond b x y ≡ cond c x y
cond_is b c x y e = ap (λ (z : Bool). cond z x y) e

low : (d : ℕ) → d < zero_at → signed d ≡ negsuc (zero_at - suc d)
low d h = cond_is (ltb d zero_at) true _ _ (lt-ltb d zero_at h)

high : (d : ℕ) → zero_at ≤ d → signed d ≡ pos (d - zero_at)
high d h = cond_is (ltb d zero_at) false _ _ (le-ltb d zero_at h)

pub offset-signed : (d : ℕ) → offset (signed d) ≡ d
offset-signed d = by (ltb d zero_at) refl
  where
    by : (x : Bool) → ltb d zero_at ≡ x → offset (signed d) ≡ d
    by true e = ap offset (low d (ltb-true d zero_at e)) ∙ omega (arith, ltb-true d zero_at e)
    by false e = ap offset (high d (ltb-false d zero_at e)) ∙ omega (arith, ltb-false d zero_at e)

pub signed-offset : (z : ℤ) → nat_abs z ≤ zero_at → signed (offset z) ≡ z
signed-offset (pos n) h = high (zero_at + n) (omega arith) ∙ ap pos (omega arith)
signed-offset (negsuc n) h = low (zero_at - suc n) (omega arith) ∙ ap negsuc (omega arith)

pub abs_signed : (d : ℕ) → nat_abs (signed d) ≡ magnitude d
abs_signed d = by (ltb d zero_at) refl
  where
    by : (x : Bool) → ltb d zero_at ≡ x → nat_abs (signed d) ≡ magnitude d
    by true e = ap nat_abs (low d (ltb-true d zero_at e)) ∙ omega (arith, ltb-true d zero_at e)
    by false e = ap nat_abs (high d (ltb-false d zero_at e)) ∙ omega (arith, ltb-false d zero_at e)

pub abs_offset : (z : ℤ) → nat_abs z ≤ zero_at → magnitude (offset z) ≡ nat_abs z
abs_offset (pos n) h = omega arith
abs_offset (negsuc n) h = omega arith

-- ---- what the machine asks and gives

pub fits_abs : (z : ℤ) → nat_abs z ≤ 2 * zero_at → SFits w64 z
fits_abs (pos n) h = record { sfits = omega arith }
fits_abs (negsuc n) h = record { sfits = omega arith }

pub offset_small : (z : ℤ) → nat_abs z ≤ zero_at → offset z ≤ 2 * zero_at
offset_small (pos n) h = omega arith
offset_small (negsuc n) h = omega arith

-- a sum with 2^40, and a difference
pub up : (z : ℤ) → nat_abs z ≤ zero_at → z +ℤ pos zero_at ≡ pos (offset z)
up (pos n) h = ap pos (omega arith)
up (negsuc n) h = cond_is (ltb zero_at (suc n)) false _ _ (le-ltb zero_at (suc n) h)

pub signed_small : (d : ℕ) → d ≤ 2 * zero_at → nat_abs (signed d) ≤ 2 * zero_at
signed_small d h = omega (arith, abs_signed d)

-- ---- the tests

false_true : false ≡ true → ⊥
false_true e = subst (λ (b : Bool). T (not b)) e tt

pub near_low : (z : ℤ) → lt_z z (negsuc 1099511627775) ≡ true → false ≡ leb (nat_abs z) zero_at
near_low (pos n) t = absurd (false_true t)
near_low (negsuc n) t = sym (lt-leb (suc n) zero_at (omega (arith, ltb-true 1099511627775 n t)))

pub near_rest : (z : ℤ) → lt_z z (negsuc 1099511627775) ≡ false → le_z z (pos zero_at) ≡ leb (nat_abs z) zero_at
near_rest (pos n) t = refl
near_rest (negsuc n) t = sym (le-leb (suc n) zero_at (omega (arith, ltb-false 1099511627775 n t)))
