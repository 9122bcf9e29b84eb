-- The inverse: the one element whose product with a is 1.
-- Assumes nothing.
use mathlib.Core.Path.{◌≡◌, refl, sym, ap, ◌∙◌}
use mathlib.Core.Bool.{true, false}
use mathlib.Core.Logic.{◌≢◌}
use Prim.Native.Nat.{ℕ, zero, suc, ◌<◌}
use native.Mathlib.Omega.{arith}
use borrow.Author.Tests.{eq-eqb, eqb-true}
use lib.Dec.{eqb}
use Rattle.field.specs.Field.{mul, pow, inverse}
use Rattle.lists.specs.Test.{last_below}
use Rattle.lists.proofs.Test.{last_unique}
use Rattle.field.proofs.Field.{mul_cancel, mul-pow_254, zero-mul}
use Rattle.field.proofs.Powers.{pow-lt}

nonzero : (a b : ℕ) → mul a b ≡ 1 → a ≢ 0
nonzero a b e z = let q : ◌≡◌ {A = ℕ} 1 0 = sym e ∙ ap (λ (x : ℕ). mul x b) z ∙ zero-mul b in omega arith

-- whatever gives 1 is the inverse
pub inverse-is : (a b : ℕ) → a < 256 → b < 256 → mul a b ≡ 1 → inverse a ≡ b
unfolding inverse
inverse-is a b ha hb e =
    last_unique (λ b. eqb (mul a b) 1) 256 b hb (eq-eqb (mul a b) 1 e)
    (λ k hk t. mul_cancel a k b ha hk hb (nonzero a b e) (eqb-true (mul a k) 1 t ∙ sym e))

pub mul-inverse : (a : ℕ) → a < 256 → a ≢ 0 → mul a (inverse a) ≡ 1
mul-inverse a ha nz = ap (mul a) (inverse-is a (pow a 254) ha (pow-lt a ha 254) (mul-pow_254 a ha nz)) ∙ mul-pow_254 a ha nz

none-zero : (n : ℕ) → last_below (λ b. eqb (mul 0 b) 1) n ≡ 0
unfolding last_below
none-zero zero = refl
none-zero (suc n) = ap (λ (x : ℕ). elim (eqb x 1) [ true ↦ n | false ↦ last_below (λ b. eqb (mul 0 b) 1) n ]) (zero-mul n) ∙ none-zero n

pub inverse-zero : inverse 0 ≡ 0
unfolding inverse
inverse-zero = none-zero 256
