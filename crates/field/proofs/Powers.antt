-- The laws of powers: by one more factor, and so of sums and products of exponents, and along the bits of an exponent.
-- Assumes nothing.
use mathlib.Core.Path.{◌≡◌, refl, sym, ap, ap₂, ◌∙◌, subst, ◌≡⟨◌⟩◌, ◌∎}
use mathlib.Core.Bool.{not}
use mathlib.Core.Logic.{◌≢◌}
use Prim.Native.Nat.{ℕ, zero, suc, ◌+◌, ◌-◌, ◌/◌, ◌%◌, ◌<◌, ◌≤◌}
use native.Mathlib.Nat.{not-suc-le-zero, le_of_suc-le-suc, le_refl, div-add-mod', add-suc}
use native.Mathlib.Nat.{add-zero as ℕ-add-zero}
use native.Mathlib.Decide.{le_ind}
use native.Mathlib.Omega.{arith}
use lib.Dec.{T, eqb, T_not, eqb_refl}
use lib.Arith.{bin_ind, half_le}
use Rattle.field.specs.Field.{add, double, mul_bits, mul, square, odd_factor, pow_halves, pow}
use Rattle.lists.specs.Test.{below}
use Rattle.lists.proofs.Test.{below_at}
use Rattle.field.proofs.Field.{bit_cases, bit, mul-lt, mul_assoc, mul_left_comm, mul_swap, one-mul, mul-one, zero_of_mul, mul_cancel}

-- ---- halves to go beyond the exponent's own change nothing

more : (d a n : ℕ) → n ≤ d → pow_halves (suc d) a n ≡ pow_halves d a n
unfolding pow_halves
more zero a zero h = refl
more zero a (suc n) h = absurd (not-suc-le-zero h)
more (suc d) a zero h = refl
more (suc d) a (suc n) h = ap (λ (x : ℕ). mul (square x) (odd_factor (suc n % 2) a)) (more d a (suc n / 2) (half_le h))

enough : (d a n : ℕ) → n ≤ d → pow_halves d a n ≡ pow_halves n a n
enough d a n h = le_ind (λ (m : ℕ). pow_halves m a n ≡ pow_halves n a n) refl (λ m k e. more m a n k ∙ e) d h

-- ---- the same power by one factor after the other

factors : ℕ → ℕ → ℕ
factors a zero = 1
factors a (suc n) = mul a (factors a n)

factors_lt : (a n : ℕ) → factors a n < 256
unfolding factors
factors_lt a zero = omega arith
factors_lt a (suc n) = mul-lt a (factors a n)

factors_add : (a m n : ℕ) → factors a (m + n) ≡ mul (factors a m) (factors a n)
unfolding factors
factors_add a m zero = ap (factors a) (ℕ-add-zero m) ∙ sym (mul-one (factors a m) (factors_lt a m))
factors_add a m (suc n) =
    ap (factors a) (add-suc m n) ∙ ap (mul a) (factors_add a m n) ∙ mul_left_comm a (factors a m) (factors a n)

module _ (a : ℕ) (ha : a < 256) where
  odd : (x : ℕ) → x < 2 → odd_factor x a ≡ factors a x
  unfolding factors
  odd x = bit_cases (λ (x : ℕ). odd_factor x a ≡ factors a x) refl (sym (mul-one a ha)) x

  pow-half : (n : ℕ) → pow a (n / 2) ≡ factors a (n / 2) → pow a n ≡ factors a n
  unfolding pow pow_halves square
  pow-half zero ih = ih
  pow-half (suc n) ih =
      ap (λ (x : ℕ). mul (mul x x) (odd_factor (suc n % 2) a)) (enough n a (suc n / 2) (half_le (le_refl (suc n))) ∙ ih)
      ∙ ap₂ mul (sym (factors_add a (suc n / 2) (suc n / 2))) (odd (suc n % 2) (bit (suc n)))
      ∙ sym (factors_add a (suc n / 2 + suc n / 2) (suc n % 2))
      ∙ ap (factors a) (omega (arith, div-add-mod' (suc n) 2))

  pow_factors : (n : ℕ) → pow a n ≡ factors a n
  unfolding pow pow_halves factors
  pow_factors = bin_ind (λ (n : ℕ). pow a n ≡ factors a n) refl pow-half

pub pow-zero : (a : ℕ) → pow a 0 ≡ 1
unfolding pow pow_halves
pow-zero a = refl

pub pow-suc : (a : ℕ) → a < 256 → (n : ℕ) → pow a (suc n) ≡ mul a (pow a n)
unfolding factors
pow-suc a ha n = pow_factors a ha (suc n) ∙ ap (mul a) (sym (pow_factors a ha n))

pub pow-lt : (a : ℕ) → a < 256 → (n : ℕ) → pow a n < 256
pow-lt a ha n = rw (pow_factors a ha n) (factors_lt a n)

pub pow-add : (a : ℕ) → a < 256 → (m n : ℕ) → pow a (m + n) ≡ mul (pow a m) (pow a n)
pow-add a ha m n = simp (pow_factors a ha) (factors_add a m n)

pub pow-mul : (a b : ℕ) → a < 256 → b < 256 → (n : ℕ) → pow (mul a b) n ≡ mul (pow a n) (pow b n)
pow-mul a b ha hb zero = rw (pow-zero, pow-zero, pow-zero, one-mul 1 (omega arith))
pow-mul a b ha hb (suc n) =
    pow-suc (mul a b) (mul-lt a b) n ∙ ap (mul (mul a b)) (pow-mul a b ha hb n)
    ∙ mul_swap a b (pow a n) (pow b n) ∙ sym (ap₂ mul (pow-suc a ha n) (pow-suc b hb n))

one-pow : (n : ℕ) → pow 1 n ≡ 1
one-pow zero = pow-zero 1
one-pow (suc n) = pow-suc 1 (omega arith) n ∙ ap (mul 1) (one-pow n) ∙ one-mul 1 (omega arith)

-- a power of a power: the exponents may change places
pub pow_swap : (a : ℕ) → a < 256 → (m n : ℕ) → pow (pow a m) n ≡ pow (pow a n) m
pow_swap a ha zero n = rw (pow-zero a, one-pow, pow-zero)
pow_swap a ha (suc m) n =
    ap (λ (x : ℕ). pow x n) (pow-suc a ha m) ∙ pow-mul a (pow a m) ha (pow-lt a ha m) n ∙ ap (mul (pow a n)) (pow_swap a ha m n)
    ∙ sym (pow-suc (pow a n) (pow-lt a ha n) m)

pow_nonzero : (a : ℕ) → a < 256 → a ≢ 0 → (n : ℕ) → pow a n ≢ 0
pow_nonzero a ha nz zero e = let e₁ : ◌≡◌ {A = ℕ} 1 0 = sym (pow-zero a) ∙ e in omega arith
pow_nonzero a ha nz (suc n) e = pow_nonzero a ha nz n (zero_of_mul a (pow a n) ha (pow-lt a ha n) nz (sym (pow-suc a ha n) ∙ e))

-- ---- α has the order 255

order_test : T (below 254 (λ k. not (eqb (pow 2 (suc k)) 1)))
unfolding add double mul_bits mul square pow_halves pow
order_test = tt

pub alpha_order : pow 2 255 ≡ 1
unfolding add double mul_bits mul square pow_halves pow
alpha_order = refl

pub not-one : (k : ℕ) → 0 < k → k < 255 → pow 2 k ≢ 1
not-one zero h l e = absurd (not-suc-le-zero h)
not-one (suc k) h l e =
    T_not (eqb (pow 2 (suc k)) 1) (below_at 254 (λ k. not (eqb (pow 2 (suc k)) 1)) order_test k (le_of_suc-le-suc l))
    (subst (λ (x : ℕ). T (eqb x 1)) (sym e) (eqb_refl 1))

-- α is an element
pub alpha : 2 < 256
alpha = omega arith

pub alpha_lt : (n : ℕ) → pow 2 n < 256
alpha_lt n = pow-lt 2 alpha n

pub alpha_nonzero : (n : ℕ) → pow 2 n ≢ 0
alpha_nonzero n = pow_nonzero 2 alpha (omega arith) n

-- the powers of α below the 255th differ
pub powers_differ : (i j : ℕ) → i < j → j < 255 → pow 2 i ≢ pow 2 j
powers_differ i j h l e =
    not-one (j - i) (omega arith) (omega arith)
    (mul_cancel (pow 2 i) (pow 2 (j - i)) 1 (alpha_lt i) (alpha_lt (j - i)) (omega arith) (alpha_nonzero i)
    (sym (pow-add 2 alpha i (j - i)) ∙ ap (pow 2) (omega arith) ∙ sym e ∙ sym (mul-one (pow 2 i) (alpha_lt i))))

-- ---- a turn of the loop along the exponent's bits, low bit first: p is the accumulator, b the base, n the bits left, and p · b^n stays what it was

pow-square : (a : ℕ) → a < 256 → (n : ℕ) → pow (mul a a) n ≡ pow a (n + n)
pow-square a ha n = pow-mul a a ha ha n ∙ sym (pow-add a ha n n)

pub mul-pow_even : (p b n : ℕ) → b < 256 → n % 2 ≡ 0 → mul p (pow (mul b b) (n / 2)) ≡ mul p (pow b n)
mul-pow_even p b n hb even =
    mul p (pow (mul b b) (n / 2)) ≡⟨ ap (mul p) (pow-square b hb (n / 2)) ⟩
    mul p (pow b (n / 2 + n / 2)) ≡⟨ ap (λ (k : ℕ). mul p (pow b k)) (omega arith) ⟩
    mul p (pow b n) ∎

pub mul-pow_odd : (p b n : ℕ) → b < 256 → n % 2 ≡ 1 → mul (mul p b) (pow (mul b b) (n / 2)) ≡ mul p (pow b n)
mul-pow_odd p b n hb odd =
    mul (mul p b) (pow (mul b b) (n / 2)) ≡⟨ mul_assoc p b (pow (mul b b) (n / 2)) ⟩
    mul p (mul b (pow (mul b b) (n / 2))) ≡⟨ ap (λ (x : ℕ). mul p (mul b x)) (pow-square b hb (n / 2)) ⟩
    mul p (mul b (pow b (n / 2 + n / 2))) ≡⟨ ap (mul p) (sym (pow-suc b hb (n / 2 + n / 2))) ⟩
    mul p (pow b (suc (n / 2 + n / 2))) ≡⟨ ap (λ (k : ℕ). mul p (pow b k)) (omega arith) ⟩
    mul p (pow b n) ∎
