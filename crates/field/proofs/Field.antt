-- The laws of the field: those of the sum, passed on from Sums; the product's two linearities, and from these and
-- computed tests on powers of x the product's laws.
-- Assumes nothing.
use mathlib.Core.Path.{◌≡◌, refl, sym, ap, ap₂, ◌∙◌, subst}
use mathlib.Core.Bool.{Bool}
use mathlib.Core.Logic.{◌≢◌}
use Prim.Native.Nat.{ℕ, zero, suc, ◌*◌, ◌/◌, ◌%◌, ◌^◌, ◌<◌, ◌≤◌}
use native.Mathlib.Nat.{mod-lt, div-lt_iff_lt-mul, le_of_suc-le-suc, pow-suc, lt-suc_self, lt_of_le_of_lt}
use native.Mathlib.Nat.{zero-mul as ℕ-zero-mul, one-mul as ℕ-one-mul, mul_comm as ℕ-mul-comm}
use native.Mathlib.Omega.{arith}
use lib.Dec.{T, eqb, eqb→eq}
use lib.Arith.{lt-one}
use lib.Pow.{pow_pos, mod-mod-pow}
use Rattle.field.specs.Field.{add, eighth_power, double, mul_bits, mul, square, pow_halves, pow}
use Rattle.lists.specs.Test.{below}
use Rattle.lists.proofs.Test.{below_at}
use Rattle.field.proofs.Sums.{add-mod, add-div, add_shift, add_parts, bit_times, times_sum, Linear, linear_zero}
pub use Rattle.field.proofs.Sums.{bit_cases, bit, add_assoc, add_comm, add_self, zero-add, add-zero, add_left_comm, add_swap, add_cancel, eq_of_add, add-lt}

-- ---- the product is linear

double-add : (a b : ℕ) → double (add a b) ≡ add (double a) (double b)
unfolding double
double-add a b =
    ap₂ add (ap (λ (x : ℕ). x % 256) (add_shift 1 a b) ∙ add-mod 8 (a * 2) (b * 2))
    (ap (λ (x : ℕ). x * eighth_power) (ap (λ (x : ℕ). x % 2) (add-div 7 a b) ∙ add-mod 1 (a / 128) (b / 128))
    ∙ bit_times (a / 128 % 2) (b / 128 % 2) eighth_power (bit (a / 128)) (bit (b / 128)))
    ∙ add_swap (a * 2 % 256) (b * 2 % 256) (a / 128 % 2 * eighth_power) (b / 128 % 2 * eighth_power)

mul_bits-left : (n a b c : ℕ) → mul_bits n (add a b) c ≡ add (mul_bits n a c) (mul_bits n b c)
unfolding mul_bits
mul_bits-left zero a b c = sym (zero-add 0)
mul_bits-left (suc n) a b c =
    ap₂ add (times_sum (c % 2) a b (bit c)) (ap (λ (x : ℕ). mul_bits n x (c / 2)) (double-add a b) ∙ mul_bits-left n (double a) (double b) (c / 2))
    ∙ add_swap (c % 2 * a) (c % 2 * b) (mul_bits n (double a) (c / 2)) (mul_bits n (double b) (c / 2))

mul_bits_right : (n a b c : ℕ) → mul_bits n a (add b c) ≡ add (mul_bits n a b) (mul_bits n a c)
unfolding mul_bits
mul_bits_right zero a b c = sym (zero-add 0)
mul_bits_right (suc n) a b c =
    ap₂ add (ap (λ (x : ℕ). x * a) (add-mod 1 b c) ∙ bit_times (b % 2) (c % 2) a (bit b) (bit c))
    (ap (mul_bits n (double a)) (add-div 1 b c) ∙ mul_bits_right n (double a) (b / 2) (c / 2))
    ∙ add_swap (b % 2 * a) (c % 2 * a) (mul_bits n (double a) (b / 2)) (mul_bits n (double a) (c / 2))

pub add-mul : (a b c : ℕ) → mul (add a b) c ≡ add (mul a c) (mul b c)
unfolding mul
add-mul a b c = ap (λ (x : ℕ). mul_bits 8 x (c % 256)) (add-mod 8 a b) ∙ mul_bits-left 8 (a % 256) (b % 256) (c % 256)

pub mul-add : (a b c : ℕ) → mul a (add b c) ≡ add (mul a b) (mul a c)
unfolding mul
mul-add a b c = ap (mul_bits 8 (a % 256)) (add-mod 8 b c) ∙ mul_bits_right 8 (a % 256) (b % 256) (c % 256)

mul_mod_left : (a b : ℕ) → mul (a % 256) b ≡ mul a b
unfolding mul
mul_mod_left a b = ap (λ (x : ℕ). mul_bits 8 x (b % 256)) (mod-mod-pow a 0 8)

mul_mod_right : (a b : ℕ) → mul a (b % 256) ≡ mul a b
unfolding mul
mul_mod_right a b = ap (mul_bits 8 (a % 256)) (mod-mod-pow b 0 8)

-- ---- a linear function is known by its values at the powers of 2

module _ (f g : ℕ → ℕ) (hf : Linear f) (hg : Linear g) where
  same-below : (k : ℕ) → ((j : ℕ) → j < k → f (2 ^ j) ≡ g (2 ^ j)) → (a : ℕ) → a < 2 ^ k → f a ≡ g a
  same-below zero h a ha = ap f (lt-one ha) ∙ linear_zero f hf ∙ sym (linear_zero g hg) ∙ ap g (sym (lt-one ha))
  same-below (suc k) h a ha =
      ap f (sym (add_parts k a)) ∙ hf (a / 2 ^ k * 2 ^ k) (a % 2 ^ k)
      ∙ ap₂ add
      (bit_cases (λ (x : ℕ). f (x * 2 ^ k) ≡ g (x * 2 ^ k))
      (rw (ℕ-zero-mul) (linear_zero f hf ∙ sym (linear_zero g hg)))
      (rw (ℕ-one-mul) (h k (lt-suc_self k)))
      (a / 2 ^ k) ((div-lt_iff_lt-mul (pow_pos k)).1 (subst (λ (x : ℕ). a < x) (pow-suc 2 k ∙ ℕ-mul-comm (2 ^ k) 2) ha)))
      (same-below k (λ j hj. h j (omega arith)) (a % 2 ^ k) (mod-lt a (pow_pos k)))
      ∙ sym (ap g (sym (add_parts k a)) ∙ hg (a / 2 ^ k * 2 ^ k) (a % 2 ^ k))

-- the same of functions that look at a byte only
abbrev Byte : (ℕ → ℕ) → Type 0
Byte f = (a : ℕ) → f (a % 256) ≡ f a

same_linear : (f g : ℕ → ℕ) → Linear f → Linear g → Byte f → Byte g → ((j : ℕ) → j < 8 → f (2 ^ j) ≡ g (2 ^ j)) → (a : ℕ) → f a ≡ g a
same_linear f g hf hg bf bg h a = sym (bf a) ∙ same-below f g hf hg 8 h (a % 256) (mod-lt a (pow_pos 8)) ∙ bg a

-- ---- the product

commutes : ℕ → ℕ → Bool
commutes i j = eqb (mul (2 ^ i) (2 ^ j)) (mul (2 ^ j) (2 ^ i))

all_commute : T (below 8 (λ i. below 8 (λ j. commutes i j)))
unfolding add double mul_bits mul commutes
all_commute = tt

pub mul_comm : (a b : ℕ) → mul a b ≡ mul b a
unfolding commutes
mul_comm a b =
    same_linear (λ a. mul a b) (λ a. mul b a) (λ x y. add-mul x y b) (λ x y. mul-add b x y) (λ a. mul_mod_left a b) (λ a. mul_mod_right b a)
    (λ i hi. same_linear (λ b. mul (2 ^ i) b) (λ b. mul b (2 ^ i)) (λ x y. mul-add (2 ^ i) x y) (λ x y. add-mul x y (2 ^ i))
    (λ b. mul_mod_right (2 ^ i) b) (λ b. mul_mod_left b (2 ^ i))
    (λ j hj. eqb→eq (mul (2 ^ i) (2 ^ j)) (mul (2 ^ j) (2 ^ i)) (below_at 8 (λ j. commutes i j) (below_at 8 (λ i. below 8 (λ j. commutes i j)) all_commute i hi) j hj)) b) a

associates : ℕ → ℕ → ℕ → Bool
associates i j k = eqb (mul (mul (2 ^ i) (2 ^ j)) (2 ^ k)) (mul (2 ^ i) (mul (2 ^ j) (2 ^ k)))

all_associate : T (below 8 (λ i. below 8 (λ j. below 8 (λ k. associates i j k))))
unfolding add double mul_bits mul associates
all_associate = tt

pub mul_assoc : (a b c : ℕ) → mul (mul a b) c ≡ mul a (mul b c)
unfolding associates
mul_assoc a b c =
    same_linear (λ a. mul (mul a b) c) (λ a. mul a (mul b c)) (λ x y. rw (add-mul, add-mul)) (λ x y. add-mul x y (mul b c))
    (λ a. rw mul_mod_left) (λ a. mul_mod_left a (mul b c))
    (λ i hi. same_linear (λ b. mul (mul (2 ^ i) b) c) (λ b. mul (2 ^ i) (mul b c)) (λ x y. rw (mul-add, add-mul)) (λ x y. rw (add-mul, mul-add))
    (λ b. rw mul_mod_right) (λ b. rw mul_mod_left)
    (λ j hj. same_linear (λ c. mul (mul (2 ^ i) (2 ^ j)) c) (λ c. mul (2 ^ i) (mul (2 ^ j) c)) (λ x y. rw mul-add) (λ x y. rw (mul-add, mul-add))
    (λ c. rw mul_mod_right) (λ c. rw mul_mod_right)
    (λ k hk. eqb→eq (mul (mul (2 ^ i) (2 ^ j)) (2 ^ k)) (mul (2 ^ i) (mul (2 ^ j) (2 ^ k)))
    (below_at 8 (λ k. associates i j k) (below_at 8 (λ j. below 8 (λ k. associates i j k)) (below_at 8 (λ i. below 8 (λ j. below 8 (λ k. associates i j k))) all_associate i hi) j hj) k hk)) c) b) a

pub mul-zero : (a : ℕ) → mul a 0 ≡ 0
mul-zero a = linear_zero (mul a) (mul-add a)

pub zero-mul : (a : ℕ) → mul 0 a ≡ 0
zero-mul a = mul_comm 0 a ∙ mul-zero a

all_one : T (below 256 (λ a. eqb (mul 1 a) a))
unfolding add double mul_bits mul
all_one = tt

pub one-mul : (a : ℕ) → a < 256 → mul 1 a ≡ a
one-mul a ha = eqb→eq (mul 1 a) a (below_at 256 (λ a. eqb (mul 1 a) a) all_one a ha)

pub bit_le : (x a : ℕ) → x < 2 → x * a ≤ a
bit_le x a hx = bit_cases (λ (x : ℕ). x * a ≤ a) (rw ℕ-zero-mul (omega arith)) (rw ℕ-one-mul (omega arith)) x hx

double-lt : (a : ℕ) → double a < 256
unfolding double
double-lt a = add-lt (mod-lt (a * 2) (pow_pos 8)) (omega (arith, bit (a / 128)))

mul_bits-lt : (n a b : ℕ) → a < 256 → mul_bits n a b < 256
unfolding mul_bits
mul_bits-lt zero a b h = pow_pos 8
mul_bits-lt (suc n) a b h = add-lt (lt_of_le_of_lt (bit_le (b % 2) a (bit b)) h) (mul_bits-lt n (double a) (b / 2) (double-lt a))

pub mul-lt : (a b : ℕ) → mul a b < 256
unfolding mul
mul-lt a b = mul_bits-lt 8 (a % 256) (b % 256) (mod-lt a (pow_pos 8))

pub mul-one : (a : ℕ) → a < 256 → mul a 1 ≡ a
mul-one a h = mul_comm a 1 ∙ one-mul a h

pub mul_left_comm : (a b c : ℕ) → mul a (mul b c) ≡ mul b (mul a c)
mul_left_comm a b c = sym (mul_assoc a b c) ∙ ap (λ (x : ℕ). mul x c) (mul_comm a b) ∙ mul_assoc b a c

-- ---- what is not 0 has an inverse: the elements but 0 have an order that divides 255

all_inverse : T (below 255 (λ a. eqb (mul (suc a) (pow (suc a) 254)) 1))
unfolding add double mul_bits mul square pow_halves pow
all_inverse = tt

pub mul-pow_254 : (a : ℕ) → a < 256 → a ≢ 0 → mul a (pow a 254) ≡ 1
mul-pow_254 zero h nz = absurd (nz refl)
mul-pow_254 (suc a) h nz =
    eqb→eq (mul (suc a) (pow (suc a) 254)) 1 (below_at 255 (λ a. eqb (mul (suc a) (pow (suc a) 254)) 1) all_inverse a (le_of_suc-le-suc h))

-- no zero divisors
pub zero_of_mul : (a b : ℕ) → a < 256 → b < 256 → a ≢ 0 → mul a b ≡ 0 → b ≡ 0
zero_of_mul a b ha hb nz e =
    sym (one-mul b hb) ∙ ap (λ (x : ℕ). mul x b) (sym (mul-pow_254 a ha nz) ∙ mul_comm a (pow a 254)) ∙ mul_assoc (pow a 254) a b
    ∙ ap (mul (pow a 254)) e ∙ mul-zero (pow a 254)

pub mul_cancel : (a b c : ℕ) → a < 256 → b < 256 → c < 256 → a ≢ 0 → mul a b ≡ mul a c → b ≡ c
mul_cancel a b c ha hb hc nz e =
    eq_of_add b c (zero_of_mul a (add b c) ha (add-lt hb hc) nz (mul-add a b c ∙ ap (λ (x : ℕ). add x (mul a c)) e ∙ add_self (mul a c)))

pub mul_swap : (a b c d : ℕ) → mul (mul a b) (mul c d) ≡ mul (mul a c) (mul b d)
mul_swap a b c d = simp (mul_assoc, mul_left_comm)
