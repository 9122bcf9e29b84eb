-- Sums of the field: they are formed bit by bit with no carry, so that their laws hold of numbers of any length.
--   bit_cases, bit                                                    a digit is 0 or 1
--   add_assoc .. eq_of_add, add-lt                                    the group, and that bytes stay bytes
--   add-mod, add-div, add_shift, add_apart, add_parts, digit_add      digits of a sum
--   bit_times, times_sum, sum-bit                                     one digit and a number
--   Linear, linear_zero                                               functions that keep sums
-- Assumes nothing.
use mathlib.Core.Path.{◌≡◌, refl, sym, ap, ap₂, ◌∙◌}
use Prim.Native.Nat.{ℕ, zero, suc, ◌+◌, ◌*◌, ◌/◌, ◌%◌, ◌^◌, ◌<◌}
use native.Mathlib.Nat.{mod-lt, zero-lt-suc, not-suc-le-zero, le_of_suc-le-suc}
use native.Mathlib.Nat.{zero-mul as ℕ-zero-mul, one-mul as ℕ-one-mul, add-zero as ℕ-add-zero}
use native.Mathlib.Omega.{arith}
use lib.Dec.{eqb, eqb→eq}
use lib.Arith.{bin_ind}
use lib.Pow.{pow_pos, split}
use lib.Bits.{bit_xor, differ, xor_step, xor_shr, xor_mod, xor_block, xor_shifted, xor_comm, xor_self, xor_lt}
use Rattle.lists.specs.Test.{below}
use Rattle.lists.proofs.Test.{below_at}
use Rattle.field.specs.Field.{add}

-- ---- digits

pub bit_cases : (P : ℕ → Type 0) → P 0 → P 1 → (x : ℕ) → x < 2 → P x
bit_cases P p q zero h = p
bit_cases P p q (suc zero) h = q
bit_cases P p q (suc (suc x)) h = absurd (not-suc-le-zero (le_of_suc-le-suc (le_of_suc-le-suc h)))

pub bit : (n : ℕ) → n % 2 < 2
bit n = mod-lt n (zero-lt-suc 1)

digit3 : (x y z : ℕ) → x < 2 → y < 2 → z < 2 → differ (bit_xor x y) z ≡ differ x (bit_xor y z)
digit3 x y z hx hy hz =
    eqb→eq (differ (bit_xor x y) z) (differ x (bit_xor y z))
    (below_at 2 (λ z. eqb (differ (bit_xor x y) z) (differ x (bit_xor y z)))
    (below_at 2 (λ y. below 2 (λ z. eqb (differ (bit_xor x y) z) (differ x (bit_xor y z))))
    (below_at 2 (λ x. below 2 (λ y. below 2 (λ z. eqb (differ (bit_xor x y) z) (differ x (bit_xor y z))))) tt x hx) y hy) z hz)

xor_assoc : (a b c : ℕ) → bit_xor (bit_xor a b) c ≡ bit_xor a (bit_xor b c)
xor_assoc =
    bin_ind (λ (a : ℕ). (b c : ℕ) → bit_xor (bit_xor a b) c ≡ bit_xor a (bit_xor b c)) (λ b c. refl)
    (λ a ih b c. xor_step (bit_xor a b) c
    ∙ ap₂ (λ (x y : ℕ). x * 2 + y)
    (ap (λ (x : ℕ). bit_xor x (c / 2)) (xor_shr a b 1) ∙ ih (b / 2) (c / 2) ∙ ap (λ (x : ℕ). bit_xor (a / 2) x) (sym (xor_shr b c 1)))
    (ap (λ (x : ℕ). differ x (c % 2)) (xor_mod a b 1) ∙ digit3 (a % 2) (b % 2) (c % 2) (bit a) (bit b) (bit c)
    ∙ ap (λ (x : ℕ). differ (a % 2) x) (sym (xor_mod b c 1)))
    ∙ sym (xor_step a (bit_xor b c)))

-- ---- sums

pub add_assoc : (a b c : ℕ) → add (add a b) c ≡ add a (add b c)
unfolding add
add_assoc a b c = xor_assoc a b c

pub add_comm : (a b : ℕ) → add a b ≡ add b a
unfolding add
add_comm a b = xor_comm a b

pub add_self : (a : ℕ) → add a a ≡ 0
unfolding add
add_self a = xor_self a

pub zero-add : (a : ℕ) → add 0 a ≡ a
unfolding add
zero-add a = refl

pub add-zero : (a : ℕ) → add a 0 ≡ a
add-zero a = add_comm a 0 ∙ zero-add a

pub add_left_comm : (a b c : ℕ) → add a (add b c) ≡ add b (add a c)
add_left_comm a b c = sym (add_assoc a b c) ∙ ap (λ (x : ℕ). add x c) (add_comm a b) ∙ add_assoc b a c

pub add_swap : (a b c d : ℕ) → add (add a b) (add c d) ≡ add (add a c) (add b d)
add_swap a b c d = simp (add_assoc, add_left_comm)

pub add_cancel : (a b : ℕ) → add a (add a b) ≡ b
add_cancel a b = rw (← add_assoc, add_self, zero-add)

pub eq_of_add : (a b : ℕ) → add a b ≡ 0 → a ≡ b
eq_of_add a b e = sym (add-zero a) ∙ ap (add a) (sym e) ∙ add_cancel a b

pub add-lt : {a b : ℕ} → a < 256 → b < 256 → add a b < 256
unfolding add
add-lt {a} {b} ha hb = xor_lt 8 a b ha hb

-- ---- digits of a sum

pub add-mod : (k a b : ℕ) → add a b % 2 ^ k ≡ add (a % 2 ^ k) (b % 2 ^ k)
unfolding add
add-mod k a b = xor_mod a b k

pub add-div : (k a b : ℕ) → add a b / 2 ^ k ≡ add (a / 2 ^ k) (b / 2 ^ k)
unfolding add
add-div k a b = xor_shr a b k

pub add_shift : (k a b : ℕ) → add a b * 2 ^ k ≡ add (a * 2 ^ k) (b * 2 ^ k)
unfolding add
add_shift k a b =
    sym (ℕ-add-zero (bit_xor a b * 2 ^ k)) ∙ sym (xor_block k a b 0 0 (pow_pos k) (pow_pos k))
    ∙ ap₂ bit_xor (ℕ-add-zero (a * 2 ^ k)) (ℕ-add-zero (b * 2 ^ k))

-- digits in places of their own add without a carry
pub add_apart : (k a b : ℕ) → b < 2 ^ k → add (a * 2 ^ k) b ≡ a * 2 ^ k + b
unfolding add
add_apart k a b h = xor_shifted a k b h

-- a number is the sum of its k lowest digits and the rest
pub add_parts : (k a : ℕ) → add (a / 2 ^ k * 2 ^ k) (a % 2 ^ k) ≡ a
add_parts k a = add_apart k (a / 2 ^ k) (a % 2 ^ k) (mod-lt a (pow_pos k)) ∙ split a k

-- digit k of a sum
pub digit_add : (k a b : ℕ) → add a b / 2 ^ k % 2 ≡ add (a / 2 ^ k % 2) (b / 2 ^ k % 2)
digit_add k a b = ap (λ (x : ℕ). x % 2) (add-div k a b) ∙ add-mod 1 (a / 2 ^ k) (b / 2 ^ k)

-- ---- one digit and a number

pub bit_times : (x y c : ℕ) → x < 2 → y < 2 → add x y * c ≡ add (x * c) (y * c)
bit_times x y c hx hy =
    bit_cases (λ (x : ℕ). add x y * c ≡ add (x * c) (y * c)) (simp (ℕ-zero-mul, zero-add))
    (bit_cases (λ (y : ℕ). add 1 y * c ≡ add (1 * c) (y * c)) (simp (ℕ-zero-mul, add-zero)) (simp (add_self, ℕ-zero-mul)) y hy)
    x hx

pub times_sum : (x a b : ℕ) → x < 2 → x * add a b ≡ add (x * a) (x * b)
times_sum x a b hx = bit_cases (λ (x : ℕ). x * add a b ≡ add (x * a) (x * b)) (simp (ℕ-zero-mul, zero-add)) (simp ℕ-one-mul) x hx

bit-sum : (x y : ℕ) → x < 2 → y < 2 → (x + y) % 2 ≡ add x y
unfolding add
bit-sum x y hx hy =
    bit_cases (λ (x : ℕ). (x + y) % 2 ≡ bit_xor x y)
    (bit_cases (λ (y : ℕ). (0 + y) % 2 ≡ bit_xor 0 y) refl refl y hy)
    (bit_cases (λ (y : ℕ). (1 + y) % 2 ≡ bit_xor 1 y) refl refl y hy)
    x hx

-- the last digit of a sum with carries
pub sum-bit : (a b : ℕ) → (a + b) % 2 ≡ add (a % 2) (b % 2)
sum-bit a b =
    let e : (a + b) % 2 ≡ (a % 2 + b % 2) % 2 = omega arith in
    e ∙ bit-sum (a % 2) (b % 2) (bit a) (bit b)

-- ---- functions that keep sums

abbrev pub Linear : (ℕ → ℕ) → Type 0
Linear f = (a b : ℕ) → f (add a b) ≡ add (f a) (f b)

pub linear_zero : (f : ℕ → ℕ) → Linear f → f 0 ≡ 0
linear_zero f hf = ap f (sym (add_self 0)) ∙ hf 0 0 ∙ add_self (f 0)
