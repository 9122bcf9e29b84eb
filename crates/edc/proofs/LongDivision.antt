-- The long division of EDC and the polynomial x^32 + x^31 + x^4 + 1 that it divides by: products with it are linear (generator-add), one below x^32 is 0
-- (multiple_small), and each step leaves what a multiple leaves over (leaves_bytes). So the four bytes of a remainder after it leave nothing (absorb_four).
-- Assumes nothing.
use mathlib.Core.Path.{◌≡◌, refl, sym, ap, ap₂, ◌∙◌, subst, ◌≡⟨◌⟩◌, ◌∎}
use mathlib.Core.List.{List, [], ◌∷◌}
use Prim.Native.Nat.{ℕ, zero, suc, ◌+◌, ◌*◌, ◌^◌, ◌/◌, ◌%◌, ◌<◌}
use native.Mathlib.Nat.{mod-lt, mod-eq_of_lt, mul_comm, mul_assoc, pow-suc}
use native.Mathlib.Numerals.{one-add}
use native.Mathlib.Omega.{arith}
use lib.Bits.{xor_lt}
use lib.Pow.{pow_pos, mod-pow-add}
use Rattle.lists.specs.Bytes.{Bytes}
use Rattle.field.specs.Field.{add}
use Rattle.field.proofs.Sums.{bit_cases, bit, add_assoc, add_comm, add_left_comm, add_self, add-zero, zero-add, add_cancel, add_swap, eq_of_add, add-div, add_shift, add_apart, add_parts, bit_times, sum-bit}
use Rattle.edc.specs.Edc.{edc_bit, edc_bits, edc_from, four_bytes}
use Rattle.edc.specs.Polynomial.{bit_field_from, times_generator}

-- ---- products

-- the product with one digit: x^32, and what the long division brings in for it
generator-bit : (c : ℕ) → c < 2 → times_generator c ≡ add (c * 4294967296) (edc_bit 0 c)
unfolding times_generator edc_bit add
generator-bit = bit_cases (λ (c : ℕ). times_generator c ≡ add (c * 4294967296) (edc_bit 0 c)) refl refl

generator-sum : (q : ℕ) → times_generator q ≡ add (q * 4294967296) (add (q * 2147483648) (add (q * 16) q))
unfolding times_generator add
generator-sum q = refl

pub generator-add : (a b : ℕ) → times_generator (add a b) ≡ add (times_generator a) (times_generator b)
generator-add a b =
    generator-sum (add a b)
    ∙ ap₂ add (add_shift 32 a b) (ap₂ add (add_shift 31 a b) (ap (λ (x : ℕ). add x (add a b)) (add_shift 4 a b) ∙ add_swap (a * 16) (b * 16) a b)
    ∙ add_swap (a * 2147483648) (b * 2147483648) (add (a * 16) a) (add (b * 16) b))
    ∙ add_swap (a * 4294967296) (b * 4294967296) (add (a * 2147483648) (add (a * 16) a)) (add (b * 2147483648) (add (b * 16) b))
    ∙ sym (ap₂ add (generator-sum a) (generator-sum b))

generator-double : (q : ℕ) → times_generator q * 2 ≡ times_generator (q * 2)
generator-double q =
    let t : ℕ = q * 4294967296 in
    let u : ℕ = q * 2147483648 in
    let v : ℕ = q * 16 in
    let a : t * 2 ≡ q * 2 * 4294967296 = omega arith in
    let b : u * 2 ≡ q * 2 * 2147483648 = omega arith in
    let c : v * 2 ≡ q * 2 * 16 = omega arith in
    ap (λ (x : ℕ). x * 2) (generator-sum q) ∙ add_shift 1 t (add u (add v q))
    ∙ ap₂ add a (add_shift 1 u (add v q) ∙ ap₂ add b (add_shift 1 v q ∙ ap (λ (x : ℕ). add x (q * 2)) c))
    ∙ sym (generator-sum (q * 2))

-- ---- a multiple below x^32 is 0

-- the places of x^32 and above in a product
generator-high : (q : ℕ) → times_generator q / 4294967296 ≡ add q (add (q / 2) (add (q / 268435456) (q / 4294967296)))
generator-high q =
    let t : ℕ = q * 4294967296 in
    let u : ℕ = q * 2147483648 in
    let v : ℕ = q * 16 in
    let a : t / 4294967296 ≡ q = omega arith in
    let b : u / 4294967296 ≡ q / 2 = omega arith in
    let c : v / 4294967296 ≡ q / 268435456 = omega arith in
    ap (λ (x : ℕ). x / 4294967296) (generator-sum q) ∙ add-div 32 t (add u (add v q))
    ∙ ap₂ add a (add-div 32 u (add v q) ∙ ap₂ add b (add-div 32 v q ∙ ap (λ (x : ℕ). add x (q / 4294967296)) c))

-- a q of k digits is the sum of parts of k - 1 digits, and so on
small_zero : (k q : ℕ) → q < 2 ^ k → times_generator q < 4294967296 → q ≡ 0
unfolding add
small_zero zero q h l = omega arith
small_zero (suc k) q h l =
    let h₁ : q < 2 ^ k * 2 = subst (λ (x : ℕ). q < x) (pow-suc 2 k) h in
    let parts : ℕ = add (q / 2) (add (q / 268435456) (q / 4294967296)) in
    let z : times_generator q / 4294967296 ≡ 0 = omega arith in
    let e : q ≡ parts = eq_of_add q parts (sym (generator-high q) ∙ z) in
    let n : parts < 2 ^ k =
    xor_lt k (q / 2) (add (q / 268435456) (q / 4294967296)) (omega arith) (xor_lt k (q / 268435456) (q / 4294967296) (omega arith) (omega arith)) in
    small_zero k q (subst (λ (x : ℕ). x < 2 ^ k) (sym e) n) l

lt-two-pow : (n : ℕ) → n < 2 ^ n
lt-two-pow zero = omega arith
lt-two-pow (suc n) = omega (arith, pow-suc 2 n, lt-two-pow n)

generator-zero : times_generator 0 ≡ 0
unfolding times_generator
generator-zero = refl

pub multiple_small : (q : ℕ) → times_generator q < 4294967296 → times_generator q ≡ 0
multiple_small q l = ap times_generator (small_zero q q (lt-two-pow q) l) ∙ generator-zero

-- ---- remainders have 32 bits

bit-lt : (r b : ℕ) → edc_bit r b < 4294967296
unfolding edc_bit
bit-lt r b = xor_lt 32 (r * 2 % 4294967296) _ (omega arith) (omega arith)

bits-lt : (r x n : ℕ) → r < 4294967296 → edc_bits r x n < 4294967296
unfolding edc_bits
bits-lt r x zero h = h
bits-lt r x (suc n) h = bits-lt (edc_bit r (x / 2 ^ n % 2)) x n (bit-lt r (x / 2 ^ n % 2))

pub from_lt : (r : ℕ) (xs : List ℕ) → r < 4294967296 → edc_from r xs < 4294967296
unfolding edc_from
from_lt r [] h = h
from_lt r (x ∷ xs) h = from_lt (edc_bits r x 8) xs (bits-lt r x 8 h)

-- ---- the long division: m leaves r where they differ by a multiple

unfoldable pub Leaves : ℕ → ℕ → Type 0
Leaves m r = (q : ℕ) × (m ≡ add (times_generator q) r)

add-last : (w x y z : ℕ) → add (add w (add x y)) z ≡ add w (add (add x z) y)
add-last w x y z = simp (add_assoc, add_comm, add_left_comm)

-- one bit: the remainder moves up, and what the digit that leaves it brings in is added
edc_bit_parts : (r b : ℕ) → edc_bit r b ≡ add (r * 2 % 4294967296) (edc_bit 0 ((r / 2147483648 + b) % 2))
unfolding edc_bit add
edc_bit_parts r b =
    let c : ℕ = (r / 2147483648 + b) % 2 in
    let e : c ≡ (0 + c) % 2 = omega arith in
    ap (λ (x : ℕ). add (r * 2 % 4294967296) (x * 0x80000011)) e

-- the digit that leaves at x^32, less its multiple
reduce_digit : (r b : ℕ) → add ((r / 2147483648 + b) % 2 * 4294967296) (r * 2 % 4294967296) ≡ add (times_generator ((r / 2147483648 + b) % 2)) (edc_bit r b)
reduce_digit r b =
    let c : ℕ = (r / 2147483648 + b) % 2 in
    let low : ℕ = r * 2 % 4294967296 in
    let t : ℕ = c * 4294967296 in
    let g : ℕ = edc_bit 0 c in
    sym (ap₂ add (generator-bit c (bit (r / 2147483648 + b))) (edc_bit_parts r b) ∙ add_swap t g low g ∙ ap (add (add t low)) (add_self g) ∙ add-zero (add t low))

-- one bit more, at x^32
leaves_bit : (m r b : ℕ) → r < 4294967296 → b < 2 → Leaves m r → Leaves (add (m * 2) (b * 4294967296)) (edc_bit r b)
unfolding Leaves
leaves_bit m r b hr hb l =
    let q : ℕ = l.0 * 2 in
    let top : ℕ = r / 2147483648 in
    let low : ℕ = r * 2 % 4294967296 in
    let c : ℕ = (top + b) % 2 in
    let t : ℕ = top * 4294967296 in
    let u : ℕ = b * 4294967296 in
    let top_digit : top % 2 ≡ top = omega arith in
    let digit : b % 2 ≡ b = omega arith in
    let high : r * 2 / 4294967296 ≡ top = omega arith in
    let moved : m * 2 ≡ add (times_generator q) (add t low) =
    ap (λ (x : ℕ). x * 2) l.1 ∙ add_shift 1 (times_generator l.0) r
    ∙ ap₂ add (generator-double l.0) (sym (add_parts 32 (r * 2)) ∙ ap (λ (x : ℕ). add (x * 4294967296) low) high) in
    let leaving : add t u ≡ c * 4294967296 =
    sym (bit_times top b 4294967296 (omega arith) hb) ∙ ap (λ (x : ℕ). x * 4294967296) (sym (sum-bit top b ∙ ap₂ add top_digit digit)) in (
      add q c,
      (add (m * 2) u ≡⟨ ap (λ (x : ℕ). add x u) moved ⟩
          add (add (times_generator q) (add t low)) u ≡⟨ add-last (times_generator q) t low u ⟩
          add (times_generator q) (add (add t u) low) ≡⟨ ap (λ (x : ℕ). add (times_generator q) (add x low)) leaving ⟩
          add (times_generator q) (add (c * 4294967296) low) ≡⟨ ap (add (times_generator q)) (reduce_digit r b) ⟩
          add (times_generator q) (add (times_generator c) (edc_bit r b)) ≡⟨ sym (add_assoc (times_generator q) (times_generator c) (edc_bit r b)) ⟩
          add (add (times_generator q) (times_generator c)) (edc_bit r b) ≡⟨ ap (λ (x : ℕ). add x (edc_bit r b)) (sym (generator-add q c)) ⟩
          add (times_generator (add q c)) (edc_bit r b) ∎),
    )

-- the k lowest bits of x more
leaves_bits : (k m r x : ℕ) → r < 4294967296 → Leaves m r → Leaves (add (m * 2 ^ k) (x % 2 ^ k * 4294967296)) (edc_bits r x k)
unfolding edc_bits
leaves_bits zero m r x h l =
    let e : m * 1 ≡ m = omega arith in
    let f : x % 1 * 4294967296 ≡ 0 = omega arith in
    subst (λ (y : ℕ). Leaves y r) (sym (ap₂ add e f ∙ add-zero m)) l
leaves_bits (suc k) m r x h l =
    let b : ℕ = x / 2 ^ k % 2 in
    let p : ℕ = 2 ^ k in
    let shifted : add (m * 2) (b * 4294967296) * p ≡ add (m * 2 ^ suc k) (b * p * 4294967296) =
    add_shift k (m * 2) (b * 4294967296)
    ∙ ap₂ add (mul_assoc m 2 p ∙ ap (λ (y : ℕ). m * y) (mul_comm 2 p ∙ sym (pow-suc 2 k)))
    (mul_assoc b 4294967296 p ∙ ap (λ (y : ℕ). b * y) (mul_comm 4294967296 p) ∙ sym (mul_assoc b p 4294967296)) in
    let digits : add (b * p) (x % p) ≡ x % 2 ^ suc k =
    add_apart k b (x % p) (mod-lt x (pow_pos k)) ∙ sym (mod-pow-add x 1 k) ∙ ap (λ (j : ℕ). x % 2 ^ j) (one-add k) in
    let joined : add (b * p * 4294967296) (x % p * 4294967296) ≡ x % 2 ^ suc k * 4294967296 =
    sym (add_shift 32 (b * p) (x % p)) ∙ ap (λ (y : ℕ). y * 4294967296) digits in
    subst (λ (y : ℕ). Leaves y (edc_bits (edc_bit r b) x k))
    (ap (λ (y : ℕ). add y (x % p * 4294967296)) shifted ∙ add_assoc (m * 2 ^ suc k) (b * p * 4294967296) (x % p * 4294967296)
    ∙ ap (add (m * 2 ^ suc k)) joined)
    (leaves_bits k (add (m * 2) (b * 4294967296)) (edc_bit r b) x (bit-lt r b) (leaves_bit m r b h (bit (x / p)) l))

-- what bytes make of m, each of them at x^32
unfoldable pub after : ℕ → List ℕ → ℕ
after m [] = m
after m (x ∷ xs) = after (add (m * 256) (x * 4294967296)) xs

pub leaves_bytes : (xs : List ℕ) (m r : ℕ) → Bytes xs → r < 4294967296 → Leaves m r → Leaves (after m xs) (edc_from r xs)
unfolding Bytes after edc_from
leaves_bytes [] m r w h l = l
leaves_bytes (x ∷ xs) m r w h l =
    leaves_bytes xs (add (m * 256) (x * 4294967296)) (edc_bits r x 8) w.1 (bits-lt r x 8 h)
    (subst (λ (y : ℕ). Leaves (add (m * 256) (y * 4294967296)) (edc_bits r x 8)) (mod-eq_of_lt w.0) (leaves_bits 8 m r x h l))

-- from a bit string times x^32: the longer bit string times x^32
pub after_field : (xs : List ℕ) (n : ℕ) → Bytes xs → after (n * 4294967296) xs ≡ bit_field_from n xs * 4294967296
unfolding Bytes after bit_field_from
after_field [] n w = refl
after_field (x ∷ xs) n w =
    let e : n * 4294967296 * 256 ≡ n * 256 * 4294967296 = omega arith in
    ap (λ (y : ℕ). after y xs)
    (ap (λ (y : ℕ). add y (x * 4294967296)) e ∙ sym (add_shift 32 (n * 256) x) ∙ ap (λ (y : ℕ). y * 4294967296) (add_apart 8 n x w.0))
    ∙ after_field xs (n * 256 + x) w.1

-- ---- four bytes of a remainder after it leave nothing

absorb_byte : (r x : ℕ) → r < 4294967296 → x ≡ r / 16777216 → add (r * 256) (x * 4294967296) ≡ r % 16777216 * 256
absorb_byte r x h e =
    let d : r * 256 / 4294967296 ≡ x = omega arith in
    let m : r * 256 % 4294967296 ≡ r % 16777216 * 256 = omega arith in
    ap (λ (y : ℕ). add y (x * 4294967296)) (sym (add_parts 32 (r * 256)) ∙ ap₂ (λ (y z : ℕ). add (y * 4294967296) z) d m)
    ∙ add_comm (add (x * 4294967296) (r % 16777216 * 256)) (x * 4294967296) ∙ add_cancel (x * 4294967296) (r % 16777216 * 256)

after_four : (r : ℕ) → r < 4294967296 → after r (four_bytes r) ≡ 0
unfolding after four_bytes
after_four r h =
    let r₁ : ℕ = r % 16777216 * 256 in
    let r₂ : ℕ = r₁ % 16777216 * 256 in
    let r₃ : ℕ = r₂ % 16777216 * 256 in
    let a₁ = absorb_byte r (r / 0x1000000 % 256) h (omega arith) in
    let a₂ = absorb_byte r₁ (r / 0x10000 % 256) (omega arith) (omega arith) in
    let a₃ = absorb_byte r₂ (r / 0x100 % 256) (omega arith) (omega arith) in
    let a₄ = absorb_byte r₃ (r % 256) (omega arith) (omega arith) in
    let z : r₃ % 16777216 * 256 ≡ 0 = omega arith in
    cc

pub leaves_self : (r : ℕ) → Leaves r r
unfolding Leaves
leaves_self r = (0, sym (ap (λ (x : ℕ). add x r) generator-zero ∙ zero-add r))

-- what 0 leaves in 32 bits is 0
leaves_zero : (r : ℕ) → r < 4294967296 → Leaves 0 r → r ≡ 0
unfolding Leaves
leaves_zero r h l =
    let e : times_generator l.0 ≡ r = eq_of_add (times_generator l.0) r (sym l.1) in
    sym e ∙ multiple_small l.0 (subst (λ (x : ℕ). x < 4294967296) (sym e) h)

four_bytes_lem : (r : ℕ) → Bytes (four_bytes r)
unfolding four_bytes Bytes
four_bytes_lem r = (omega arith, (omega arith, (omega arith, (omega arith, tt))))

pub absorb_four : (r : ℕ) → r < 4294967296 → edc_from r (four_bytes r) ≡ 0
absorb_four r h =
    leaves_zero (edc_from r (four_bytes r)) (from_lt r (four_bytes r) h)
    (subst (λ (x : ℕ). Leaves x (edc_from r (four_bytes r))) (after_four r h) (leaves_bytes (four_bytes r) r r (four_bytes_lem r) h (leaves_self r)))
