-- Bits from any bit on as a number: below a power of two (bits_small), in two parts (bits-append), a part of more bits (bits_part), alike where each bit is
-- (bits-same); a byte (bits-byte) and a half word (bits-half).
-- Assumes nothing.
use mathlib.Core.Path.{◌≡◌, refl, sym, ap, ap₂, ◌∙◌}
use mathlib.Core.List.{List}
use Prim.Native.Nat.{ℕ, zero, suc, ◌+◌, ◌*◌, ◌-◌, ◌^◌, ◌/◌, ◌%◌, ◌<◌, ◌≤◌}
use native.Mathlib.Nat.{add-zero, add-suc, mul_assoc, pow-suc, one-le-pow, mul-add-div_right, mul-add-mod_self_right, div-eq_of_lt, mod-eq_of_lt, div-div-eq-div-mul}
use native.Mathlib.Omega.{arith}
use lib.ListN.{get_or}
use Rattle.octets.specs.Halves.{half_at, bit_at, bits_at}
use Rattle.octets.proofs.Halves.{bit_of_byte}

pub bit_small : (xs : List ℕ) (j : ℕ) → bit_at xs j < 2
unfolding bit_at
bit_small xs j = omega arith

pub bits_small : (xs : List ℕ) (p n : ℕ) → bits_at xs p n < 2 ^ n
unfolding bits_at
bits_small xs p zero = omega arith
bits_small xs p (suc n) = omega (arith, bits_small xs p n, bit_small xs (p + n))

pub bits-append : (xs : List ℕ) (p m n : ℕ) → bits_at xs p (m + n) ≡ bits_at xs p m * 2 ^ n + bits_at xs (p + m) n
unfolding bits_at
bits-append xs p m zero = ap (bits_at xs p) (add-zero m) ∙ omega arith
bits-append xs p m (suc n) =
    let first = bits_at xs p m in
    let before = bits-append xs p m n in
    let power : first * 2 ^ suc n ≡ first * 2 ^ n * 2 = ap (λ (x : ℕ). first * x) (pow-suc 2 n) ∙ sym (mul_assoc first (2 ^ n) 2) in
    let last : bit_at xs (p + (m + n)) ≡ bit_at xs (p + m + n) = ap (bit_at xs) (omega arith) in
    ap (bits_at xs p) (add-suc m n) ∙ omega (arith, before, power, last)

pub bits-same : (xs ys : List ℕ) (p q n : ℕ) → ((i : ℕ) → i < n → bit_at xs (p + i) ≡ bit_at ys (q + i)) → bits_at xs p n ≡ bits_at ys q n
unfolding bits_at
bits-same xs ys p q zero h = refl
bits-same xs ys p q (suc n) h = ap₂ (λ (x y : ℕ). x * 2 + y) (bits-same xs ys p q n (λ i l. h i (omega arith))) (h n (omega arith))

-- bits within others: n bits after a others and before c others
pub bits_part : (xs : List ℕ) (p a n c : ℕ) → bits_at xs (p + a) n ≡ bits_at xs p (a + n + c) / 2 ^ c % 2 ^ n
bits_part xs p a n c = sym (ap (λ (x : ℕ). x % 2 ^ n) without-last ∙ without_first)
  where
    middle : ℕ
    middle = bits_at xs (p + a) n

    positive : (k : ℕ) → 0 < 2 ^ k
    positive k = one-le-pow k 2 (omega arith)

    without-last : bits_at xs p (a + n + c) / 2 ^ c ≡ bits_at xs p a * 2 ^ n + middle
    without-last =
        ap (λ (x : ℕ). x / 2 ^ c) (bits-append xs p (a + n) c)
        ∙ mul-add-div_right (positive c) (bits_at xs p (a + n)) (bits_at xs (p + (a + n)) c)
        ∙ ap (λ (x : ℕ). bits_at xs p (a + n) + x) (div-eq_of_lt (bits_small xs (p + (a + n)) c))
        ∙ omega (arith, bits-append xs p a n)

    without_first : (bits_at xs p a * 2 ^ n + middle) % 2 ^ n ≡ middle
    without_first = mul-add-mod_self_right (bits_at xs p a) (2 ^ n) middle ∙ mod-eq_of_lt (bits_small xs (p + a) n)

-- the first n bits of a byte
byte_front : (xs : List ℕ) (k n : ℕ) → n ≤ 8 → get_or xs k 0 < 256 → bits_at xs (8 * k) n ≡ get_or xs k 0 / 2 ^ (8 - n)
unfolding bits_at
byte_front xs k zero l h = omega arith
byte_front xs k (suc n) l h =
    let x = get_or xs k 0 in
    let m = 7 - n in
    let halved : x / 2 ^ (8 - n) ≡ x / 2 ^ m / 2 =
    ap (λ (i : ℕ). x / 2 ^ i) (omega arith) ∙ ap (λ (i : ℕ). x / i) (pow-suc 2 m) ∙ sym (div-div-eq-div-mul x (2 ^ m) 2) in
    let before = byte_front xs k n (omega arith) h ∙ halved in
    let last = bit_of_byte xs k n (omega arith) in
    let next : x / 2 ^ (8 - suc n) ≡ x / 2 ^ m = ap (λ (i : ℕ). x / 2 ^ i) (omega arith) in
    omega (arith, before, last, next)

pub bits-byte : (xs : List ℕ) (k : ℕ) → get_or xs k 0 < 256 → bits_at xs (8 * k) 8 ≡ get_or xs k 0
bits-byte xs k h = byte_front xs k 8 (omega arith) h ∙ omega arith

-- the next byte's bits come after a byte's
pub bits-half : (xs : List ℕ) (k : ℕ) → get_or xs (2 * k) 0 < 256 → get_or xs (2 * k + 1) 0 < 256 → bits_at xs (16 * k) 16 ≡ half_at xs k
unfolding half_at
bits-half xs k h l =
    let high : bits_at xs (16 * k) 8 ≡ get_or xs (2 * k) 0 = ap (λ (p : ℕ). bits_at xs p 8) (omega arith) ∙ bits-byte xs (2 * k) h in
    let low : bits_at xs (16 * k + 8) 8 ≡ get_or xs (2 * k + 1) 0 = ap (λ (p : ℕ). bits_at xs p 8) (omega arith) ∙ bits-byte xs (2 * k + 1) l in
    bits-append xs (16 * k) 8 8 ∙ ap₂ (λ (x y : ℕ). x * 256 + y) high low

without-byte : (y l : ℕ) → l < 256 → y < 65536 → (y * 256 + l) / 256 % 65536 ≡ y
without-byte y l small h = mod-eq_of_lt (rw whole h) ∙ whole
  where
    whole : (y * 256 + l) / 256 ≡ y
    whole = omega arith

-- 16 bits from bit o of byte k on, out of that byte h, the next m, and the byte l that they end in
module _ (xs : List ℕ) (k h m l : ℕ) (high : h ≡ get_or xs k 0) (middle : m ≡ get_or xs (k + 1) 0) (h-small : h < 256) (m-small : m < 256) where
  first_byte : bits_at xs (8 * k) 8 ≡ h
  first_byte = bits-byte xs k (rw (← high) h-small) ∙ sym high

  first_two : bits_at xs (8 * k) 16 ≡ h * 256 + m
  first_two =
      let next : bits_at xs (8 * k + 8) 8 ≡ m = ap (λ (p : ℕ). bits_at xs p 8) (omega arith) ∙ bits-byte xs (k + 1) (rw (← middle) m-small) ∙ sym middle in
      bits-append xs (8 * k) 8 8 ∙ ap₂ (λ (x y : ℕ). x * 256 + y) first_byte next

  pub bits_of_three : (o : ℕ) → o < 8 → l ≡ get_or xs (k + (o + 15) / 8) 0 → l < 256 → ((h * 256 + m) * 256 + l) / 2 ^ (8 - o) % 65536 ≡ bits_at xs (8 * k + o) 16
  bits_of_three zero ho low small = without-byte (h * 256 + m) l small (omega arith) ∙ sym first_two ∙ ap (λ (p : ℕ). bits_at xs p 16) (sym (add-zero (8 * k)))
  bits_of_three (suc o) ho low small =
      let third : k + (suc o + 15) / 8 ≡ k + 2 = omega arith in
      let low-is : l ≡ get_or xs (k + 2) 0 = low ∙ ap (λ (i : ℕ). get_or xs i 0) third in
      let last : bits_at xs (8 * k + 16) 8 ≡ l = ap (λ (p : ℕ). bits_at xs p 8) (omega arith) ∙ bits-byte xs (k + 2) (rw (← low-is) small) ∙ sym low-is in
      let all : bits_at xs (8 * k) 24 ≡ (h * 256 + m) * 256 + l = bits-append xs (8 * k) 16 8 ∙ ap₂ (λ (x y : ℕ). x * 256 + y) first_two last in
      let n : 24 ≡ suc o + 16 + (8 - suc o) = omega arith in
      ap (λ (x : ℕ). x / 2 ^ (8 - suc o) % 65536) (sym all ∙ ap (bits_at xs (8 * k)) n) ∙ sym (bits_part xs (8 * k) (suc o) 16 (8 - suc o))
