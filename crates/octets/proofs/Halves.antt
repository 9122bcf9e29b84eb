-- Half words and bits of a stream of bytes: packed half words (packed-length, packed-append, half-packed, packed-bytes), a bit as a test (odd_bit), a byte by
-- its bits (bit_of_byte, same_byte).
-- Assumes nothing.
use mathlib.Core.Path.{◌≡◌, refl, sym, ap, ap₂, ◌∙◌}
use mathlib.Core.Bool.{Bool, true, false}
use mathlib.Core.List.{List, [], ◌∷◌, ◌++◌}
use Prim.Native.Nat.{ℕ, zero, suc, ◌+◌, ◌*◌, ◌-◌, ◌^◌, ◌/◌, ◌%◌, ◌<◌, suc-le-suc}
use native.Mathlib.Omega.{arith}
use borrow.Author.Tests.{eqb-true, eqb-false}
use lib.Dec.{eqb, lit<}
use lib.ListN.{length, get_or}
use Rattle.lists.specs.Bytes.{Bytes}
use Rattle.lists.specs.Count.{bit}
use Rattle.octets.specs.Halves.{packed, half_at, bit_at}

-- ---- packed half words

pub packed-length : (hs : List ℕ) → length (packed hs) ≡ 2 * length hs
unfolding packed
packed-length [] = refl
packed-length (h ∷ hs) = omega (arith, packed-length hs)

pub packed-append : (gs hs : List ℕ) → packed (gs ++ hs) ≡ packed gs ++ packed hs
unfolding packed
packed-append [] hs = refl
packed-append (g ∷ gs) hs = ap (λ (x : List ℕ). g / 256 ∷ g % 256 ∷ x) (packed-append gs hs)

pub half-packed : (hs : List ℕ) (k : ℕ) → half_at (packed hs) k ≡ get_or hs k 0
unfolding half_at packed
half-packed [] k = refl
half-packed (h ∷ hs) zero = omega arith
half-packed (h ∷ hs) (suc k) =
    let e : 2 * suc k ≡ suc (suc (2 * k)) = omega arith in
    let f : 2 * suc k + 1 ≡ suc (suc (2 * k + 1)) = omega arith in
    rw (f, e) (half-packed hs k)

-- half words of 16 bits are packed to bytes
pub packed-bytes : (hs : List ℕ) → ((k : ℕ) → k < length hs → get_or hs k 0 < 65536) → Bytes (packed hs)
unfolding packed Bytes
packed-bytes [] small = tt
packed-bytes (h ∷ hs) small =
    let first = small 0 (omega arith) in
    (omega arith, (omega arith, packed-bytes hs (λ k l. small (suc k) (suc-le-suc l))))

-- ---- a bit as a test

is-bit : (r : ℕ) (b : Bool) → eqb r 1 ≡ b → r < 2 → bit b ≡ r
is-bit r true e h = sym (eqb-true r 1 e)
is-bit r false e h = let n = eqb-false r 1 e in zero_bit r h n
  where
    zero_bit : (r : ℕ) → r < 2 → (r ≡ 1 → ⊥) → 0 ≡ r
    zero_bit zero h n = refl
    zero_bit (suc zero) h n = absurd (n refl)
    zero_bit (suc (suc r)) h n = absurd (omega arith)

pub odd_bit : (x : ℕ) → bit (eqb (x % 2) 1) ≡ x % 2
odd_bit x = is-bit (x % 2) (eqb (x % 2) 1) refl (omega arith)

-- ---- a byte by its bits

-- the low bits of a number, one more each time
low_4 : (x : ℕ) → x % 4 ≡ x / 2 % 2 * 2 + x % 2
low_4 x = omega arith

low_8 : (x : ℕ) → x % 8 ≡ x / 4 % 2 * 4 + x % 4
low_8 x = omega arith

low_16 : (x : ℕ) → x % 16 ≡ x / 8 % 2 * 8 + x % 8
low_16 x = omega arith

low_32 : (x : ℕ) → x % 32 ≡ x / 16 % 2 * 16 + x % 16
low_32 x = omega arith

low_64 : (x : ℕ) → x % 64 ≡ x / 32 % 2 * 32 + x % 32
low_64 x = omega arith

low_128 : (x : ℕ) → x % 128 ≡ x / 64 % 2 * 64 + x % 64
low_128 x = omega arith

low_256 : (x : ℕ) → x % 256 ≡ x / 128 % 2 * 128 + x % 128
low_256 x = omega arith

-- two bytes with the same bits are the same
pub same_byte : (x y : ℕ) → x < 256 → y < 256 → ((j : ℕ) → j < 8 → x / 2 ^ (7 - j) % 2 ≡ y / 2 ^ (7 - j) % 2) → x ≡ y
same_byte x y hx hy e = whole x hx ∙ s256 ∙ sym (whole y hy)
  where
    whole : (z : ℕ) → z < 256 → z ≡ z % 256
    whole z h = omega arith

    one : (z : ℕ) → z % 2 ≡ z / 1 % 2
    one z = omega arith

    s2 : x % 2 ≡ y % 2
    s2 = one x ∙ e 7 (lit< tt) ∙ sym (one y)

    s4 : x % 4 ≡ y % 4
    s4 = low_4 x ∙ ap₂ (λ (a b : ℕ). a * 2 + b) (e 6 (lit< tt)) s2 ∙ sym (low_4 y)

    s8 : x % 8 ≡ y % 8
    s8 = low_8 x ∙ ap₂ (λ (a b : ℕ). a * 4 + b) (e 5 (lit< tt)) s4 ∙ sym (low_8 y)

    s16 : x % 16 ≡ y % 16
    s16 = low_16 x ∙ ap₂ (λ (a b : ℕ). a * 8 + b) (e 4 (lit< tt)) s8 ∙ sym (low_16 y)

    s32 : x % 32 ≡ y % 32
    s32 = low_32 x ∙ ap₂ (λ (a b : ℕ). a * 16 + b) (e 3 (lit< tt)) s16 ∙ sym (low_32 y)

    s64 : x % 64 ≡ y % 64
    s64 = low_64 x ∙ ap₂ (λ (a b : ℕ). a * 32 + b) (e 2 (lit< tt)) s32 ∙ sym (low_64 y)

    s128 : x % 128 ≡ y % 128
    s128 = low_128 x ∙ ap₂ (λ (a b : ℕ). a * 64 + b) (e 1 (lit< tt)) s64 ∙ sym (low_128 y)

    s256 : x % 256 ≡ y % 256
    s256 = low_256 x ∙ ap₂ (λ (a b : ℕ). a * 128 + b) (e 0 (lit< tt)) s128 ∙ sym (low_256 y)

-- bit j of byte k of a stream
pub bit_of_byte : (xs : List ℕ) (k j : ℕ) → j < 8 → bit_at xs (8 * k + j) ≡ get_or xs k 0 / 2 ^ (7 - j) % 2
unfolding bit_at
bit_of_byte xs k j h =
    let e : (8 * k + j) / 8 ≡ k = omega arith in
    let f : (8 * k + j) % 8 ≡ j = omega arith in
    rw (e, f)
