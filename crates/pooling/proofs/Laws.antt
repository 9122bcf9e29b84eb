-- What holds of every pooling: at a place (pooled-byte, pooled_mark_lem); it does not matter which reading is the first (pool_swap); a reading pooled with itself
-- is that reading with byte 0 at the marked places (pool_self); what is pooled from bytes with marks of 0 or 1 is such again (pooled-bytes, pooled_marks_fit).
-- Assumes nothing.
use mathlib.Core.Path.{◌≡◌, refl, sym, ap, ap₂, ◌∙◌}
use mathlib.Core.Bool.{Bool, true, false, not, cond}
use Prim.Native.Nat.{ℕ, ◌+◌, ◌<◌, ◌≤◌}
use native.Mathlib.Omega.{arith}
use borrow.Author.Tests.{eq-eqb, ne_eqb, eqb-true, eqb-false}
use lib.Dec.{eqb}
use lib.ListN.{length, get_or}
use Rattle.lists.specs.Bytes.{Bytes}
use Rattle.lists.specs.Count.{bit}
use Rattle.lists.proofs.Bytes.{get_or-byte, tabulate-bytes}
use Rattle.lists.proofs.Count.{bit_le, bit_test}
use Rattle.lists.proofs.Fill.{length-tabulate, get_d_tabulate, is-tabulate, tabulate-same}
use Rattle.repairer.specs.Answer.{marks_fit}
use Rattle.repairer.proofs.Marks.{mark_at_lem, marks_fit_all}
use Rattle.pooling.specs.Pool.{MarkedBytes, with_marks, byte_at, marked_at, pooled_byte, pooled_mark, pooled, zeroed}

-- a mark that is 0 or 1 is the digit of its test
pub mark_digit : (m : ℕ) → m ≤ 1 → bit (eqb m 1) ≡ m
mark_digit m l = go (eqb m 1) refl
  where
    go : (t : Bool) → eqb m 1 ≡ t → bit t ≡ m
    go true e = sym (eqb-true m 1 e)
    go false e = omega (arith, eqb-false m 1 e)

-- ---- one place

eqb_swap : (x y : ℕ) → eqb x y ≡ eqb y x
eqb_swap x y = go (eqb x y) refl
  where
    go : (t : Bool) → eqb x y ≡ t → t ≡ eqb y x
    go true e = sym (eq-eqb y x (sym (eqb-true x y e)))
    go false e = sym (ne_eqb y x (λ q. eqb-false x y e (sym q)))

byte_swap : (m : Bool) (x : ℕ) (n : Bool) (y : ℕ) → pooled_byte m x n y ≡ pooled_byte n y m x
byte_swap false x false y = go (eqb x y) refl
  where
    go : (t : Bool) → eqb x y ≡ t → cond t x 0 ≡ cond (eqb y x) y 0
    go true e = rw (eq-eqb y x (sym (eqb-true x y e))) (eqb-true x y e)
    go false e = rw (sym (eqb_swap x y) ∙ e)
byte_swap false x true y = refl
byte_swap true x false y = refl
byte_swap true x true y = refl

mark_swap : (m : Bool) (x : ℕ) (n : Bool) (y : ℕ) → pooled_mark m x n y ≡ pooled_mark n y m x
mark_swap false x false y = ap not (eqb_swap x y)
mark_swap false x true y = refl
mark_swap true x false y = refl
mark_swap true x true y = refl

byte_self : (m : Bool) (x : ℕ) → pooled_byte m x m x ≡ cond m 0 x
byte_self false x = rw (eq-eqb x x refl)
byte_self true x = refl

mark_self : (m : Bool) (x : ℕ) → pooled_mark m x m x ≡ m
mark_self false x = rw (eq-eqb x x refl)
mark_self true x = refl

byte_small : (m : Bool) (x : ℕ) (n : Bool) (y : ℕ) → x < 256 → y < 256 → pooled_byte m x n y < 256
byte_small false x false y h k = go (eqb x y)
  where
    go : (t : Bool) → cond t x 0 < 256
    go true = h
    go false = omega arith
byte_small false x true y h k = h
byte_small true x false y h k = k
byte_small true x true y h k = omega arith

-- ---- all places

module _ (a b : MarkedBytes) where
  pub pooled-length : length (pooled a b).bytes ≡ length a.bytes
  unfolding pooled
  pooled-length = length-tabulate (λ i. pooled_byte (marked_at a i) (byte_at a i) (marked_at b i) (byte_at b i)) (length a.bytes)

  pub pooled-erasures-length : length (pooled a b).erasures ≡ length a.bytes
  unfolding pooled
  pooled-erasures-length = length-tabulate (λ i. bit (pooled_mark (marked_at a i) (byte_at a i) (marked_at b i) (byte_at b i))) (length a.bytes)

  module _ (i : ℕ) (l : i < length a.bytes) where
    pub pooled-byte : byte_at (pooled a b) i ≡ pooled_byte (marked_at a i) (byte_at a i) (marked_at b i) (byte_at b i)
    unfolding pooled
    pooled-byte = get_d_tabulate (λ i. pooled_byte (marked_at a i) (byte_at a i) (marked_at b i) (byte_at b i)) (length a.bytes) i l

    pooled_digit : get_or (pooled a b).erasures i 0 ≡ bit (pooled_mark (marked_at a i) (byte_at a i) (marked_at b i) (byte_at b i))
    unfolding pooled
    pooled_digit = get_d_tabulate (λ i. bit (pooled_mark (marked_at a i) (byte_at a i) (marked_at b i) (byte_at b i))) (length a.bytes) i l

    pub pooled_mark_lem : marked_at (pooled a b) i ≡ pooled_mark (marked_at a i) (byte_at a i) (marked_at b i) (byte_at b i)
    pooled_mark_lem = ap (λ (m : ℕ). eqb m 1) pooled_digit ∙ bit_test (pooled_mark (marked_at a i) (byte_at a i) (marked_at b i) (byte_at b i))

  pub pooled-bytes : Bytes a.bytes → Bytes b.bytes → Bytes (pooled a b).bytes
  unfolding pooled
  pooled-bytes h k =
      tabulate-bytes (λ i. pooled_byte (marked_at a i) (byte_at a i) (marked_at b i) (byte_at b i)) 0 (length a.bytes)
      (λ i. byte_small (marked_at a i) (byte_at a i) (marked_at b i) (byte_at b i) (get_or-byte a.bytes i h) (get_or-byte b.bytes i k))

  pub pooled_marks_fit : marks_fit (pooled a b).erasures ≡ true
  pooled_marks_fit =
      marks_fit_all (pooled a b).erasures
      (λ i l.
      omega (
        arith,
        pooled_digit i (omega (arith, pooled-erasures-length)),
        bit_le (pooled_mark (marked_at a i) (byte_at a i) (marked_at b i) (byte_at b i)),
      ))

  -- POOLING IS SYMMETRIC
  pub pool_swap : length a.bytes ≡ length b.bytes → pooled a b ≡ pooled b a
  unfolding pooled
  pool_swap e =
      rw (sym e)
      (ap₂ with_marks
      (tabulate-same (λ i. pooled_byte (marked_at a i) (byte_at a i) (marked_at b i) (byte_at b i)) (λ i. pooled_byte (marked_at b i) (byte_at b i) (marked_at a i) (byte_at a i)) 0 0
      (length a.bytes) (λ i l. byte_swap (marked_at a (0 + i)) (byte_at a (0 + i)) (marked_at b (0 + i)) (byte_at b (0 + i))))
      (tabulate-same (λ i. bit (pooled_mark (marked_at a i) (byte_at a i) (marked_at b i) (byte_at b i)))
      (λ i. bit (pooled_mark (marked_at b i) (byte_at b i) (marked_at a i) (byte_at a i))) 0 0 (length a.bytes)
      (λ i l. ap bit (mark_swap (marked_at a (0 + i)) (byte_at a (0 + i)) (marked_at b (0 + i)) (byte_at b (0 + i))))))

-- POOLED WITH ITSELF a reading is that reading, with byte 0 at the marked places
pub pool_self : (a : MarkedBytes) → length a.erasures ≡ length a.bytes → marks_fit a.erasures ≡ true → pooled a a ≡ zeroed a
unfolding pooled zeroed
pool_self a e fit =
    ap₂ with_marks
    (tabulate-same (λ i. pooled_byte (marked_at a i) (byte_at a i) (marked_at a i) (byte_at a i)) (λ i. cond (marked_at a i) 0 (byte_at a i)) 0 0 (length a.bytes)
    (λ i l. byte_self (marked_at a (0 + i)) (byte_at a (0 + i))))
    (sym (is-tabulate (λ i. bit (pooled_mark (marked_at a i) (byte_at a i) (marked_at a i) (byte_at a i))) a.erasures (length a.bytes) e
    (λ i l. sym (ap bit (mark_self (marked_at a i) (byte_at a i)) ∙ mark_digit (get_or a.erasures i 0) (mark_at_lem a.erasures fit i (omega arith))))))
