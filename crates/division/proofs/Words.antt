-- A received word by what is left of it: its syndromes are those of the remainder. For any number of roots of which the generator is known to be right, and words
-- of any length.
-- Assumes nothing.
use mathlib.Core.Path.{◌≡◌, refl, sym, ap, ap₂, ◌∙◌}
use mathlib.Core.List.{List, [], ◌∷◌, ◌++◌}
use mathlib.Core.Logic.{dite}
use Prim.Native.Nat.{ℕ, ◌+◌, ◌-◌, ◌<◌, ◌≤◌}
use native.Mathlib.Decide.{ℕ_discrete}
use native.Mathlib.Omega.{arith}
use lib.ListN.{length, get_or, take, drop, replicate, length-append, length-drop, length-replicate, take-append-drop, get_or-eq_default}
use Rattle.lists.specs.Bytes.{Bytes}
use Rattle.lists.proofs.Bytes.{get_or-byte, take-bytes, drop-bytes}
use Rattle.field.specs.Field.{add, pow}
use Rattle.field.proofs.Field.{add-zero, zero-add, add_cancel}
use Rattle.codes.specs.Word.{value_from, value_at, syndrome}
use Rattle.codes.specs.Parity.{add_words, parity}
use Rattle.codes.proofs.Words.{add_words-length, add_words-bytes, syndrome-add}
use Rattle.codes.proofs.Division.{Code, value_from-append, zeros-value_at, parity_code}
use Rattle.codes.proofs.Shift.{add_at}
use Rattle.multiples.specs.Inner.{bytes_as_number, high, low}
use Rattle.division.specs.Inner.{packed, remainder_of}
use Rattle.division.specs.declared.register.Remainder.{Remainder}
use Rattle.multiples.proofs.Numbers.{number_same, number-add}
use Rattle.division.proofs.Division.{parity-size, parity_small}
use Rattle.division.proofs.Unpacked.{same_numbers}

-- ---- the sum of two registers

add-place : (a q : List ℕ) (i : ℕ) → length a ≡ length q → get_or (add_words a q) i 0 ≡ add (get_or a i 0) (get_or q i 0)
add-place a q i e = dite (ℕ_discrete (1 - (length a - i)) 0)
    (λ z. add_at a q i e (omega (arith, z)))
    (λ z.
    let l : length a ≤ i = omega (arith, z) in
    get_or-eq_default (add_words a q) 0 (rw (add_words-length a q e) l)
    ∙ sym (ap₂ add (get_or-eq_default a 0 l) (get_or-eq_default q 0 (omega arith)) ∙ add-zero 0))

module _ (a q : List ℕ) (e : length a ≡ length q) (ha : Bytes a) (hq : Bytes q) where
  sum_number : (k : ℕ) → bytes_as_number (λ i. get_or (add_words a q) i 0) k 8 ≡ add (bytes_as_number (λ i. get_or a i 0) k 8) (bytes_as_number (λ i. get_or q i 0) k 8)
  sum_number k =
      number_same (λ i. get_or (add_words a q) i 0) (λ i. add (get_or a i 0) (get_or q i 0)) k k 8 (λ i l. add-place a q (k + i) e)
      ∙ number-add (λ i. get_or a i 0) (λ i. get_or-byte a i ha) (λ i. get_or q i 0) (λ i. get_or-byte q i hq) k 8

  pub sum-high : high (add_words a q) ≡ add (high a) (high q)
  unfolding high
  sum-high = sum_number 0

  pub sum_low : low (add_words a q) ≡ add (low a) (low q)
  unfolding low
  sum_low = sum_number 8

-- ---- a word as the code word with its first bytes, and the remainder

cancel_words : (a q : List ℕ) → length a ≡ length q → add_words a (add_words a q) ≡ q
unfolding add_words
cancel_words [] [] e = refl
cancel_words [] (b ∷ q) e = absurd (omega arith)
cancel_words (a ∷ r) [] e = absurd (omega arith)
cancel_words (a ∷ r) (b ∷ q) e = ap₂ {C = List ℕ} (λ (x : ℕ) (y : List ℕ). x ∷ y) (add_cancel a b) (cancel_words r q (omega arith))

split_word : (d a q : List ℕ) → length a ≡ length q → add_words (d ++ a) (replicate (length d) 0 ++ add_words a q) ≡ d ++ q
unfolding add_words
split_word [] a q e = cancel_words a q e
split_word (b ∷ d) a q e = ap₂ {C = List ℕ} (λ (x : ℕ) (y : List ℕ). x ∷ y) (add-zero b) (split_word d a q e)

after_zeros : (n : ℕ) (r : List ℕ) (i : ℕ) → syndrome (replicate n 0 ++ r) i ≡ syndrome r i
unfolding syndrome value_at
after_zeros n r i = value_from-append (pow 2 i) 0 (replicate n 0) r ∙ ap (λ (v : ℕ). value_from (pow 2 i) v r) (zeros-value_at (pow 2 i) n)

module _ (p : ℕ) (c : Code p) (d q : List ℕ) (hd : Bytes d) (e : length q ≡ p) where
  tail_syndrome : (i : ℕ) → i < p → syndrome (d ++ q) i ≡ syndrome (add_words (parity p d) q) i
  tail_syndrome i l =
      let a : List ℕ = parity p d in
      let n : length a ≡ length q = parity-size p d ∙ sym e in
      let s : length (d ++ a) ≡ length (replicate (length d) 0 ++ add_words a q) =
      length-append d a ∙ ap₂ (λ (x y : ℕ). x + y) (sym (length-replicate (length d) 0)) (sym (add_words-length a q n))
      ∙ sym (length-append (replicate (length d) 0) (add_words a q)) in
      ap (λ (w : List ℕ). syndrome w i) (sym (split_word d a q n))
      ∙ syndrome-add (d ++ a) (replicate (length d) 0 ++ add_words a q) s i
      ∙ ap₂ add (parity_code p c d hd i l) (after_zeros (length d) (add_words a q) i) ∙ zero-add (syndrome (add_words a q) i)

-- ---- a received word, and what is left of it

module _ (p : ℕ) (w : List ℕ) (hw : Bytes w) (le : p ≤ length w) where
  d : List ℕ
  d = take (length w - p) w

  q : List ℕ
  q = drop (length w - p) w

  q_length : length q ≡ p
  unfolding q
  q_length = omega (arith, length-drop (length w - p) w)

  same : length (parity p d) ≡ length q
  same = parity-size p d ∙ sym q_length

  q_bytes : Bytes q
  unfolding q
  q_bytes = drop-bytes (length w - p) w hw

  pub left-length : length (remainder_of p w) ≡ p
  unfolding remainder_of d q
  left-length = add_words-length (parity p d) q same ∙ parity-size p d

  pub left-bytes : Bytes (remainder_of p w)
  unfolding remainder_of d q
  left-bytes = add_words-bytes (parity p d) q (parity_small p d) q_bytes

  pub left_packed : (r : Remainder) → r.high ≡ add (high (parity p (take (length w - p) w))) (high (drop (length w - p) w))
      → r.low ≡ add (low (parity p (take (length w - p) w))) (low (drop (length w - p) w)) → r ≡ packed (remainder_of p w)
  unfolding remainder_of d q
  left_packed r eh el =
      same_numbers r (packed (remainder_of p w)) (eh ∙ sym (sum-high (parity p d) q same (parity_small p d) q_bytes)) (el ∙ sym (sum_low (parity p d) q same (parity_small p d) q_bytes))

  module _ (c : Code p) where
    -- every syndrome of the word is that of the remainder
    pub left-syndrome : (i : ℕ) → i < p → syndrome w i ≡ syndrome (remainder_of p w) i
    unfolding remainder_of d q
    left-syndrome i l = ap (λ (x : List ℕ). syndrome x i) (sym (take-append-drop (length w - p) w)) ∙ tail_syndrome p c d q (take-bytes (length w - p) w hw) q_length i l
