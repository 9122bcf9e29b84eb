-- The repair with marks: at most one code word has 2e + f ≤ p (within_unique), and `nearest_erased` gives it, or the word where there is none (nearest-within,
-- erased_stays); what becomes of a word (outcome_clean_within, outcome_corrected-within, outcome_none-within). Without marks it is the nearest code word within t
-- bytes, where p = 2t (nearest-unmarked, outcome_unmarked).
-- Assumes nothing.
use mathlib.Core.Path.{◌≡◌, refl, sym, ap, ap₂, subst, ◌∙◌}
use mathlib.Core.Bool.{Bool, true, false, false≢true, not, cond, ◌&&◌}
use mathlib.Core.List.{List}
use Prim.Native.Nat.{ℕ, zero, suc, ◌+◌, ◌*◌, ◌<◌, ◌≤◌}
use native.Mathlib.Omega.{arith}
use borrow.Author.Tests.{eq-eqb, eqb-true, le-leb}
use lib.Dec.{T, eqb, leb, leb→le}
use lib.ListN.{length, get_or}
use Rattle.lists.specs.Bytes.{Bytes}
use Rattle.lists.specs.Count.{bit, count_from, distance}
use Rattle.lists.proofs.Count.{bit_le, count_same, count_none}
use Rattle.lists.proofs.Distance.{distance_self, distance_differing}
use Rattle.lists.proofs.Test.{and_left, and_right, truth, truth_of}
use Rattle.codes.specs.Word.{is_code}
use Rattle.codes.specs.Nearest.{is_near, nearest, outcome_of}
use Rattle.codes.specs.Erasures.{is_erased, erasure_count, error_count, is_within, nearest_erased, outcome_erased}
use Rattle.codes.specs.declared.Outcome.TheVariants.{Clean, Corrected, Uncorrectable}
use Rattle.codes.proofs.Words.{IsCode, code_of_test, test_of_code}
use Rattle.codes.proofs.Nearest.{Chosen, chosen, kept, first_chosen, same_chosen, minimum_distance, nearest-length}

-- ---- what bounds the distance of two words

-- a test that passes only where one of three others does
count_three :
    (f a b g : ℕ → Bool) (k n : ℕ) → ((i : ℕ) → bit (f i) ≤ bit (a i) + (bit (b i) + bit (g i))) → count_from f k n ≤ count_from a k n + (count_from b k n + count_from g k n)
count_three f a b g k zero h = omega arith
count_three f a b g k (suc n) h = omega (arith, h k, count_three f a b g (suc k) n h)

-- bytes that differ: one of them differs from x, or the place is marked
differ_three : (m : Bool) (x c d : ℕ) → bit (not (eqb c d)) ≤ bit (not m && not (eqb x c)) + (bit (not m && not (eqb x d)) + bit m)
differ_three true x c d = omega (arith, bit_le (not (eqb c d)))
differ_three false x c d = go (eqb x c) refl (eqb x d) refl
  where
    go : (a : Bool) → eqb x c ≡ a → (b : Bool) → eqb x d ≡ b → bit (not (eqb c d)) ≤ bit (not a) + (bit (not b) + 0)
    go true e true f = rw (eq-eqb c d (sym (eqb-true x c e) ∙ eqb-true x d f)) (omega arith)
    go true e false f = omega (arith, bit_le (not (eqb c d)))
    go false e b f = omega (arith, bit_le (not (eqb c d)), bit_le (not b))

-- two words differ in at most e + e' + f bytes
pub distance_errors :
    (m w c d : List ℕ) → length w ≡ length c → length w ≡ length d → distance c d ≤ error_count m w c + (error_count m w d + erasure_count m (length w))
unfolding error_count erasure_count
distance_errors m w c d k l =
    subst (λ (n : ℕ). n ≤ error_count m w c + (error_count m w d + erasure_count m (length w)))
    (sym (distance_differing c d (sym k ∙ l) ∙ ap (count_from (λ i. not (eqb (get_or c i 0) (get_or d i 0))) 0) (sym k)))
    (count_three (λ i. not (eqb (get_or c i 0) (get_or d i 0))) (λ i. not (is_erased m i) && not (eqb (get_or w i 0) (get_or c i 0)))
    (λ i. not (is_erased m i) && not (eqb (get_or w i 0) (get_or d i 0))) (is_erased m) 0 (length w)
    (λ i. differ_three (is_erased m i) (get_or w i 0) (get_or c i 0) (get_or d i 0)))

pub errors_self≡0 : (m w : List ℕ) → error_count m w w ≡ 0
unfolding error_count
errors_self≡0 m w =
    count_none (λ i. not (is_erased m i) && not (eqb (get_or w i 0) (get_or w i 0))) 0 (length w)
    (λ i l. rw (eq-eqb (get_or w (0 + i) 0) (get_or w (0 + i) 0) refl) (and_nothing (not (is_erased m (0 + i)))))
  where
    and_nothing : (b : Bool) → (b && false) ≡ false
    and_nothing true = refl
    and_nothing false = refl

-- ---- the code word within reach

-- c is a code word with p roots, and 2e + f is at most p
pub record Within (p : ℕ) (m w c : List ℕ) : Type 0 where
  pub bytes : Bytes c
  pub len : length w ≡ length c
  pub code : IsCode p c
  pub close : 2 * error_count m w c + erasure_count m (length w) ≤ p

module _ (p : ℕ) (m w : List ℕ) (hw : Bytes w) where
  test_within : (c : List ℕ) → Bytes c → length c ≡ length w → T (is_within p m w c) → Within p m w c
  unfolding is_within
  test_within c k l h =
      let n : ℕ = 2 * error_count m w c + erasure_count m (length w) in
      record { bytes = k; len = sym l; code = code_of_test p c (and_left (is_code p c) (leb n p) h); close = leb→le n p (and_right (is_code p c) (leb n p) h) }

  pub within_test : (c : List ℕ) → Within p m w c → is_within p m w c ≡ true
  unfolding is_within
  within_test c n = rw (truth (is_code p c) (test_of_code p c n.code), le-leb (2 * error_count m w c + erasure_count m (length w)) p n.close)

  -- where there is none, the word stays
  pub erased_stays : ((c : List ℕ) → Within p m w c → ⊥) → nearest_erased p m w ≡ w
  unfolding nearest_erased
  erased_stays lone = go (first_chosen (is_within p m w) w)
    where
      go : {d : List ℕ} → Chosen (is_within p m w) w d → d ≡ w
      go (chosen {c} k l h) = absurd (lone c (test_within c k l h))
      go (kept f) = refl

  pub erased_length : length (nearest_erased p m w) ≡ length w
  unfolding nearest_erased
  erased_length = go (first_chosen (is_within p m w) w)
    where
      go : {d : List ℕ} → Chosen (is_within p m w) w d → length d ≡ length w
      go (chosen k l h) = l
      go (kept f) = refl

  pub erased_bytes : Bytes (nearest_erased p m w)
  unfolding nearest_erased
  erased_bytes = go (first_chosen (is_within p m w) w)
    where
      go : {d : List ℕ} → Chosen (is_within p m w) w d → Bytes d
      go (chosen k l h) = k
      go (kept f) = hw

  module _ (short : length w ≤ 255) where
    -- at most one code word is within reach: two differ in at most e + e' + f ≤ p bytes
    pub within_unique : (c d : List ℕ) → Within p m w c → Within p m w d → c ≡ d
    within_unique c d n k =
        minimum_distance p c d n.bytes k.bytes (sym n.len ∙ k.len) (omega (arith, n.len))
        (omega (arith, distance_errors m w c d n.len k.len, n.close, k.close)) n.code k.code

    -- THE REPAIR WITH MARKS: a word becomes the code word within reach
    pub nearest-within : (c : List ℕ) → Within p m w c → nearest_erased p m w ≡ c
    unfolding nearest_erased
    nearest-within c n = go (first_chosen (is_within p m w) w)
      where
        go : {d : List ℕ} → Chosen (is_within p m w) w d → d ≡ c
        go (chosen {c = d} k l h) = within_unique d c (test_within d k l h) n
        go (kept f) = absurd (false≢true (sym (f c n.bytes (sym n.len)) ∙ within_test c n))

    -- a code word with at most p marks
    pub self_within : IsCode p w → erasure_count m (length w) ≤ p → Within p m w w
    self_within h l = record { bytes = hw; len = refl; code = h; close = omega (arith, errors_self≡0 m w) }

  -- ---- what becomes of a word

  pub outcome_clean_within : is_within p m w w ≡ true → outcome_erased p m w ≡ Clean
  unfolding outcome_erased
  outcome_clean_within e = ap (λ (b : Bool). cond b Clean (cond (is_within p m w (nearest_erased p m w)) Corrected Uncorrectable)) e

  dirty : is_within p m w w ≡ false → outcome_erased p m w ≡ cond (is_within p m w (nearest_erased p m w)) Corrected Uncorrectable
  unfolding outcome_erased
  dirty e = ap (λ (b : Bool). cond b Clean (cond (is_within p m w (nearest_erased p m w)) Corrected Uncorrectable)) e

  -- no code word
  pub not_within : is_code p w ≡ false → is_within p m w w ≡ false
  unfolding is_within
  not_within e = ap (λ (b : Bool). b && leb (2 * error_count m w w + erasure_count m (length w)) p) e

  pub outcome_corrected-within : is_within p m w w ≡ false → is_within p m w (nearest_erased p m w) ≡ true → outcome_erased p m w ≡ Corrected
  outcome_corrected-within e f = dirty e ∙ ap (λ (b : Bool). cond b Corrected Uncorrectable) f

  pub outcome_none-within : ((c : List ℕ) → Within p m w c → ⊥) → outcome_erased p m w ≡ Uncorrectable
  outcome_none-within lone = dirty none ∙ ap (λ (b : Bool). cond b Corrected Uncorrectable) (ap (is_within p m w) (erased_stays lone) ∙ none)
    where
      none : is_within p m w w ≡ false
      none = go (is_within p m w w) refl
        where
          go : (b : Bool) → is_within p m w w ≡ b → b ≡ false
          go true e = absurd (lone w (test_within w hw refl (truth_of (is_within p m w w) e)))
          go false e = refl

-- ---- without marks

module _ (t : ℕ) (m w : List ℕ) (unmarked : (i : ℕ) → i < length w → is_erased m i ≡ false) where
  no_erasures : erasure_count m (length w) ≡ 0
  unfolding erasure_count
  no_erasures = count_none (is_erased m) 0 (length w) (λ i l. unmarked (0 + i) (omega arith))

  errors_distance : (c : List ℕ) → length c ≡ length w → error_count m w c ≡ distance w c
  unfolding error_count
  errors_distance c l =
      count_same (λ i. not (is_erased m i) && not (eqb (get_or w i 0) (get_or c i 0))) (λ i. not (eqb (get_or w i 0) (get_or c i 0))) 0 0 (length w) (λ i h. rw (unmarked (0 + i) (omega arith)))
      ∙ sym (distance_differing w c (sym l))

  within_near : (c : List ℕ) → length c ≡ length w → is_within (t + t) m w c ≡ is_near (t + t) t w c
  unfolding is_within is_near
  within_near c l = ap (λ (b : Bool). is_code (t + t) c && b) (go (leb (distance w c) t) refl (leb (2 * error_count m w c + erasure_count m (length w)) (t + t)) refl)
    where
      go : (a : Bool) → leb (distance w c) t ≡ a → (b : Bool) → leb (2 * error_count m w c + erasure_count m (length w)) (t + t) ≡ b → b ≡ a
      go true p true q = refl
      go false p false q = refl
      go true p false q =
          sym q ∙ le-leb (2 * error_count m w c + erasure_count m (length w)) (t + t)
          (omega (arith, leb→le (distance w c) t (truth_of (leb (distance w c) t) p), errors_distance c l, no_erasures))
      go false p true q =
          sym (le-leb (distance w c) t
          (omega (arith, leb→le (2 * error_count m w c + erasure_count m (length w)) (t + t) (truth_of (leb (2 * error_count m w c + erasure_count m (length w)) (t + t)) q), errors_distance c l, no_erasures)))
          ∙ p

  -- the repair with marks is the repair that was there before, where nothing is marked
  pub nearest-unmarked : nearest_erased (t + t) m w ≡ nearest (t + t) t w
  unfolding nearest_erased nearest
  nearest-unmarked = same_chosen (is_within (t + t) m w) (is_near (t + t) t w) w within_near

  pub outcome_unmarked : Bytes w → outcome_erased (t + t) m w ≡ outcome_of (t + t) t w
  unfolding outcome_erased outcome_of nearest is_near
  outcome_unmarked hw =
      ap₂ (λ (a b : Bool). cond a Clean (cond b Corrected Uncorrectable)) (within_near w refl)
      (ap (is_within (t + t) m w) nearest-unmarked ∙ within_near (nearest (t + t) t w) (nearest-length (t + t) t w hw))
      ∙ go (first_chosen (is_near (t + t) t w) w)
    where
      near_self : is_near (t + t) t w w ≡ is_code (t + t) w
      near_self = rw (le-leb (distance w w) t (omega (arith, distance_self w))) (and_true (is_code (t + t) w))
        where
          and_true : (b : Bool) → (b && true) ≡ b
          and_true true = refl
          and_true false = refl

      is_code_lem : (d : List ℕ) → T (is_near (t + t) t w d) → is_code (t + t) d ≡ is_near (t + t) t w d
      is_code_lem d h = truth (is_code (t + t) d) (and_left (is_code (t + t) d) (leb (distance w d) t) h) ∙ sym (truth (is_near (t + t) t w d) h)

      go : {d : List ℕ} → Chosen (is_near (t + t) t w) w d
          → cond (is_near (t + t) t w w) Clean (cond (is_near (t + t) t w d) Corrected Uncorrectable) ≡ cond (is_code (t + t) w) Clean (cond (is_code (t + t) d) Corrected Uncorrectable)
      go (chosen {c} k l h) = ap₂ (λ (a b : Bool). cond a Clean (cond b Corrected Uncorrectable)) near_self (sym (is_code_lem c h))
      go (kept f) = ap (λ (a : Bool). cond a Clean (cond a Corrected Uncorrectable)) near_self
