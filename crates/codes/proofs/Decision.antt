-- The repair with marks, decided by the syndromes of the word and of the mended word: what comes out is the code word with 2e + f ≤ p, or the word where there is
-- none.
-- Assumes nothing.
use mathlib.Core.Path.{◌≡◌, sym, ap, ◌∙◌, subst}
use mathlib.Core.Bool.{true, false, false≢true}
use mathlib.Core.List.{List}
use Prim.Native.Nat.{ℕ, ◌+◌, ◌<◌, ◌≤◌}
use native.Mathlib.Omega.{arith}
use lib.Dec.{eqb}
use lib.ListN.{length, get_or}
use Rattle.lists.specs.Bytes.{Bytes}
use Rattle.lists.specs.Fill.{tabulate}
use Rattle.lists.specs.Test.{below}
use Rattle.lists.proofs.Fill.{length-tabulate, get_d_tabulate}
use Rattle.lists.proofs.Test.{truth, truth_of, below-same}
use Rattle.codes.specs.Word.{syndrome, is_code, all_zero}
use Rattle.codes.specs.Erasures.{erasure_count, error_count, is_within, nearest_erased, outcome_erased}
use Rattle.codes.specs.Inner.{at, is_suspect, places_where, Places, AllBelow, mended}
use Rattle.codes.specs.declared.Outcome.{Outcome}
use Rattle.codes.specs.declared.Outcome.TheVariants.{Clean, Corrected, Uncorrectable}
use Rattle.codes.proofs.Words.{code_of_test, test_of_code}
use Rattle.codes.proofs.Values.{places_descending, descending_at}
use Rattle.codes.proofs.Mended.{mended-within, mended-length, mended-bytes, mended_errors}
use Rattle.codes.proofs.Erasures.{Within, within_test, erased_stays, nearest-within, self_within, not_within, outcome_clean_within, outcome_corrected-within, outcome_none-within}

-- b is what the repair gives for w with the marks m, and o what it says of it
abbrev pub Repaired : ℕ → List ℕ → List ℕ → List ℕ → Outcome → Type 0
Repaired p m w b o = (b ≡ nearest_erased p m w) × (o ≡ outcome_erased p m w)

-- the p syndromes of a word decide: they are all 0 exactly where it is a code word
pub all_zero-is_code : (p : ℕ) (w s : List ℕ) → s ≡ tabulate (syndrome w) p → all_zero s ≡ is_code p w
unfolding all_zero is_code
all_zero-is_code p w s e =
    ap (λ (x : List ℕ). below (length x) (λ i. eqb (get_or x i 0) 0)) e
    ∙ ap (λ (n : ℕ). below n (λ i. eqb (get_or (tabulate (syndrome w) p) i 0) 0)) (length-tabulate (syndrome w) p)
    ∙ below-same p (λ i. eqb (get_or (tabulate (syndrome w) p) i 0) 0) (λ i. eqb (syndrome w i) 0)
    (λ i l. ap (λ (x : ℕ). eqb x 0) (get_d_tabulate (syndrome w) p i l))

module _ (p : ℕ) (m w : List ℕ) (hw : Bytes w) where
  none-repaired : ((c : List ℕ) → Within p m w c → ⊥) → Repaired p m w w Uncorrectable
  none-repaired lone = (sym (erased_stays p m w hw lone), sym (outcome_none-within p m w hw lone))

  -- more than p marks: no code word is within reach, and the word may be one itself
  pub overfull : p < erasure_count m (length w) → Repaired p m w w Uncorrectable
  overfull l = none-repaired (λ c n. omega (arith, l, n.close))

  module _ (sized : length m ≡ length w) (short : length w ≤ 255) (fits : erasure_count m (length w) ≤ p) (s : List ℕ) (ss : s ≡ tabulate (syndrome w) p) where
    pub clean : all_zero s ≡ true → Repaired p m w w Clean
    clean z =
        let c : is_code p w ≡ true = sym (all_zero-is_code p w s ss) ∙ z in
        let n : Within p m w w = self_within p m w hw short (code_of_test p w (truth_of (is_code p w) c)) fits in
        (sym (nearest-within p m w hw short w n), sym (outcome_clean_within p m w hw (within_test p m w hw w n)))

    -- t errors can be located beside the marks; n is w mended at the places ks, and s' its syndromes
    module _ (t : ℕ) (room : t + t + erasure_count m (length w) ≤ p) (wide : p ≤ t + t + erasure_count m (length w) + 1) (ks : List ℕ) (found : Places (at s) t m ks)
        (n : List ℕ) (en : n ≡ mended (at s) ks w) (s' : List ℕ) (ss' : s' ≡ tabulate (syndrome n) p) (dirty : all_zero s ≡ false) where
      not_code : is_code p w ≡ false
      not_code = sym (all_zero-is_code p w s ss) ∙ dirty

      at_places : n ≡ mended (at s) (places_where (is_suspect m found.locator) (length m)) w
      at_places = en ∙ ap (λ (x : List ℕ). mended (at s) x w) found.found

      within : is_code p n ≡ true → Within p m w n
      within c = record {
        bytes = subst Bytes (sym en) (mended-bytes (at s) ks w hw);
        len = sym (ap length en ∙ mended-length (at s) ks w);
        code = code_of_test p n (truth_of (is_code p n) c);
        close =
            omega (
              arith,
              ap (error_count m w) at_places,
              mended_errors (at s) m found.locator w sized short found.bytes t found.locates.size found.locates.some,
              room,
            );
      }

      pub corrected : all_zero s' ≡ true → Repaired p m w n Corrected
      corrected z =
          let c : is_code p n ≡ true = sym (all_zero-is_code p n s' ss') ∙ z in
          let e : nearest_erased p m w ≡ n = nearest-within p m w hw short n (within c) in
          (sym e, sym (outcome_corrected-within p m w hw (not_within p m w hw not_code) (ap (is_within p m w) e ∙ within_test p m w hw n (within c))))

      -- a code word within reach would have been found
      none_within : is_code p n ≡ false → (c : List ℕ) → Within p m w c → ⊥
      none_within f c k =
          let e : n ≡ c =
          at_places
          ∙ mended-within p t m w c hw sized short k room wide (at s) (λ i l. ap (λ (x : List ℕ). at x i) ss ∙ get_d_tabulate (syndrome w) p i l) found.locator found.bytes found.locates in
          false≢true (sym f ∙ ap (is_code p) e ∙ truth (is_code p c) (test_of_code p c k.code))

      pub uncorrectable : all_zero s' ≡ false → Repaired p m w w Uncorrectable
      uncorrectable z = none-repaired (none_within (sym (all_zero-is_code p n s' ss') ∙ z))

-- each place found is a place of the word
pub places_below : (S : ℕ → ℕ) (t : ℕ) (m ks : List ℕ) → Places S t m ks → AllBelow (length m) ks
places_below S t m ks found j h =
    let f = is_suspect m found.locator in
    let e : ks ≡ places_where f (length m) = found.found in
    subst (λ (l : List ℕ). get_or l j 0 < length m) (sym e) (descending_at (length m) (places_where f (length m)) j (places_descending f (length m)) (omega (arith, ap length e)))
