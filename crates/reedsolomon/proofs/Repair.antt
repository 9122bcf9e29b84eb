-- The repair of a word of n bytes with p roots and its marks: one text, which the functions of rows and of columns cite.
--   word_bytes                                      the bytes of an array are bytes
--   Shape n p                                       what the two numbers have to do with one another; row_shape, column_shape, shape_of: rows and columns have it
--   word_syndromes                                  the syndromes of a word, from what is left of it by the generator
--   word_overfull                                   more marks than roots
--   word_clean, word_corrected, word_uncorrectable  what the syndromes of the word and of the mended word decide
--   unmarked-repaired                               without marks it is the repair within p / 2 bytes
--   word_light                                      and what the light repair gives where it repairs; row_light, column_light: of rows and of columns
-- Assumes nothing.
use mathlib.Core.Path.{◌≡◌, sym, ap, ◌∙◌}
use mathlib.Core.Bool.{Bool, true, false}
use mathlib.Core.List.{List}
use mathlib.Core.Logic.{inl, inr}
use Prim.Native.Nat.{ℕ, ◌+◌, ◌-◌, ◌/◌, ◌<◌, ◌≤◌}
use native.Mathlib.Omega.{arith}
use lib.Dec.{eqb}
use lib.ListN.{length, get_or, take, replicate}
use mir.Val.{Fits}
use mir.Syntax.{w8}
use Rattle.lists.specs.Bytes.{Bytes}
use Rattle.lists.proofs.Bytes.{bytes_of}
use Rattle.lists.specs.Fill.{tabulate}
use Rattle.lists.proofs.Count.{count_none, none-counted}
use Rattle.codes.specs.Word.{syndrome, all_zero}
use Rattle.codes.specs.Nearest.{nearest, outcome_of}
use Rattle.codes.specs.Light.{light_outcome}
use Rattle.codes.specs.Erasures.{is_erased, erasure_count, nearest_erased}
use Rattle.codes.specs.Inner.{at, Places, mended}
use Rattle.codes.specs.declared.LightOutcome.{LightOutcome}
use Rattle.codes.specs.declared.LightOutcome.TheVariants as Light
use Rattle.codes.specs.declared.Outcome.{Outcome}
use Rattle.codes.specs.declared.Outcome.TheVariants.{Clean, Corrected, Uncorrectable}
use Rattle.codes.proofs.Division.{Code, ten_roots, sixteen_roots}
use Rattle.codes.proofs.Erasures.{nearest-unmarked, outcome_unmarked}
use Rattle.codes.proofs.Decision.{Repaired, all_zero-is_code, overfull, clean, corrected, uncorrectable}
use Rattle.codes.proofs.Light.{LightRepaired, light_general, light_unmarked, light_corrected}
use Rattle.layout.specs.Lengths.{row_count, row_size, inner_size, outer_size}
use Rattle.division.specs.Inner.{packed, remainder_of, unpacked}
use Rattle.division.specs.declared.register.Remainder.{Remainder}
use Rattle.division.proofs.Division.{zeros-place}
use Rattle.syndromes.proofs.Left.{syndromes_left}
use Rattle.reedsolomon.specs.Inner.{Sizes}

-- the bytes of an array are bytes
pub word_bytes : (w : List ℕ) → ((i : ℕ) → Fits w8 (get_or w i 0)) → Bytes w
word_bytes w fits = bytes_of w (λ i l. let f = fits i in omega (arith, f.fits))

-- words of n bytes with p roots
pub record Shape (n p : ℕ) : Type 0 where
  pub roots : Code p
  pub few : p ≤ 16
  pub holds : p ≤ n
  pub short : n ≤ 255

-- the rows and the columns of an ECC Block (clause 18)
pub row_shape : Shape row_size inner_size
row_shape = record { roots = ten_roots; few = omega arith; holds = omega arith; short = omega arith }

pub column_shape : Shape row_count outer_size
column_shape = record { roots = sixteen_roots; few = omega arith; holds = omega arith; short = omega arith }

-- either of them
pub shape_of : (n p : ℕ) → Sizes n p → Shape n p
shape_of n p s = elim s [ inl (en, ep) ↦ rw (en, ep) row_shape | inr (en, ep) ↦ rw (en, ep) column_shape ]

module _ {n p : ℕ} (shape : Shape n p) (w : List ℕ) (size : length w ≡ n) (hw : Bytes w) where
  -- r is what is left of the word, and s the syndromes of that
  pub word_syndromes : (r : Remainder) (s : List ℕ) → r ≡ packed (remainder_of p w) → s ≡ tabulate (syndrome (take p (unpacked r))) p → s ≡ tabulate (syndrome w) p
  word_syndromes r s er es = es ∙ syndromes_left p shape.roots shape.few w hw (omega (arith, shape.holds)) r er

  -- m are the marks of its bytes, and f of them are marked
  module _ (m : List ℕ) (sized : length m ≡ n) (f : ℕ) (ef : f ≡ erasure_count m n) where
    counted : erasure_count m (length w) ≡ f
    counted = ap (erasure_count m) size ∙ sym ef

    pub word_overfull : p < f → Repaired p m w w Uncorrectable
    word_overfull l = overfull p m w hw (omega (arith, l, counted))

    -- s are the syndromes of the word, and zero says whether they are all 0
    module _ (fits : f ≤ p) (s : List ℕ) (ss : s ≡ tabulate (syndrome w) p) (zero : Bool) (ez : zero ≡ all_zero s) where
      pub word_clean : zero ≡ true → Repaired p m w w Clean
      word_clean z = clean p m w hw (sized ∙ sym size) (omega (arith, shape.short)) (omega (arith, fits, counted)) s ss (sym ez ∙ z)

      -- y is the word mended at the places ks, s' its syndromes, and again says whether they are all 0
      module _ (dirty : zero ≡ false) (ks : List ℕ) (found : Places (at s) ((p - f) / 2) m ks) (y : List ℕ) (ey : y ≡ mended (at s) ks w)
          (s' : List ℕ) (ss' : s' ≡ tabulate (syndrome y) p) (again : Bool) (ea : again ≡ all_zero s') where
        pub word_corrected : again ≡ true → Repaired p m w y Corrected
        word_corrected z =
            corrected p m w hw (sized ∙ sym size) (omega (arith, shape.short)) (omega (arith, fits, counted)) s ss ((p - f) / 2) (omega (arith, fits, counted))
            (omega (arith, fits, counted)) ks found y ey s' ss' (sym ez ∙ dirty) (sym ea ∙ z)

        pub word_uncorrectable : again ≡ false → Repaired p m w w Uncorrectable
        word_uncorrectable z =
            uncorrectable p m w hw (sized ∙ sym size) (omega (arith, shape.short)) (omega (arith, fits, counted)) s ss ((p - f) / 2) (omega (arith, fits, counted))
            (omega (arith, fits, counted)) ks found y ey s' ss' (sym ez ∙ dirty) (sym ea ∙ z)

-- zeros mark nothing
pub zeros-unmarked : (n i : ℕ) → is_erased (replicate n 0) i ≡ false
zeros-unmarked n i = ap (λ (b : ℕ). eqb b 1) (zeros-place n i)

pub zeros-count : (n : ℕ) → 0 ≡ erasure_count (replicate n 0) n
unfolding erasure_count
zeros-count n = sym (count_none (is_erased (replicate n 0)) 0 n (λ i l. zeros-unmarked n (0 + i)))

pub unmarked-repaired : (n t : ℕ) (w b : List ℕ) (o : Outcome) → Bytes w → Repaired (t + t) (replicate n 0) w b o → (b ≡ nearest (t + t) t w) × (o ≡ outcome_of (t + t) t w)
unmarked-repaired n t w b o hw r =
    (r.0 ∙ nearest-unmarked t (replicate n 0) w (λ i l. zeros-unmarked n i), r.1 ∙ outcome_unmarked t (replicate n 0) w (λ i l. zeros-unmarked n i) hw)

-- nothing is marked, and the light repair within t bytes gave y and said o
module _ {n : ℕ} (r : ℕ) (shape : Shape n (r + r)) (w : List ℕ) (size : length w ≡ n) (hw : Bytes w) (m : List ℕ) (f : ℕ) (ef : f ≡ erasure_count m n) (none : f ≡ 0) where
  none_marked : (i : ℕ) → i < length w → is_erased m i ≡ false
  unfolding erasure_count
  none_marked i l = ap (is_erased m) (omega arith) ∙ none-counted (is_erased m) 0 n (sym ef ∙ none) i (omega arith)

  short : length w ≤ 255
  short = omega (arith, shape.short)

  pub word_light :
      (t : ℕ) → t ≤ r → (y : List ℕ) (o : LightOutcome) → LightRepaired (r + r) t w y o → o ≡ Light.Repaired
      → (s : List ℕ) → s ≡ tabulate (syndrome w) (r + r) → all_zero s ≡ false → Repaired (r + r) m w y Corrected
  word_light t more y o light said s ss dirty =
      let e : light_outcome (r + r) t w ≡ Light.Repaired = sym light.1 ∙ said in (
        light.0 ∙ sym (light_unmarked t r more m w hw short none_marked e),
        sym (light_corrected t r more m w hw short none_marked e (sym (all_zero-is_code (r + r) w s ss) ∙ dirty)),
      )

-- THE LIGHT REPAIR AND THE GENERAL ONE: where it repairs a row, the row is what the general repair gives of it without marks; and so is a column
pub row_light :
    (w : List ℕ) → Bytes w → length w ≡ row_size → light_outcome inner_size 2 w ≡ Light.Repaired → nearest_erased inner_size (replicate row_size 0) w ≡ nearest inner_size 2 w
row_light w hw size e = light_unmarked 2 5 (omega arith) (replicate row_size 0) w hw (omega arith) (λ i l. zeros-unmarked row_size i) e

pub column_light : (w : List ℕ) → Bytes w → length w ≡ row_count → light_outcome outer_size 2 w ≡ Light.Repaired → nearest outer_size 8 w ≡ nearest outer_size 2 w
column_light w hw size e = light_general outer_size 2 w hw 8 (omega arith) (omega arith) (omega arith) e
