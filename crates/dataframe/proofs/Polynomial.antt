-- A Data Frame as one bit field and the polynomial of EDC (ECMA-268, 16.4): a frame that was built is a multiple of x^32 + x^31 + x^4 + 1 (frame_multiple), and a
-- frame that was read passes check 6 where it is one, and only there (check_multiple, multiple_checked).
-- Assumes nothing.
use mathlib.Core.Path.{◌≡◌, sym, ap, ◌∙◌, subst}
use mathlib.Core.Bool.{true}
use mathlib.Core.List.{List, ◌++◌}
use Prim.Native.Nat.{ℕ, ◌+◌, ◌-◌, ◌<◌}
use native.Mathlib.Omega.{arith}
use lib.ListN.{length, take, drop, length-drop, take-append-drop}
use lib.Seq.{ext_get_or, get_or-drop}
use Rattle.lists.specs.Bytes.{Bytes}
use Rattle.lists.proofs.Bytes.{append-bytes, take-bytes, drop-bytes}
use Rattle.lists.proofs.Fill.{length-tabulate, get_d_tabulate}
use Rattle.layout.specs.Lengths.{edc_place, frame_size}
use Rattle.edc.specs.Edc.{edc_of}
use Rattle.edc.specs.Polynomial.{bit_field, Multiple}
use Rattle.edc.proofs.Steps.{edc_length}
use Rattle.edc.proofs.Polynomial.{edc_multiple, edc_unique}
use Rattle.scrambling.specs.Scrambling.{scrambled_at}
use Rattle.scrambling.proofs.Scrambled.{scrambled_end, scrambled-bytes}
use Rattle.dataframe.specs.Frame.{head_of, data_frame}
use Rattle.dataframe.specs.Checks.{number_of, unscrambled, edc_passes}
use Rattle.dataframe.proofs.Framed.{head_bytes}
use Rattle.dataframe.proofs.Checked.{agree_same, agree_equal}

-- ---- a frame that was built

pub frame_multiple : (d : List ℕ) (info n : ℕ) → Bytes d → info < 256 → Multiple (bit_field (data_frame d info n))
unfolding data_frame
frame_multiple d info n hd hi = edc_multiple (head_of info n ++ d) (append-bytes (head_of info n) d (head_bytes info n hi) hd)

-- ---- a frame that was read

module _ (f : List ℕ) (len : length f ≡ frame_size) (bytes : Bytes f) where
  abbrev front : List ℕ
  front = take edc_place (unscrambled f)

  unscrambled-bytes : Bytes (unscrambled f)
  unfolding unscrambled
  unscrambled-bytes = scrambled-bytes (number_of f) f bytes

  end_length : length (drop edc_place f) ≡ 4
  end_length = length-drop edc_place f ∙ ap (λ (x : ℕ). x - edc_place) len

  -- EDC is not scrambled
  unscrambled_end : drop edc_place (unscrambled f) ≡ drop edc_place f
  unfolding unscrambled
  unscrambled_end =
      let u : List ℕ = unscrambled f in
      let size : length (drop edc_place u) ≡ 4 = length-drop edc_place u ∙ ap (λ (x : ℕ). x - edc_place) (length-tabulate (scrambled_at (number_of f) f) frame_size) in
      ext_get_or 0 (drop edc_place u) (drop edc_place f) (size ∙ sym end_length)
      (λ i h. get_or-drop edc_place u i 0 ∙ get_d_tabulate (scrambled_at (number_of f) f) frame_size (edc_place + i) (omega (arith, size))
      ∙ scrambled_end (number_of f) f (edc_place + i) (omega arith) ∙ sym (get_or-drop edc_place f i 0))

  whole : front ++ drop edc_place f ≡ unscrambled f
  whole = ap (λ (x : List ℕ). front ++ x) (sym unscrambled_end) ∙ take-append-drop edc_place (unscrambled f)

  pub check_multiple : edc_passes f ≡ true → Multiple (bit_field (unscrambled f))
  unfolding edc_passes
  check_multiple a =
      let e : drop edc_place f ≡ edc_of front = agree_equal (drop edc_place f) (edc_of front) (end_length ∙ sym (edc_length front)) a in
      subst (λ (x : List ℕ). Multiple (bit_field x)) (ap (λ (x : List ℕ). front ++ x) (sym e) ∙ whole)
      (edc_multiple front (take-bytes edc_place (unscrambled f) unscrambled-bytes))

  pub multiple_checked : Multiple (bit_field (unscrambled f)) → edc_passes f ≡ true
  unfolding edc_passes
  multiple_checked m =
      agree_same
      (edc_unique front (drop edc_place f) (take-bytes edc_place (unscrambled f) unscrambled-bytes) (drop-bytes edc_place f bytes) end_length
      (subst (λ (x : List ℕ). Multiple (bit_field x)) (sym whole) m))
