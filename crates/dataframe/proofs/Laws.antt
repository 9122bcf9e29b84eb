-- The frame of a sector: it holds its number, its Sector Information and its main data, and it passes every check.
-- Assumes nothing.
use mathlib.Core.Path.{◌≡◌, refl, sym, ap, ap₂, ◌∙◌}
use mathlib.Core.Bool.{Bool, true, false, ◌||◌, not}
use mathlib.Core.List.{List, ◌++◌}
use Prim.Native.Nat.{ℕ, ◌+◌, ◌-◌, ◌/◌, ◌%◌, ◌<◌, ◌≤◌}
use native.Mathlib.Omega.{arith}
use borrow.Author.Tests.{eqb-true, eq-eqb}
use lib.Dec.{eqb}
use lib.ListN.{length, get_or, take, drop, length-drop, get_or-append}
use lib.Seq.{ext_get_or, get_or-append-add, get_or-take, get_or-drop, length-take-le}
use Rattle.lists.specs.Bytes.{Bytes}
use Rattle.lists.proofs.Fill.{length-tabulate, get_d_tabulate}
use Rattle.layout.specs.Lengths.{head_size, frame_main_size, edc_place, frame_size}
use Rattle.edc.specs.Edc.{edc_of}
use Rattle.field.specs.Field.{add}
use Rattle.scrambling.specs.Scrambling.{preset_of, scrambling_byte, scrambled_at, scrambled}
use Rattle.scrambling.proofs.Scrambled.{scrambled_head, scrambled_main, scrambled_end, scrambled-bytes, scrambled_twice}
use Rattle.dataframe.specs.Frame.{is_permitted, id_of, ied_of, cpr_mai, head_of, data_frame}
use Rattle.dataframe.specs.Checks.{info_of, number_of, unscrambled, main_of, ied_passes, id_passes, edc_passes, frame_refusal}
use Rattle.dataframe.proofs.Framed.{id_length, ied_length, data_length, data_bytes, data_head, data_front, data_edc, data_main, data_at}
use Rattle.dataframe.proofs.Checked.{agree_same, refusal_none}

or_true : (b : Bool) → (b || true) ≡ true
or_true true = refl
or_true false = refl

module _ (d : List ℕ) (info n : ℕ) (len : length d ≡ frame_main_size) where
  abbrev frame : List ℕ
  frame = scrambled n (data_frame d info n)

  pub frame_length : length frame ≡ frame_size
  frame_length = length-tabulate (scrambled_at n (data_frame d info n)) frame_size

  pub frame_bytes_lem : Bytes d → info < 256 → Bytes frame
  frame_bytes_lem hd hi = scrambled-bytes n (data_frame d info n) (data_bytes d info n len hd hi)

  -- scrambling leaves the first twelve bytes and EDC,
  pub frame_head : (i : ℕ) → i < head_size → get_or frame i 0 ≡ get_or (head_of info n) i 0
  frame_head i l =
      get_d_tabulate (scrambled_at n (data_frame d info n)) frame_size i (omega arith) ∙ scrambled_head n (data_frame d info n) i l ∙ data_head d info n len i l

  -- and adds its bytes to the main data
  pub frame_data : (r : ℕ) → r < frame_main_size → get_or frame (head_size + r) 0 ≡ add (get_or d r 0) (scrambling_byte (preset_of n) r)
  frame_data r l =
      get_d_tabulate (scrambled_at n (data_frame d info n)) frame_size (head_size + r) (omega arith)
      ∙ scrambled_main n (data_frame d info n) (head_size + r) (omega arith) (omega arith)
      ∙ ap₂ (λ (x y : ℕ). add x (scrambling_byte (preset_of n) y)) (data_at d info n len r l) (omega arith)

  frame_edc : drop edc_place frame ≡ edc_of (head_of info n ++ d)
  frame_edc = ext_get_or 0 (drop edc_place frame) (drop edc_place (data_frame d info n)) (size ∙ sym size₂) (λ i l. each i (rw size at l)) ∙ data_edc d info n len
    where
      size : length (drop edc_place frame) ≡ 4
      size = length-drop edc_place frame ∙ ap (λ (x : ℕ). x - edc_place) frame_length

      size₂ : length (drop edc_place (data_frame d info n)) ≡ 4
      size₂ = length-drop edc_place (data_frame d info n) ∙ ap (λ (x : ℕ). x - edc_place) (data_length d info n len)

      each : (i : ℕ) → i < 4 → get_or (drop edc_place frame) i 0 ≡ get_or (drop edc_place (data_frame d info n)) i 0
      each i l =
          get_or-drop edc_place frame i 0 ∙ get_d_tabulate (scrambled_at n (data_frame d info n)) frame_size (edc_place + i) (omega arith)
          ∙ scrambled_end n (data_frame d info n) (edc_place + i) (omega arith) ∙ sym (get_or-drop edc_place (data_frame d info n) i 0)

  -- a part of the first twelve bytes, given by the head alone
  part : (s m : ℕ) (xs : List ℕ) → length xs ≡ m → s + m ≤ head_size → ((i : ℕ) → i < m → get_or (head_of info n) (s + i) 0 ≡ get_or xs i 0)
      → take m (drop s frame) ≡ xs
  part s m xs e l h = ext_get_or 0 (take m (drop s frame)) xs (size ∙ sym e) (λ i k. each i (rw size at k))
    where
      size : length (take m (drop s frame)) ≡ m
      size = length-take-le m (drop s frame) (rw length-drop (omega (arith, frame_length)))

      each : (i : ℕ) → i < m → get_or (take m (drop s frame)) i 0 ≡ get_or xs i 0
      each i k = get_or-take m (drop s frame) i 0 k ∙ get_or-drop s frame i 0 ∙ frame_head (s + i) (omega arith) ∙ h i k

  frame_id : take 4 frame ≡ id_of info n
  unfolding head_of
  frame_id = part 0 4 (id_of info n) (id_length info n) (omega arith) each
    where
      each : (i : ℕ) → i < 4 → get_or (head_of info n) (0 + i) 0 ≡ get_or (id_of info n) i 0
      each i l =
          ap (λ (x : ℕ). get_or (head_of info n) x 0) (omega arith)
          ∙ get_or-append (id_of info n) (ied_of (id_of info n) ++ cpr_mai) 0 i (omega (arith, id_length info n))

  frame_ied : take 2 (drop 4 frame) ≡ ied_of (id_of info n)
  unfolding head_of
  frame_ied = part 4 2 (ied_of (id_of info n)) (ied_length (id_of info n)) (omega arith) each
    where
      each : (i : ℕ) → i < 2 → get_or (head_of info n) (4 + i) 0 ≡ get_or (ied_of (id_of info n)) i 0
      each i l =
          ap (λ (x : ℕ). get_or (head_of info n) (x + i) 0) (sym (id_length info n))
          ∙ get_or-append-add (id_of info n) (ied_of (id_of info n) ++ cpr_mai) i 0
          ∙ get_or-append (ied_of (id_of info n)) cpr_mai 0 i (omega (arith, ied_length (id_of info n)))

  pub frame_info : info_of frame ≡ info
  unfolding head_of id_of
  frame_info = frame_head 0 (omega arith)

  frame_ied_passes : ied_passes frame ≡ true
  unfolding ied_passes
  frame_ied_passes = agree_same (frame_ied ∙ ap ied_of (sym frame_id))

  module _ (small : n < 16777216) where
    pub frame_number : number_of frame ≡ n
    unfolding number_of head_of id_of
    frame_number =
        let a : get_or frame 1 0 ≡ n / 65536 % 256 = frame_head 1 (omega arith) in
        let b : get_or frame 2 0 ≡ n / 256 % 256 = frame_head 2 (omega arith) in
        let c : get_or frame 3 0 ≡ n % 256 = frame_head 3 (omega arith) in
        omega arith

    frame_unscrambled : unscrambled frame ≡ data_frame d info n
    unfolding unscrambled
    frame_unscrambled = ap (λ (x : ℕ). scrambled x frame) frame_number ∙ scrambled_twice n (data_frame d info n) (data_length d info n len)

    -- unscrambling gives the main data back
    pub frame_main : main_of frame ≡ d
    unfolding main_of
    frame_main = ap (λ (x : List ℕ). take frame_main_size (drop head_size x)) frame_unscrambled ∙ data_main d info n len

    frame_edc_passes : edc_passes frame ≡ true
    unfolding edc_passes
    frame_edc_passes = agree_same (frame_edc ∙ ap edc_of (sym (ap (take edc_place) frame_unscrambled ∙ data_front d info n len)))

-- frame k of a block whose first number is a multiple of 16 passes every check
pub frame_passes :
    (d : List ℕ) (first info k : ℕ) → length d ≡ frame_main_size → first % 16 ≡ 0 → first + k < 16777216 → is_permitted info ≡ true
    → frame_refusal first info k (scrambled (first + k) (data_frame d info (first + k))) ≡ 0
unfolding id_passes
frame_passes d first info k len sixteen small plain =
    sym (refusal_none first info k f (frame_ied_passes d info (first + k) len) id (frame_edc_passes d info (first + k) len small))
  where
    f : List ℕ
    f = scrambled (first + k) (data_frame d info (first + k))

    number : number_of f ≡ first + k
    number = frame_number d info (first + k) len small

    info-is : info_of f ≡ info
    info-is = frame_info d info (first + k) len

    first_is : (b : Bool) → eqb k 0 ≡ b → (not (eqb k 0) || eqb (number_of f % 16) 0) ≡ true
    first_is true e =
        let z : k ≡ 0 = eqb-true k 0 e in
        rw (eq-eqb (number_of f % 16) 0 (omega (arith, number))) (or_true (not (eqb k 0)))
    first_is false e = rw e

    id : id_passes first info k f ≡ true
    id =
        rw (first_is (eqb k 0) refl, eq-eqb (number_of f) (first + k) number, ap is_permitted info-is ∙ plain)
        (eq-eqb (info_of f) info info-is)
