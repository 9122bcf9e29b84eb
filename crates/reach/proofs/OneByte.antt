-- Two main data that are alike but for byte p, with one first number and one Sector Information, and where their blocks are alike: in each byte of the frames but that
-- byte and EDC of its frame (data_alike), so in each column but five (code_column_alike) and in each row of the frames but two (code_row_alike). What is left is at
-- most 265 bytes (one-byte_reaches).
-- Assumes nothing.
use mathlib.Core.Path.{◌≡◌, refl, sym, ap, subst, ◌∙◌}
use mathlib.Core.Bool.{Bool, true, false}
use mathlib.Core.List.{List, ◌++◌}
use mathlib.Core.Logic.{◌≢◌}
use Prim.Native.Nat.{ℕ, ◌+◌, ◌*◌, ◌-◌, ◌/◌, ◌%◌, ◌<◌, ◌≤◌}
use native.Mathlib.Omega.{arith}
use borrow.Author.Tests.{eqb-true, eqb-false, ltb-true, ltb-false, leb-false}
use lib.Dec.{eqb, ltb, leb}
use lib.ListN.{length, get_or}
use lib.Seq.{ext_get_or}
use Rattle.lists.specs.Count.{bit, sum_from, distance}
use Rattle.lists.proofs.Count.{count_at, count_after}
use Rattle.lists.proofs.Distance.{distance_self, distance_after, distance_after_but, one_apart}
use Rattle.lists.proofs.Fill.{tabulate-same}
use Rattle.lists.proofs.Sum.{sum-order, sum-add, sum_times}
use Rattle.layout.specs.Lengths.{head_size, frame_main_size, edc_place, sector_count, frame_rows, data_rows, column_count, inner_size, outer_size}
use Rattle.field.specs.Field.{add}
use Rattle.codes.specs.Parity.{parity}
use Rattle.scrambling.specs.Scrambling.{preset_of, scrambling_byte}
use Rattle.eccblock.specs.Block.{main_part, frame, data_byte, column, code_column, row, code_row, block}
use Rattle.eccblock.specs.Encode.{Accepted}
use Rattle.eccblock.specs.Run.{BlockInput}
use Rattle.std.specs.Prelude.{Option}
use Rattle.eccblock.proofs.Cells.{code_column_data, code_row_length, code_row_data}
use Rattle.eccblock.proofs.Laws.{part_byte, part_length, frame_by_part, frame_head, frame_data}
use Rattle.eccblock.proofs.Refusals.{accepted_facts}
use Rattle.reach.proofs.Rows.{block_distance}

-- ---- where byte p of the main data stands among the 192 rows of the frames, and EDC of its frame: its last row, columns 168 to 171

abbrev pub byte_row : ℕ → ℕ
byte_row p = frame_rows * (p / frame_main_size) + (head_size + p % frame_main_size) / column_count

abbrev pub byte_column : ℕ → ℕ
byte_column p = (head_size + p % frame_main_size) % column_count

abbrev pub edc_row : ℕ → ℕ
edc_row p = frame_rows * (p / frame_main_size) + 11

abbrev pub edc_column : ℕ
edc_column = 168

module _ {previous before : Option ℕ} (main other : List ℕ) (first info : ℕ) (ok : Accepted previous main first info) (also : Accepted before other first info) (p : ℕ)
    (alike : (i : ℕ) → i ≢ p → get_or main i 0 ≡ get_or other i 0) where
  -- ---- frames

  -- a frame without byte p is the same,
  frame_alike : (k : ℕ) → k < sector_count → k ≢ p / frame_main_size → frame main first info k ≡ frame other first info k
  frame_alike k h n =
      frame_by_part main other first info k
      (ext_get_or 0 (main_part main k) (main_part other k) (sized ∙ sym (part_length other first info also k h))
      (λ r l.
      let s : r < frame_main_size = omega (arith, sized) in
      part_byte main k r s ∙ alike (frame_main_size * k + r) (λ e. n (omega (arith, e))) ∙ sym (part_byte other k r s)))
    where
      sized : length (main_part main k) ≡ frame_main_size
      sized = part_length main first info ok k h

  -- and in its own frame the head and the other main data are
  byte_alike : (k q : ℕ) → k < sector_count → k ≡ p / frame_main_size → q < edc_place → q ≢ head_size + p % frame_main_size
      → get_or (frame main first info k) q 0 ≡ get_or (frame other first info k) q 0
  byte_alike k q h own l n = go (ltb q head_size) refl
    where
      data_byte_lem : (r : ℕ) → r < frame_main_size → r ≢ p % frame_main_size
          → get_or (frame main first info k) (head_size + r) 0 ≡ get_or (frame other first info k) (head_size + r) 0
      data_byte_lem r s d =
          frame_data main first info ok k r h s
          ∙ ap (λ (x : ℕ). add x (scrambling_byte (preset_of (first + k)) r)) (alike (frame_main_size * k + r) (λ e. d (omega (arith, e))))
          ∙ sym (frame_data other first info also k r h s)

      go : (b : Bool) → ltb q head_size ≡ b → get_or (frame main first info k) q 0 ≡ get_or (frame other first info k) q 0
      go true e =
          let s = ltb-true q head_size e in
          frame_head main first info ok k q h s ∙ sym (frame_head other first info also k q h s)
      go false e =
          let s = ltb-false q head_size e in
          let same : head_size + (q - head_size) ≡ q = omega arith in
          rw same at (data_byte_lem (q - head_size) (omega arith) (λ d. n (omega (arith, d))))

  -- ---- cells of the 192 rows: all but that of the byte and those of EDC

  data_alike : (j i : ℕ) → j < column_count → i < data_rows → (i ≡ byte_row p → j ≢ byte_column p) → (i ≡ edc_row p → j < edc_column)
      → data_byte main first info j i ≡ data_byte other first info j i
  unfolding data_byte
  data_alike j i hj hi byte edc = go (eqb (i / frame_rows) (p / frame_main_size)) (ltb (i % frame_rows) 11) refl refl
    where
      place : ℕ
      place = column_count * (i % frame_rows) + j

      own : i / frame_rows ≡ p / frame_main_size → place < edc_place
          → get_or (frame main first info (i / frame_rows)) place 0 ≡ get_or (frame other first info (i / frame_rows)) place 0
      own e l = byte_alike (i / frame_rows) place (omega arith) e l (λ d. byte (omega (arith, d)) (omega (arith, d)))

      go : (b c : Bool) → eqb (i / frame_rows) (p / frame_main_size) ≡ b → ltb (i % frame_rows) 11 ≡ c
          → get_or (frame main first info (i / frame_rows)) place 0 ≡ get_or (frame other first info (i / frame_rows)) place 0
      go true true e f = own (eqb-true (i / frame_rows) (p / frame_main_size) e) (omega (arith, ltb-true (i % frame_rows) 11 f))
      go true false e f =
          let same = eqb-true (i / frame_rows) (p / frame_main_size) e in
          let last = ltb-false (i % frame_rows) 11 f in
          let before-edc = edc (omega arith) in
          own same (omega arith)
      go false c e f =
          ap (λ (fs : List ℕ). get_or fs place 0) (frame_alike (i / frame_rows) (omega arith) (eqb-false (i / frame_rows) (p / frame_main_size) e))

  -- ---- columns: all but five
  pub code_column_alike : (j : ℕ) → j < edc_column → j ≢ byte_column p → code_column main first info j ≡ code_column other first info j
  unfolding code_column column
  code_column_alike j h n =
      ap (λ (c : List ℕ). c ++ parity outer_size c)
      (tabulate-same (data_byte main first info j) (data_byte other first info j) 0 0 data_rows
      (λ i l. data_alike j (0 + i) (omega arith) (omega arith) (λ e. n) (λ e. h)))

  -- ---- rows of the frames: all but two
  cell_alike : (i j : ℕ) → i < data_rows → j < column_count → (i ≡ byte_row p → j ≢ byte_column p) → (i ≡ edc_row p → j < edc_column)
      → get_or (code_column main first info j) i 0 ≡ get_or (code_column other first info j) i 0
  cell_alike i j hi hj byte edc =
      code_column_data main first info j i hi ∙ data_alike j i hj hi byte edc ∙ sym (code_column_data other first info j i hi)

  pub code_row_alike : (i : ℕ) → i < data_rows → i ≢ byte_row p → i ≢ edc_row p → code_row main first info i ≡ code_row other first info i
  unfolding code_row row
  code_row_alike i h n m =
      ap (λ (r : List ℕ). r ++ parity inner_size r)
      (tabulate-same (λ j. get_or (code_column main first info j) i 0) (λ j. get_or (code_column other first info j) i 0) 0 0 column_count
      (λ j l. cell_alike i (0 + j) h (omega arith) (λ e. absurd (n e)) (λ e. absurd (m e))))

  -- ---- what is left, row by row

  abbrev apart : ℕ → ℕ
  apart i = distance (code_row main first info i) (code_row other first info i)

  row_cell : (i j : ℕ) → j < column_count → get_or (code_column main first info j) i 0 ≡ get_or (code_column other first info j) i 0
      → get_or (code_row main first info i) j 0 ≡ get_or (code_row other first info i) j 0
  row_cell i j h e = code_row_data main first info i j h ∙ e ∙ sym (code_row_data other first info i j h)

  -- in any row at most five columns and inner parity: 5 + 10
  any_row : (i : ℕ) → apart i ≤ 15
  any_row i =
      distance_after_but (code_row main first info i) (code_row other first info i) edc_column 14 (code_row_length main first info i) (code_row_length other first info i)
      (byte_column p) (λ j h n. row_cell i j (omega arith) (ap (λ (c : List ℕ). get_or c i 0) (code_column_alike j h n)))

  -- in a row of the frames the byte and inner parity, 1 + 10, or EDC and inner parity, 4 + 10
  data_row : (i : ℕ) → i < data_rows → apart i ≤ 11 * bit (eqb i (byte_row p)) + 14 * bit (eqb i (edc_row p))
  data_row i h = go (eqb i (byte_row p)) (eqb i (edc_row p)) refl refl
    where
      go : (b c : Bool) → eqb i (byte_row p) ≡ b → eqb i (edc_row p) ≡ c → apart i ≤ 11 * bit b + 14 * bit c
      go true true e f = omega (arith, any_row i)
      go true false e f =
          distance_after_but (code_row main first info i) (code_row other first info i) column_count inner_size (code_row_length main first info i)
          (code_row_length other first info i) (byte_column p)
          (λ j l n. row_cell i j l (cell_alike i j h l (λ q. n) (λ q. absurd (eqb-false i (edc_row p) f q))))
      go false true e f =
          distance_after (code_row main first info i) (code_row other first info i) edc_column 14 (code_row_length main first info i)
          (code_row_length other first info i)
          (λ j l. row_cell i j (omega arith) (cell_alike i j h (omega arith) (λ q. absurd (eqb-false i (byte_row p) e q)) (λ q. l)))
      go false false e f =
          let same = code_row_alike i h (eqb-false i (byte_row p) e) (eqb-false i (edc_row p) f) in
          omega (arith, ap (λ (r : List ℕ). distance r (code_row other first info i)) same, distance_self (code_row other first info i))

  row_apart : (i : ℕ) → apart i ≤ 11 * bit (eqb i (byte_row p)) + 14 * bit (eqb i (edc_row p)) + 15 * bit (leb data_rows i)
  row_apart i = go (leb data_rows i) refl
    where
      go : (b : Bool) → leb data_rows i ≡ b → apart i ≤ 11 * bit (eqb i (byte_row p)) + 14 * bit (eqb i (edc_row p)) + 15 * bit b
      go true e = omega (arith, any_row i)
      go false e = omega (arith, data_row i (leb-false data_rows i e))

  -- in all rows of the frames and d of outer parity
  rows_apart : (d : ℕ) → sum_from apart 0 (data_rows + d) ≤ 11 + 14 + 15 * d
  rows_apart d =
      let n = data_rows + d in
      let x : ℕ → ℕ = λ i. 11 * bit (eqb i (byte_row p)) in
      let y : ℕ → ℕ = λ i. 14 * bit (eqb i (edc_row p)) in
      let z : ℕ → ℕ = λ i. 15 * bit (leb data_rows i) in
      let all = sum-order apart (λ i. x i + y i + z i) 0 n (λ i l. row_apart i) in
      let three = sum-add (λ i. x i + y i) z 0 n in
      let two = sum-add x y 0 n in
      let a = sum_times 11 (λ i. bit (eqb i (byte_row p))) 0 n in
      let b = sum_times 14 (λ i. bit (eqb i (edc_row p))) 0 n in
      let c = sum_times 15 (λ i. bit (leb data_rows i)) 0 n in
      omega (arith, count_at (byte_row p) 0 n, count_at (edc_row p) 0 n, count_after data_rows d)

pub one-byte_reaches :
    {previous before : Option ℕ} (main other : List ℕ) (first info : ℕ) → Accepted previous main first info → Accepted before other first info
    → distance main other ≡ 1 → distance (block main first info) (block other first info) ≤ 265
one-byte_reaches main other first info ok also one =
    let apart = one_apart main other ((accepted_facts main first info ok).whole ∙ sym (accepted_facts other first info also).whole) one in
    subst (λ (d : ℕ). d ≤ 265) (sym (block_distance (input main) (input other) ok also))
    (rows_apart main other first info ok also apart.place apart.alike outer_size)
  where
    input : List ℕ → BlockInput
    input xs = record { main = xs; first = first; info = info }
