-- A made block: all its rows and columns are code words, its frames pass every check, and unscrambling gives the main data back.
-- Assumes nothing.
use mathlib.Core.Path.{◌≡◌, sym, ap, ap₂, subst, ◌∙◌}
use mathlib.Core.Bool.{true}
use mathlib.Core.List.{List}
use Prim.Native.Nat.{ℕ, ◌+◌, ◌*◌, ◌/◌, ◌%◌, ◌<◌}
use native.Mathlib.Omega.{arith}
use lib.ListN.{length, get_or, drop, length-drop}
use lib.Seq.{ext_get_or, get_or-take, get_or-drop, length-take-le}
use Rattle.std.specs.Prelude.{Option}
use Rattle.lists.specs.Fill.{tabulate}
use Rattle.lists.specs.Bytes.{Bytes}
use Rattle.lists.proofs.Test.{truth}
use Rattle.lists.proofs.Fill.{length-tabulate, get_d_tabulate, is-tabulate}
use Rattle.lists.proofs.Bytes.{bytes_of, get_or-byte, append-bytes, take-bytes, drop-bytes, tabulate-bytes}
use Rattle.layout.specs.Lengths.{head_size, frame_main_size, frame_size, sector_count, main_size, frame_rows, data_rows, row_count, column_count, row_size, outer_size, inner_size, block_size}
use Rattle.layout.specs.Rows.{recording_row, original_row, row_of, column_of, frame_of}
use Rattle.layout.proofs.Order.{recording_lt, original_recording}
use Rattle.layout.proofs.Places.{row_length, row_byte, column_byte, frame_byte_lem, column_length as column-of-length, frame_length as frame-of-length}
use Rattle.codes.specs.Word.{is_code}
use Rattle.codes.specs.Parity.{parity}
use Rattle.codes.proofs.Words.{IsCode, test_of_code}
use Rattle.codes.proofs.Division.{ten_roots, sixteen_roots, parity-bytes, parity_code}
use Rattle.codes.proofs.Product.{ProductWord, product_code}
use Rattle.field.specs.Field.{add}
use Rattle.scrambling.specs.Scrambling.{preset_of, scrambling_byte, scrambled}
use Rattle.dataframe.specs.Frame.{head_of, data_frame}
use Rattle.dataframe.specs.Checks.{info_of, number_of, main_of, frame_refusal, main_of_block}
use Rattle.dataframe.proofs.Laws as one
use Rattle.eccblock.specs.Block.{main_part, frame, data_byte, column, code_column, row, code_row, block_byte, block}
use Rattle.eccblock.specs.Encode.{Accepted}
use Rattle.eccblock.proofs.Refusals.{Facts, accepted_facts}
use Rattle.eccblock.proofs.Cells.{column_length, column_at, code_column_length, code_column_data, code_row_length, code_row_data}

-- byte r of frame k's main data
pub part_byte : (main : List ℕ) (k r : ℕ) → r < frame_main_size → get_or (main_part main k) r 0 ≡ get_or main (frame_main_size * k + r) 0
part_byte main k r h = get_or-take frame_main_size (drop (frame_main_size * k) main) r 0 h ∙ get_or-drop (frame_main_size * k) main r 0

-- a frame hangs on its own main data alone
pub frame_by_part : (main other : List ℕ) (first info k : ℕ) → main_part main k ≡ main_part other k → frame main first info k ≡ frame other first info k
unfolding frame
frame_by_part main other first info k e = ap (λ (d : List ℕ). scrambled (first + k) (data_frame d info (first + k))) e

module _ {previous : Option ℕ} (main : List ℕ) (first info : ℕ) (ok : Accepted previous main first info) where
  facts : Facts previous main first info
  facts = accepted_facts main first info ok

  abbrev made : List ℕ
  made = block main first info

  -- ---- the frames

  pub part_length : (k : ℕ) → k < sector_count → length (main_part main k) ≡ frame_main_size
  part_length k h = length-take-le frame_main_size (drop (frame_main_size * k) main) (rw length-drop (omega (arith, facts.whole)))

  part_bytes : (k : ℕ) → Bytes (main_part main k)
  part_bytes k = take-bytes frame_main_size (drop (frame_main_size * k) main) (drop-bytes (frame_main_size * k) main ok.bytes)

  number_small : (k : ℕ) → k < sector_count → first + k < 16777216
  number_small k h = omega (arith, facts.small)

  pub frame_length : (k : ℕ) → k < sector_count → length (frame main first info k) ≡ frame_size
  unfolding frame
  frame_length k h = one.frame_length (main_part main k) info (first + k) (part_length k h)

  frame_bytes_lem : (k : ℕ) → k < sector_count → Bytes (frame main first info k)
  unfolding frame
  frame_bytes_lem k h = one.frame_bytes_lem (main_part main k) info (first + k) (part_length k h) (part_bytes k) ok.byte

  -- its head, and its main data as they are scrambled
  pub frame_head : (k q : ℕ) → k < sector_count → q < head_size → get_or (frame main first info k) q 0 ≡ get_or (head_of info (first + k)) q 0
  unfolding frame
  frame_head k q h l = one.frame_head (main_part main k) info (first + k) (part_length k h) q l

  pub frame_data : (k r : ℕ) → k < sector_count → r < frame_main_size
      → get_or (frame main first info k) (head_size + r) 0 ≡ add (get_or main (frame_main_size * k + r) 0) (scrambling_byte (preset_of (first + k)) r)
  unfolding frame
  frame_data k r h l =
      one.frame_data (main_part main k) info (first + k) (part_length k h) r l
      ∙ ap (λ (x : ℕ). add x (scrambling_byte (preset_of (first + k)) r)) (part_byte main k r l)

  -- ---- the columns

  column_bytes : (j : ℕ) → Bytes (column main first info j)
  unfolding data_byte
  column_bytes j = bytes_of (column main first info j) (λ i h. each i (rw (column_length main first info j) at h))
    where
      each : (i : ℕ) → i < data_rows → get_or (column main first info j) i 0 < 256
      each i h =
          let k : ℕ = i / frame_rows in
          rw (column_at main first info j i h) (get_or-byte (frame main first info k) (column_count * (i % frame_rows) + j) (frame_bytes_lem k (omega arith)))

  pub code_column_bytes : (j : ℕ) → Bytes (code_column main first info j)
  unfolding code_column
  code_column_bytes j =
      let xs : List ℕ = column main first info j in
      append-bytes xs (parity outer_size xs) (column_bytes j) (parity-bytes outer_size sixteen_roots xs)

  pub code_column_code : (j : ℕ) → IsCode outer_size (code_column main first info j)
  unfolding code_column
  code_column_code j = parity_code outer_size sixteen_roots (column main first info j) (column_bytes j)

  -- ---- the rows

  row_bytes : (i : ℕ) → Bytes (row main first info i)
  unfolding row
  row_bytes i =
      tabulate-bytes (λ j. get_or (code_column main first info j) i 0) 0 column_count
      (λ j. get_or-byte (code_column main first info j) i (code_column_bytes j))

  pub code_row_bytes : (i : ℕ) → Bytes (code_row main first info i)
  unfolding code_row
  code_row_bytes i =
      let xs : List ℕ = row main first info i in
      append-bytes xs (parity inner_size xs) (row_bytes i) (parity-bytes inner_size ten_roots xs)

  pub code_row_code : (i : ℕ) → IsCode inner_size (code_row main first info i)
  unfolding code_row
  code_row_code i = parity_code inner_size ten_roots (row main first info i) (row_bytes i)

  -- ---- the block

  pub block_length : length made ≡ block_size
  unfolding block
  block_length = length-tabulate (block_byte main first info) block_size

  pub block_bytes_lem : Bytes made
  unfolding block block_byte
  block_bytes_lem =
      tabulate-bytes (block_byte main first info) 0 block_size
      (λ p. get_or-byte (code_row main first info (original_row (p / row_size))) (p % row_size) (code_row_bytes (original_row (p / row_size))))

  -- byte j of recording row q
  block_at : (q j : ℕ) → q < row_count → j < row_size → get_or made (q * row_size + j) 0 ≡ get_or (code_row main first info (original_row q)) j 0
  unfolding block block_byte
  block_at q j h l =
      get_d_tabulate (block_byte main first info) block_size (q * row_size + j) (omega arith)
      ∙ ap₂ (λ (x y : ℕ). get_or (code_row main first info (original_row x)) y 0) (omega arith) (omega arith)

  -- its rows
  pub block_row : (q : ℕ) → q < row_count → row_of made q ≡ code_row main first info (original_row q)
  block_row q h =
      let size = row_length made q block_length h in
      ext_get_or 0 (row_of made q) (code_row main first info (original_row q)) (size ∙ sym (code_row_length main first info (original_row q)))
      (λ j l. row_byte made q j (omega (arith, size)) ∙ block_at q j h (omega (arith, size)))

  -- its columns, and columns 0 to 171
  block_any_column : (j : ℕ) → j < row_size → column_of made j ≡ tabulate (λ i. get_or (code_row main first info i) j 0) row_count
  block_any_column j h =
      is-tabulate (λ i. get_or (code_row main first info i) j 0) (column_of made j) row_count (column-of-length made j)
      (λ i l. column_byte made j i l ∙ block_at (recording_row i) j (recording_lt i l) h
      ∙ ap (λ (x : ℕ). get_or (code_row main first info x) j 0) (original_recording i l))

  array_column : (j : ℕ) → j < column_count → code_column main first info j ≡ tabulate (λ i. get_or (code_row main first info i) j 0) row_count
  array_column j h =
      is-tabulate (λ i. get_or (code_row main first info i) j 0) (code_column main first info j) row_count (code_column_length main first info j)
      (λ i l. sym (code_row_data main first info i j h))

  pub block_column : (j : ℕ) → j < column_count → column_of made j ≡ code_column main first info j
  block_column j h = block_any_column j (omega arith) ∙ sym (array_column j h)

  -- its frames
  pub block_frame : (k : ℕ) → k < sector_count → frame_of made k ≡ frame main first info k
  unfolding data_byte
  block_frame k h =
      ext_get_or 0 (frame_of made k) (frame main first info k) (frame-of-length made k ∙ sym (frame_length k h))
      (λ q l. each q (rw (frame-of-length made k) at l))
    where
      each : (q : ℕ) → q < frame_size → get_or (frame_of made k) q 0 ≡ get_or (frame main first info k) q 0
      each q l =
          let i = frame_rows * k + q / column_count in
          let hi : i < data_rows = omega arith in
          let hj : q % column_count < column_count = omega arith in
          frame_byte_lem made k q l ∙ block_at (recording_row i) (q % column_count) (recording_lt i (omega arith)) (omega arith)
          ∙ ap (λ (x : ℕ). get_or (code_row main first info x) (q % column_count) 0) (original_recording i (omega arith))
          ∙ code_row_data main first info i (q % column_count) hj ∙ code_column_data main first info (q % column_count) i hi
          ∙ ap₂ (λ (x y : ℕ). get_or (frame main first info x) y 0) (omega arith) (omega arith)

  -- ---- the laws

  -- every row of a made block, the rows of outer parity too, is a code word of the inner code
  pub block_row_code : (q : ℕ) → q < row_count → is_code inner_size (row_of made q) ≡ true
  block_row_code q h =
      truth (is_code inner_size (row_of made q))
      (test_of_code inner_size (row_of made q) (subst (IsCode inner_size) (sym (block_row q h)) (code_row_code (original_row q))))

  -- its rows and columns are an array of the product code
  pub block_product : ProductWord inner_size outer_size row_count row_size (code_row main first info)
  block_product = record {
    size = code_row_length main first info;
    bytes = code_row_bytes;
    row_code = code_row_code;
    column_code = λ j l. subst (IsCode outer_size) (array_column j (omega arith)) (code_column_code j);
  }

  -- every column of a made block, the columns of inner parity too, is a code word of the outer code
  pub block_column_code : (j : ℕ) → j < row_size → is_code outer_size (column_of made j) ≡ true
  block_column_code j h =
      truth (is_code outer_size (column_of made j))
      (test_of_code outer_size (column_of made j) (subst (IsCode outer_size) (sym (block_any_column j h)) code))
    where
      code : IsCode outer_size (tabulate (λ i. get_or (code_row main first info i) j 0) row_count)
      code = product_code inner_size outer_size row_count row_size (code_row main first info) (omega arith) block_product j h

  -- frame k of a made block has its number and the Sector Information, and passes every check
  pub frame_number : (k : ℕ) → k < sector_count → number_of (frame main first info k) ≡ first + k
  unfolding frame
  frame_number k h = one.frame_number (main_part main k) info (first + k) (part_length k h) (number_small k h)

  pub frame_info : (k : ℕ) → k < sector_count → info_of (frame main first info k) ≡ info
  unfolding frame
  frame_info k h = one.frame_info (main_part main k) info (first + k) (part_length k h)

  pub frame_passes : (k : ℕ) → k < sector_count → frame_refusal first info k (frame main first info k) ≡ 0
  unfolding frame
  frame_passes k h = one.frame_passes (main_part main k) first info k (part_length k h) facts.sixteen (number_small k h) facts.permitted

  pub frame_main : (k : ℕ) → k < sector_count → main_of (frame main first info k) ≡ main_part main k
  unfolding frame
  frame_main k h = one.frame_main (main_part main k) info (first + k) (part_length k h) (number_small k h)

  pub block_passes : (k : ℕ) → k < sector_count → frame_refusal first info k (frame_of made k) ≡ 0
  block_passes k h = ap (frame_refusal first info k) (block_frame k h) ∙ frame_passes k h

  -- any buffer with the frames of the block has its main data
  pub frames_main : (ys : List ℕ) → ((k : ℕ) → k < sector_count → frame_of ys k ≡ frame main first info k) → main_of_block ys ≡ main
  unfolding main_of_block
  frames_main ys same =
      sym (is-tabulate (λ p. get_or (main_of (frame_of ys (p / frame_main_size))) (p % frame_main_size) 0) main main_size facts.whole each)
    where
      each : (p : ℕ) → p < main_size → get_or main p 0 ≡ get_or (main_of (frame_of ys (p / frame_main_size))) (p % frame_main_size) 0
      each p l =
          let k : ℕ = p / frame_main_size in
          let r : ℕ = p % frame_main_size in
          let hk : k < sector_count = omega arith in
          let hr : r < frame_main_size = omega arith in
          let e : p ≡ frame_main_size * k + r = omega arith in
          ap (λ (x : ℕ). get_or main x 0) e ∙ sym (part_byte main k r hr) ∙ ap (λ (x : List ℕ). get_or x r 0) (sym (ap main_of (same k hk) ∙ frame_main k hk))

  -- unscrambling a made block gives the main data back
  pub block_main : main_of_block made ≡ main
  block_main = frames_main made block_frame
