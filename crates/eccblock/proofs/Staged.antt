-- The stages of the block maker, one turn of each loop at a time: frames in their rows (frame_more, frames-none,
-- frames_more), outer parity (outer_bytes, columns_none, columns_more), inner parity (rows_none, rows_more), and that all
-- of it is the block (rows_all).
-- Assumes nothing.
use mathlib.Core.Path.{◌≡◌, refl, sym, ap, ap₂, ◌∙◌}
use mathlib.Core.Bool.{Bool, true, false}
use mathlib.Core.List.{List}
use mathlib.Core.Logic.{◌≢◌, dite}
use Prim.Native.Nat.{ℕ, ◌+◌, ◌*◌, ◌-◌, ◌/◌, ◌%◌, ◌<◌, ◌≤◌}
use native.Mathlib.Decide.{ℕ_discrete}
use native.Mathlib.Omega.{arith}
use borrow.Author.Tests.{ltb-true, ltb-false}
use lib.Dec.{ltb}
use lib.ListN.{length, get_or, take, drop, length-drop}
use lib.Seq.{sets, get_or-take, get_or-drop, length-take-le}
use Rattle.lists.proofs.Fill.{is-tabulate}
use Rattle.octets.specs.Inner.{Stored, following}
use Rattle.octets.proofs.Copies.{stored_row, put_stored}
use Rattle.layout.specs.Lengths.{frame_size, sector_count, frame_rows, data_rows, row_count, column_count, row_size, outer_size, inner_size, sector_rows, block_size}
use Rattle.layout.specs.Rows.{recording_row, original_row, column_of}
use Rattle.layout.specs.Inner.{row_place, column_place, frame_place}
use Rattle.layout.proofs.Order.{recording_low, recording_high, original_low, original_high}
use Rattle.layout.proofs.Places.{column_byte, frame_row, frame_apart, frame_place_lem, column_length as column-of-length}
use Rattle.codes.specs.Parity.{parity}
use Rattle.division.specs.Inner.{beside, unpacked}
use Rattle.division.specs.declared.register.Remainder.{Remainder}
use Rattle.division.proofs.Division.{parity-size, parity_small}
use Rattle.division.proofs.Unpacked.{unpacked-register}
use Rattle.parity.proofs.Registers.{column_register}
use Rattle.eccblock.specs.Block.{frame, data_byte, column, code_column, row, code_row, block_byte, block}
use Rattle.eccblock.specs.Inner.{Frames, Columns, Rows}
use Rattle.eccblock.proofs.Cells.{code_column_data, code_column_parity, code_row_data, code_row_parity}

-- ---- frames

-- one row more of a frame that is stored
pub frame_more :
    (k r : ℕ) (f row old mid new : List ℕ) → length f ≡ frame_size → length old ≡ block_size → k < sector_count → r < frame_rows
    → row ≡ take column_count (drop (r * column_count) f) → new ≡ sets mid ((sector_rows * k + r) * row_size) row
    → Stored (frame_place k) f old mid (column_count * r) → Stored (frame_place k) f old new (column_count * (r + 1))
frame_more k r f row old mid new len size hk hr part put w =
    let at : ℕ = (sector_rows * k + r) * row_size in
    let e : r * column_count ≡ column_count * r = omega arith in
    let is : row ≡ take column_count (drop (column_count * r) f) = part ∙ ap (λ (m : ℕ). take column_count (drop m f)) e in
    let l : length row ≡ column_count = ap length is ∙ length-take-le column_count (drop (column_count * r) f) (rw length-drop (omega arith)) in
    let p : at ≡ frame_place k (column_count * r) = omega arith in
    let n : column_count * (r + 1) ≡ column_count * r + column_count = omega arith in
    let stored : Stored (following at) row mid new column_count = put_stored row mid new at column_count l (omega (arith, w.size)) put in
    rw n
    (stored_row (frame_place k) f old mid new (column_count * r) column_count (λ j m. frame_row k r j m)
    (λ i j m t q. frame_apart k i (column_count * r + j) (omega arith) (q ∙ sym (frame_row k r j t))) w (rw p at (rw is at stored)))

frame_other : (i k p q : ℕ) → i ≢ k → p < frame_size → q < frame_size → frame_place i p ≢ frame_place k q
frame_other i k p q n h l e = n (omega arith)

module _ (main : List ℕ) (first info : ℕ) where
  pub frames-none : (new : List ℕ) → length new ≡ block_size → Frames main first info 0 new
  frames-none new e = record { size = e; done = λ k q l h. absurd (omega arith) }

  pub frames_more :
      (k : ℕ) (f old new : List ℕ) → f ≡ frame main first info k → Stored (frame_place k) f old new frame_size
      → Frames main first info k old → Frames main first info (k + 1) new
  frames_more k f old new e w v = record {
    size = w.size ∙ v.size;
    done = λ i p l h. dite (ℕ_discrete i k)
        (λ t. ap (λ (x : ℕ). get_or new (frame_place x p) 0) t ∙ w.done p h ∙ ap (λ (g : List ℕ). get_or g p 0) e
        ∙ ap (λ (x : ℕ). get_or (frame main first info x) p 0) (sym t))
        (λ n. w.left (frame_place i p) (λ q m. frame_other i k p q n h m) ∙ v.done i p (omega (arith, n)) h);
  }

-- ---- outer parity

-- byte i of the outer parity of a column stands in the last row of Recording Frame i
outer_row : (i : ℕ) → recording_row (data_rows + i) ≡ sector_rows * i + frame_rows
outer_row i = recording_high (data_rows + i) (omega arith) ∙ omega arith

column_other : (h j i k : ℕ) → h < column_count → j < column_count → h ≢ j → column_place h i ≢ column_place j k
column_other h j i k l m n e = n (omega (arith, e))

-- a row of a frame is no row of outer parity
rows_apart : (k i r : ℕ) → r < frame_rows → sector_rows * k + r ≢ sector_rows * i + frame_rows
rows_apart k i r h e = omega arith

frame_outer : (k q j i : ℕ) → q < frame_size → j < column_count → frame_place k q ≢ column_place j (data_rows + i)
frame_outer k q j i h l e =
    let a : sector_rows * k + q / column_count ≡ sector_rows * i + frame_rows = omega (arith, e, outer_row i) in
    rows_apart k i (q / column_count) (omega arith) a

-- what the register of a column unpacks to
pub outer_bytes :
    (xs p : List ℕ) (regs : List Remainder) (j : ℕ) (r : Remainder) → j < column_count
    → regs ≡ beside (λ i. parity outer_size (take data_rows (column_of xs i))) column_count
    → p ≡ take outer_size (unpacked (get_or regs j r)) → p ≡ parity outer_size (take data_rows (column_of xs j))
outer_bytes xs p regs j r h b e =
    let first : List ℕ = take data_rows (column_of xs j) in
    e ∙ ap (λ (x : Remainder). take outer_size (unpacked x)) (column_register xs regs j r h b)
    ∙ unpacked-register outer_size (parity outer_size first) (parity_small outer_size first) (parity-size outer_size first) (omega arith)

module _ (main : List ℕ) (first info : ℕ) where
  -- the data of a column stand in its first 192 rows
  column_is : (j : ℕ) (xs : List ℕ) → j < column_count → Frames main first info sector_count xs → take data_rows (column_of xs j) ≡ column main first info j
  unfolding column data_byte
  column_is j xs h v =
      is-tabulate (data_byte main first info j) (take data_rows (column_of xs j)) data_rows
      (length-take-le data_rows (column_of xs j) (omega (arith, column-of-length xs j))) each
    where
      each : (i : ℕ) → i < data_rows → get_or (take data_rows (column_of xs j)) i 0 ≡ data_byte main first info j i
      each i l =
          let e : (i + i / frame_rows) * row_size + j ≡ frame_place (i / frame_rows) (column_count * (i % frame_rows) + j) = omega arith in
          get_or-take data_rows (column_of xs j) i 0 l ∙ column_byte xs j i (omega arith)
          ∙ ap (λ (x : ℕ). get_or xs (x * row_size + j) 0) (recording_low i l) ∙ ap (λ (x : ℕ). get_or xs x 0) e
          ∙ v.done (i / frame_rows) (column_count * (i % frame_rows) + j) (omega arith) (omega arith)

  pub columns_none : (xs : List ℕ) → Frames main first info sector_count xs → Columns main first info 0 xs
  columns_none xs v = record { frames = v; done = λ j i l h. absurd (omega arith) }

  pub columns_more :
      (j : ℕ) (start p old new : List ℕ) → j < column_count → Frames main first info sector_count start
      → p ≡ parity outer_size (take data_rows (column_of start j)) → Stored (λ i. column_place j (data_rows + i)) p old new (length p)
      → Columns main first info j old → Columns main first info (j + 1) new
  columns_more j start p old new hj u e w v =
      let size : length p ≡ outer_size = ap length e ∙ parity-size outer_size (take data_rows (column_of start j)) in
      let f : p ≡ parity outer_size (column main first info j) = e ∙ ap (parity outer_size) (column_is j start hj u) in
      record {
        frames = record {
          size = w.size ∙ v.frames.size;
          done = λ k q l h. w.left (frame_place k q) (λ i m. frame_outer k q j i h hj) ∙ v.frames.done k q l h;
        };
        done = λ h i l m. dite (ℕ_discrete h j)
            (λ t. ap (λ (x : ℕ). get_or new (column_place x (data_rows + i)) 0) t ∙ w.done i (omega arith) ∙ ap (λ (g : List ℕ). get_or g i 0) f
            ∙ ap (λ (x : ℕ). get_or (parity outer_size (column main first info x)) i 0) (sym t))
            (λ n. w.left (column_place h (data_rows + i)) (λ k t. column_other h j (data_rows + i) (data_rows + k) (omega arith) hj n)
            ∙ v.done h i (omega (arith, n)) m);
      }

-- ---- inner parity

inner_other : (r q i k : ℕ) → i < inner_size → k < inner_size → r ≢ q → row_place r (column_count + i) ≢ q * row_size + column_count + k
inner_other r q i k h l n e = n (omega arith)

inner_cell : (r j q i : ℕ) → j < column_count → i < inner_size → row_place r j ≢ q * row_size + column_count + i
inner_cell r j q i h l e = omega arith

module _ (main : List ℕ) (first info : ℕ) where
  -- a buffer with its outer parity holds the 208 rows
  pub rows_none : (xs : List ℕ) → Columns main first info column_count xs → Rows main first info 0 xs
  unfolding data_byte
  rows_none xs v = record {
    size = v.frames.size;
    cells = λ q j h l. cell q j h l (ltb (q % sector_rows) frame_rows) refl;
    done = λ q i l h. absurd (omega arith);
  }
    where
      cell : (q j : ℕ) → q < row_count → j < column_count → (b : Bool) → ltb (q % sector_rows) frame_rows ≡ b
          → get_or xs (row_place q j) 0 ≡ get_or (code_column main first info j) (original_row q) 0
      cell q j h l true t =
          let k : ℕ = q / sector_rows in
          let r : ℕ = q % sector_rows in
          let m : r < frame_rows = ltb-true r frame_rows t in
          let i : ℕ = k * frame_rows + r in
          let e : q ≡ sector_rows * k + r = omega arith in
          let a : k ≡ i / frame_rows = omega arith in
          let b : r ≡ i % frame_rows = omega arith in
          ap (λ (x : ℕ). get_or xs (x * row_size + j) 0) e ∙ ap (λ (x : ℕ). get_or xs x 0) (frame_place_lem k r j l)
          ∙ v.frames.done k (column_count * r + j) (omega arith) (omega arith)
          ∙ ap₂ (λ (x y : ℕ). get_or (frame main first info x) (column_count * y + j) 0) a b
          ∙ sym (code_column_data main first info j i (omega arith))
          ∙ ap (λ (x : ℕ). get_or (code_column main first info j) x 0) (sym (original_low q h m))
      cell q j h l false t =
          let k : ℕ = q / sector_rows in
          let m : frame_rows ≤ q % sector_rows = ltb-false (q % sector_rows) frame_rows t in
          let e : q ≡ recording_row (data_rows + k) = omega (arith, outer_row k) in
          ap (λ (x : ℕ). get_or xs (x * row_size + j) 0) e ∙ v.done j k l (omega arith)
          ∙ sym (code_column_parity main first info j k)
          ∙ ap (λ (x : ℕ). get_or (code_column main first info j) x 0) (sym (original_high q h m))

  -- the first 172 bytes of a recording row are the row that moved there
  row_is :
      (n q : ℕ) (xs : List ℕ) → q < row_count → Rows main first info n xs
      → take column_count (drop (q * row_size) xs) ≡ row main first info (original_row q)
  unfolding row
  row_is n q xs h v =
      is-tabulate (λ j. get_or (code_column main first info j) (original_row q) 0) (take column_count (drop (q * row_size) xs)) column_count
      (length-take-le column_count (drop (q * row_size) xs) (rw length-drop (omega (arith, v.size))))
      (λ j l. get_or-take column_count (drop (q * row_size) xs) j 0 l ∙ get_or-drop (q * row_size) xs j 0 ∙ v.cells q j h l)

  pub rows_more :
      (q : ℕ) (p old new : List ℕ) → q < row_count → p ≡ parity inner_size (take column_count (drop (q * row_size) old))
      → length p ≡ inner_size → new ≡ sets old (q * row_size + column_count) p → Rows main first info q old → Rows main first info (q + 1) new
  rows_more q p old new hq e size z v =
      let at : ℕ = q * row_size + column_count in
      let w : Stored (following at) p old new inner_size = put_stored p old new at inner_size size (omega (arith, v.size)) z in
      let f : p ≡ parity inner_size (row main first info (original_row q)) = e ∙ ap (parity inner_size) (row_is q q old hq v) in
      record {
        size = w.size ∙ v.size;
        cells = λ r j l m. w.left (row_place r j) (λ i t. inner_cell r j q i m t) ∙ v.cells r j l m;
        done = λ r i l m. dite (ℕ_discrete r q)
            (λ t. let place : row_place r (column_count + i) ≡ at + i = omega (arith, t) in
            ap (λ (x : ℕ). get_or new x 0) place ∙ w.done i m ∙ ap (λ (g : List ℕ). get_or g i 0) f
            ∙ ap (λ (x : ℕ). get_or (parity inner_size (row main first info (original_row x))) i 0) (sym t))
            (λ n. w.left (row_place r (column_count + i)) (λ k t. inner_other r q i k m t n) ∙ v.done r i (omega (arith, n)) m);
      }

  -- a buffer with all its inner parity is the block
  pub rows_all : (xs : List ℕ) → Rows main first info row_count xs → xs ≡ block main first info
  unfolding block block_byte
  rows_all xs v = is-tabulate (block_byte main first info) xs block_size v.size (λ p l. each p l (ltb (p % row_size) column_count) refl)
    where
      each : (p : ℕ) → p < block_size → (b : Bool) → ltb (p % row_size) column_count ≡ b → get_or xs p 0 ≡ block_byte main first info p
      each p l true t =
          let q : ℕ = p / row_size in
          let j : ℕ = p % row_size in
          let hj : j < column_count = ltb-true j column_count t in
          let e : p ≡ row_place q j = omega arith in
          ap (λ (x : ℕ). get_or xs x 0) e ∙ v.cells q j (omega arith) hj ∙ sym (code_row_data main first info (original_row q) j hj)
      each p l false t =
          let q : ℕ = p / row_size in
          let hj : column_count ≤ p % row_size = ltb-false (p % row_size) column_count t in
          let i : ℕ = p % row_size - column_count in
          let e : p ≡ row_place q (column_count + i) = omega arith in
          let k : column_count + i ≡ p % row_size = omega arith in
          ap (λ (x : ℕ). get_or xs x 0) e ∙ v.done q i (omega arith) (omega arith)
          ∙ sym (code_row_parity main first info (original_row q) i)
          ∙ ap (λ (x : ℕ). get_or (code_row main first info (original_row q)) x 0) k
