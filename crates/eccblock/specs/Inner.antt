-- The vocabulary of the inner contracts: what the block buffer holds after each stage of the block maker. The maker's own contract cites none of it, and nobody
-- needs to believe it.
-- Assumes nothing.
use Rattle.std.specs.Prelude.{List, ◌≡◌, ℕ, ◌+◌, ◌<◌, length, get_or}
use Rattle.codes.specs.Parity.{parity}
use Rattle.layout.specs.Lengths.{frame_size, sector_count, data_rows, row_count, column_count, outer_size, inner_size, block_size}
use Rattle.layout.specs.Rows.{original_row}
use Rattle.layout.specs.Inner.{row_place, column_place, frame_place}
use Rattle.eccblock.specs.Block.{frame, column, code_column, row}

-- the first n frames stand in their rows
pub record Frames (main : List ℕ) (first info n : ℕ) (new : List ℕ) : Type 0 where
  pub size : length new ≡ block_size
  pub done : (k q : ℕ) → k < n → q < frame_size → get_or new (frame_place k q) 0 ≡ get_or (frame main first info k) q 0

-- all frames, and the outer parity of the first n columns
pub record Columns (main : List ℕ) (first info n : ℕ) (new : List ℕ) : Type 0 where
  pub frames : Frames main first info sector_count new
  pub done : (j i : ℕ) → j < n → i < outer_size → get_or new (column_place j (data_rows + i)) 0 ≡ get_or (parity outer_size (column main first info j)) i 0

-- all columns, and the inner parity of the first n recording rows
pub record Rows (main : List ℕ) (first info n : ℕ) (new : List ℕ) : Type 0 where
  pub size : length new ≡ block_size
  pub cells : (q j : ℕ) → q < row_count → j < column_count → get_or new (row_place q j) 0 ≡ get_or (code_column main first info j) (original_row q) 0
  pub done : (q i : ℕ) → q < n → i < inner_size
      → get_or new (row_place q (column_count + i)) 0 ≡ get_or (parity inner_size (row main first info (original_row q))) i 0
