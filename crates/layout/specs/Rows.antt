-- Rows, columns and frames of a block: where they stand among its 37,856 bytes in recording order (ECMA-268, clause 19), whatever the bytes are.
--   recording_row, original_row     where a row moves, and which row moved there
--   row_of, column_of, frame_of      a row, a column and a Data Frame of a block buffer
-- Assumes nothing.
use Rattle.std.specs.Prelude.{cond, List, ℕ, ◌+◌, ◌*◌, ◌-◌, ◌/◌, ◌%◌, eqb, leb, get_or, take, drop}
use Rattle.lists.specs.Fill.{tabulate}
use Rattle.lists.specs.Test.{last_below}
use Rattle.layout.specs.Lengths.{frame_rows, row_count, column_count, row_size, sector_rows, frame_size}

-- clause 19: row i of the 208 moves to this row
unfoldable pub recording_row : ℕ → ℕ
recording_row i = cond (leb i 191) (i + i / frame_rows) (sector_rows * (i - 191) - 1)

-- the row that moves to row q
unfoldable pub original_row : ℕ → ℕ
original_row q = last_below (λ i. eqb (recording_row i) q) row_count

-- recording row q
abbrev pub row_of : List ℕ → ℕ → List ℕ
row_of xs q = take row_size (drop (q * row_size) xs)

-- column j, in the order before the rows were moved
unfoldable pub column_of : List ℕ → ℕ → List ℕ
column_of xs j = tabulate (λ i. get_or xs (recording_row i * row_size + j) 0) row_count

-- frame k, still scrambled: twelve rows of 172 bytes
unfoldable pub frame_of : List ℕ → ℕ → List ℕ
frame_of xs k = tabulate (λ q. get_or xs (recording_row (frame_rows * k + q / column_count) * row_size + q % column_count) 0) frame_size
