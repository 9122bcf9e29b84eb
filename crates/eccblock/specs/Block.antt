-- An ECC Block (ECMA-268, clause 18) and its Recording Frames (clause 19); document 01, 'The block'. Everything is a function of the 32,768 main data bytes,
-- the number of the first sector and the Sector Information byte.
-- Assumes nothing.
use Rattle.std.specs.Prelude.{List, ◌++◌, ℕ, ◌+◌, ◌*◌, ◌/◌, ◌%◌, get_or, take, drop}
use Rattle.lists.specs.Fill.{tabulate}
use Rattle.codes.specs.Parity.{parity}
use Rattle.scrambling.specs.Scrambling.{scrambled}
use Rattle.dataframe.specs.Frame.{data_frame}
use Rattle.layout.specs.Lengths.{frame_main_size, frame_rows, data_rows, column_count, row_size, outer_size, inner_size, block_size}
use Rattle.layout.specs.Rows.{original_row}

-- the main data of frame k
abbrev pub main_part : List ℕ → ℕ → List ℕ
main_part main k = take frame_main_size (drop (frame_main_size * k) main)

-- Scrambled Frame k, 0 to 15: its sector has the number first + k
unfoldable pub frame : List ℕ → ℕ → ℕ → ℕ → List ℕ
frame main first info k = scrambled (first + k) (data_frame (main_part main k) info (first + k))

-- byte j of row i, for the 192 rows of 172 bytes: twelve rows a frame
unfoldable pub data_byte : List ℕ → ℕ → ℕ → ℕ → ℕ → ℕ
data_byte main first info j i = get_or (frame main first info (i / frame_rows)) (column_count * (i % frame_rows) + j) 0

-- column j of the 192 rows; and with its 16 bytes of outer parity (PO)
unfoldable pub column : List ℕ → ℕ → ℕ → ℕ → List ℕ
column main first info j = tabulate (data_byte main first info j) data_rows

unfoldable pub code_column : List ℕ → ℕ → ℕ → ℕ → List ℕ
code_column main first info j = column main first info j ++ parity outer_size (column main first info j)

-- row i of the resulting 208; and with its 10 bytes of inner parity (PI)
unfoldable pub row : List ℕ → ℕ → ℕ → ℕ → List ℕ
row main first info i = tabulate (λ j. get_or (code_column main first info j) i 0) column_count

unfoldable pub code_row : List ℕ → ℕ → ℕ → ℕ → List ℕ
code_row main first info i = row main first info i ++ parity inner_size (row main first info i)

-- the block in recording order, 208 rows of 182 bytes: 37,856 bytes, 2,366 a sector
unfoldable pub block_byte : List ℕ → ℕ → ℕ → ℕ → ℕ
block_byte main first info p = get_or (code_row main first info (original_row (p / row_size))) (p % row_size) 0

unfoldable pub block : List ℕ → ℕ → ℕ → List ℕ
block main first info = tabulate (block_byte main first info) block_size
