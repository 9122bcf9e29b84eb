-- Vocabulary of inner contracts: where single bytes stand in a block buffer. No theorem and no contract of an entry point cites it.
-- Assumes nothing.
use Rattle.std.specs.Prelude.{ℕ, ◌+◌, ◌*◌, ◌/◌, ◌%◌}
use Rattle.layout.specs.Lengths.{column_count, row_size, sector_rows}
use Rattle.layout.specs.Rows.{recording_row}

-- byte i of recording row q
abbrev pub row_place : ℕ → ℕ → ℕ
row_place q i = q * row_size + i

-- byte i of column j, in the order before the rows were moved
abbrev pub column_place : ℕ → ℕ → ℕ
column_place j i = recording_row i * row_size + j

-- byte q of frame k
abbrev pub frame_place : ℕ → ℕ → ℕ
frame_place k q = (sector_rows * k + q / column_count) * row_size + q % column_count
