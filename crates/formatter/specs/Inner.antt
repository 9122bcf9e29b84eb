-- The vocabulary of an inner contract: a stream with its first block laid. Nobody needs to believe it.
-- Assumes nothing.
use Rattle.std.specs.Prelude.{None, List, ◌++◌, ℕ, take, drop}
use Rattle.layout.specs.Lengths.{sectors_stream}
use Rattle.writer.specs.Records.{start}
use Rattle.formatter.specs.Formatter.{write_block_out}

-- a stream buffer whose head is lent for the sectors of a run's first block
abbrev pub first_laid : List ℕ → ℕ → ℕ → List ℕ → List ℕ
first_laid main first info old = write_block_out start None main first info (take sectors_stream old) ++ drop sectors_stream old
