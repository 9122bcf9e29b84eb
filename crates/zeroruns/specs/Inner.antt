-- Vocabulary of an inner contract: After, the bit behind which the zero runs of a stream are judged. No theorem and no contract of an entry point cites it.
-- Assumes nothing.
use Rattle.std.specs.Prelude.{◌≡◌, List, ℕ, ◌+◌, ◌*◌, ◌<◌, Some, length, drop}
use Rattle.channel.specs.Bits.{bits_bytes, zero_runs_from, zero_runs_hold}

-- the zero runs of a stream hold just where those of the bits after bit j do, with a ONE at bit j before them
pub record After (xs : List ℕ) (j : ℕ) : Type 0 where
  pub inside : j < 8 * length xs
  pub rest : zero_runs_hold xs ≡ zero_runs_from (Some j) (j + 1) (drop (j + 1) (bits_bytes xs))
