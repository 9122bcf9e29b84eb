-- The block after both repairs, and the tallies (document 01, 'Reading a word, and the repair'; document 02, request 2). A block buffer holds 208 rows in
-- recording order; its columns are those before the rows were moved. There is a mark for each byte: 1 where it is marked, 0 where it is not.
-- Assumes nothing.
use Rattle.std.specs.Prelude.{Bool, true, false, cond, List, ℕ, ◌/◌, ◌%◌, ltb, get_or}
use Rattle.lists.specs.Fill.{tabulate}
use Rattle.lists.specs.Count.{count_from}
use Rattle.codes.specs.Nearest.{nearest, outcome_of}
use Rattle.codes.specs.Erasures.{nearest_erased, outcome_erased}
use Rattle.codes.specs.declared.Outcome.{Outcome}
use Rattle.codes.specs.declared.Outcome.TheVariants.{Clean, Corrected, Uncorrectable}
use Rattle.layout.specs.Rows.{original_row, row_of, column_of}
use Rattle.layout.specs.Lengths.{block_size, row_count, row_size, column_count}
use Rattle.repairer.specs.declared.Tally.{Tally}
use Rattle.repairer.specs.declared.Tallies.{Tallies}

-- a block buffer holds xs, and ms are the marks of its bytes: each of the 208 rows becomes the one code row that differs from it in e unmarked bytes, where 2e and
-- its marks are at most ten, or stays (document 02, request 2)
unfoldable pub rows_repaired : List ℕ → List ℕ → List ℕ
rows_repaired xs ms = tabulate (λ p. get_or (nearest_erased 10 (row_of ms (p / row_size)) (row_of xs (p / row_size))) (p % row_size) 0) block_size

-- each of columns 0 to 171 becomes the one code column within eight bytes, or stays
unfoldable pub columns_repaired : List ℕ → List ℕ
columns_repaired xs = tabulate (λ p. cond (ltb (p % row_size) column_count) (get_or (nearest 16 8 (column_of xs (p % row_size))) (original_row (p / row_size)) 0) (get_or xs p 0)) block_size

-- rows first, then columns
unfoldable pub repaired : List ℕ → List ℕ → List ℕ
repaired xs ms = columns_repaired (rows_repaired xs ms)

-- what counts as changed, and as past help
abbrev pub is_corrected : Outcome → Bool
is_corrected Clean = false
is_corrected Corrected = true
is_corrected Uncorrectable = false

abbrev pub is_uncorrectable : Outcome → Bool
is_uncorrectable Clean = false
is_uncorrectable Corrected = false
is_uncorrectable Uncorrectable = true

-- how many of n words are corrected, and how many are uncorrectable, where o i is what becomes of word i
unfoldable pub tally_of : (ℕ → Outcome) → ℕ → Tally
tally_of o n = record { corrected = count_from (λ i. is_corrected (o i)) 0 n; uncorrectable = count_from (λ i. is_uncorrectable (o i)) 0 n }

-- the rows as they came in, and the columns as the repaired rows leave them
unfoldable pub tallies_of : List ℕ → List ℕ → Tallies
tallies_of xs ms = record {
  rows = tally_of (λ q. outcome_erased 10 (row_of ms q) (row_of xs q)) row_count;
  columns = tally_of (λ j. outcome_of 16 8 (column_of (rows_repaired xs ms) j)) column_count;
}
