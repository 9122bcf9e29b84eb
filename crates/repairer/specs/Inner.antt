-- The vocabulary of the inner contracts: the words of a block along an axis, and one word more of a tally. The repairer's own contract cites none of it,
-- and nobody needs to believe it.
-- Assumes nothing.
use Rattle.std.specs.Prelude.{◌≡◌, List, ℕ, ◌+◌, get_or, take}
use Prim.{Unit}
use Rattle.lists.specs.Count.{bit}
use Rattle.codes.specs.Parity.{parity}
use Rattle.codes.specs.Nearest.{nearest, outcome_of}
use Rattle.codes.specs.Erasures.{nearest_erased, outcome_erased}
use Rattle.codes.specs.declared.Outcome.{Outcome}
use Rattle.division.specs.Inner.{packed}
use Rattle.division.specs.declared.register.Remainder.{Remainder}
use Rattle.layout.specs.Lengths.{data_rows, row_count, row_size, column_count, inner_size, outer_size}
use Rattle.layout.specs.Rows.{row_of, column_of}
use Rattle.layout.specs.Inner.{row_place, column_place}
use Rattle.repairer.specs.Repair.{rows_repaired, columns_repaired, is_corrected, is_uncorrectable}
use Rattle.repairer.specs.declared.Tally.{Tally}

-- the 208 rows in recording order, or columns 0 to 171 in the order before the rows were moved
pub data Axis : Type 0 where
  Rows : Axis
  Columns : Axis

-- the roots of a word along an axis
abbrev pub roots_of : Axis → ℕ
roots_of Rows = inner_size
roots_of Columns = outer_size

-- how many words there are, and how many bytes each has
abbrev pub count_of : Axis → ℕ
count_of Rows = row_count
count_of Columns = column_count

abbrev pub size_of : Axis → ℕ
size_of Rows = row_size
size_of Columns = row_count

-- word k of a block, and where its byte i stands
abbrev pub word_of : Axis → List ℕ → ℕ → List ℕ
word_of Rows = row_of
word_of Columns = column_of

abbrev pub place_of : Axis → ℕ → ℕ → ℕ
place_of Rows = row_place
place_of Columns = column_place

-- what word k of the block xs becomes, where ms are the marks of its bytes, which only the rows go by; and what the repair says of it
abbrev pub repaired_word : Axis → List ℕ → List ℕ → ℕ → List ℕ
repaired_word Rows ms xs k = nearest_erased inner_size (row_of ms k) (row_of xs k)
repaired_word Columns ms xs k = nearest outer_size 8 (column_of xs k)

abbrev pub outcome_of_word : Axis → List ℕ → List ℕ → ℕ → Outcome
outcome_of_word Rows ms xs k = outcome_erased inner_size (row_of ms k) (row_of xs k)
outcome_of_word Columns ms xs k = outcome_of outer_size 8 (column_of xs k)

-- the block after the repair of its words
abbrev pub repaired_along : Axis → List ℕ → List ℕ → List ℕ
repaired_along Rows ms xs = rows_repaired xs ms
repaired_along Columns ms xs = columns_repaired xs

-- register j holds what the first 192 bytes of column j leave
pub record ColumnDivided (xs : List ℕ) (regs : List Remainder) (j : ℕ) : Type 0 where
  pub register : (r : Remainder) → get_or regs j r ≡ packed (parity outer_size (take data_rows (column_of xs j)))

-- what is known of word k before its turn: nothing of a row, and of a column its register
abbrev pub Divided : Axis → List ℕ → List Remainder → ℕ → Type 0
Divided Rows xs regs k = Unit {0}
Divided Columns xs regs k = ColumnDivided xs regs k

-- a tally with one word more, of which this became
abbrev pub counted : Tally → Outcome → Tally
counted n o = record { corrected = n.corrected + bit (is_corrected o); uncorrectable = n.uncorrectable + bit (is_uncorrectable o) }
