-- Vocabulary of inner contracts: the search through the columns from an entry on, which the index of Code Words begins. No theorem and no contract of an entry
-- point cites it.
-- Assumes nothing.
use Rattle.std.specs.Prelude.{Bool, ℕ, zero, suc, drop, Option, None}
use Rattle.annexg.specs.Read.{table_of, first_fit}

-- the search from entry k of table t on: what is left of that table, then the table after it; after the second there is none
unfoldable pub read_from : ℕ → Bool → ℕ → ℕ → Option ℕ
read_from w z zero k = first_fit w z (drop k (table_of 0)) k (first_fit w z (table_of 1) 0 None)
read_from w z (suc zero) k = first_fit w z (drop k (table_of 1)) k None
read_from w z (suc (suc t)) k = None
