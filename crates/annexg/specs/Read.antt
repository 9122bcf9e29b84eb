-- Entries of annex G's tables (table_of, entry_of, word_of, next_of), and the byte that a Code Word stands for (document 01, "Reading a word"): the test of an entry
-- (both_zero, agrees, fits_of), the search (first_fit, read_given, read_word), and document 01's words (StandsFor). An unknown word is read as none.
-- A half word is 16 bits of the channel, the first bit highest: a Code Word is one half word, a SYNC Code two. Its bit 15 comes first.
-- Assumes nothing.
use Rattle.std.specs.Prelude.{◌≡◌, Bool, true, not, cond, ◌&&◌, List, [], ◌∷◌, ℕ, zero, suc, ◌+◌, ◌*◌, ◌/◌, ◌%◌, ◌<◌, ◌≤◌, T, eqb, get_or, length, Option, Some, None}
use Rattle.annexg.specs.Tables.{main_table, sub_table}

-- the States are 1 to 4
pub record State (s : ℕ) : Type 0 where
  pub low : 1 ≤ s
  pub high : s ≤ 4

-- table 0 is the main table, every other number names the substitution table
unfoldable pub table_of : ℕ → List ℕ
table_of zero = main_table
table_of (suc t) = sub_table

-- entry b · 4 + s of table t as it is laid: where s is below 4, byte b's in the column of State s + 1. A column over 3 counts on into the bytes after b,
-- and past the table's end there is 0
abbrev pub entry_of : ℕ → ℕ → ℕ → ℕ
entry_of t b s = get_or (table_of t) (b * 4 + s) 0

-- its Code Word, and the next State that the table gives with it
abbrev pub word_of : ℕ → ℕ → ℕ → ℕ
word_of t b s = entry_of t b s / 16

abbrev pub next_of : ℕ → ℕ → ℕ → ℕ
next_of t b s = entry_of t b s % 16

-- bits 15 and 3 of a half word are both ZERO
unfoldable pub both_zero : ℕ → Bool
both_zero f = eqb (f / 32768 % 2 + f / 8 % 2) 0

-- next State n agrees with following bits of which z says that bits 15 and 3 are both ZERO: 2 needs that, 3 its contrary, 1 and 4 agree with all
abbrev pub agrees : ℕ → Bool → Bool
agrees n z = cond (eqb n 2) z (cond (eqb n 3) (not z) true)

-- an entry has the word w, with a next State that agrees
unfoldable pub fits_of : ℕ → Bool → ℕ → Bool
fits_of w z e = eqb (e / 16) w && agrees (e % 16) z

-- the byte of the first entry of a list that fits, where the first of the list is entry k of its table; d where none fits
unfoldable pub first_fit : ℕ → Bool → List ℕ → ℕ → Option ℕ → Option ℕ
first_fit w z [] k d = d
first_fit w z (e ∷ es) k d = cond (fits_of w z e) (Some (k / 4)) (first_fit w z es (suc k) d)

-- the search through the columns stops at the first entry that fits: main table, then substitution table, byte by byte, State by State
unfoldable pub read_given : ℕ → Bool → Option ℕ
read_given w z = first_fit w z (table_of 0) 0 (first_fit w z (table_of 1) 0 None)

-- what the word w is read as where the half word f follows
abbrev pub read_word : ℕ → ℕ → Option ℕ
read_word w f = read_given w (both_zero f)

-- document 01: some column of either table has the word w for byte b, with a next State that agrees with bits 15 and 3 of the half word f that follows
pub record StandsFor (w f b : ℕ) : Type 0 where
  pub table_no_lem : ℕ
  pub column : ℕ
  pub table_small : table_no_lem < 2
  pub row_small : b * 4 < length (table_of table_no_lem)
  pub column_small : column < 4
  pub word_is : word_of table_no_lem b column ≡ w
  pub next_agrees : T (agrees (next_of table_no_lem b column) (both_zero f))
