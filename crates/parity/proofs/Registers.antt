-- The columns of a block divided by the generator side by side, row after row in the order before the rows were moved: Divided (the first i bytes of each column
-- have passed), its steps (divided_none, divided_more), and the register of one column (column_register).
-- Assumes nothing.
use mathlib.Core.Path.{◌≡◌, sym, ap, ◌∙◌}
use mathlib.Core.List.{List}
use Prim.Native.Nat.{ℕ, ◌+◌, ◌-◌, ◌*◌, ◌<◌}
use native.Mathlib.Omega.{arith}
use lib.ListN.{length, get_or, take, drop, replicate, length-drop}
use lib.Seq.{get_or-take, get_or-drop, length-take-le}
use Rattle.codes.specs.Parity.{parity}
use Rattle.division.specs.Inner.{packed, empty, beside}
use Rattle.division.specs.declared.register.Remainder.{Remainder}
use Rattle.division.proofs.Division.{shifted, beside_at, beside-length, beside_none, beside_more}
use Rattle.layout.specs.Rows.{recording_row, column_of}
use Rattle.layout.proofs.Places.{column_length, column_byte}
use Rattle.layout.specs.Lengths.{block_size, row_count, row_size, column_count, data_rows}

-- the first i bytes of each column have passed
unfoldable pub Divided : List ℕ → ℕ → List Remainder → Type 0
Divided xs i regs = regs ≡ beside (λ j. parity 16 (take i (column_of xs j))) column_count

pub divided_none : (xs : List ℕ) → Divided xs 0 (replicate column_count empty)
unfolding Divided
divided_none xs = beside_none column_count (column_of xs)

pub divided_size : (xs : List ℕ) (regs : List Remainder) (i : ℕ) → Divided xs i regs → length regs ≡ column_count
unfolding Divided
divided_size xs regs i d = ap length d ∙ beside-length (λ j. parity 16 (take i (column_of xs j))) column_count

-- row i, which stands in row r, has passed
module _ (xs : List ℕ) (regs new : List Remainder) (i r : ℕ) (e : length xs ≡ block_size) (hi : i < row_count) (hr : r ≡ recording_row i) (small : r < row_count) where
  abbrev pub row : List ℕ
  row = take (r * row_size + column_count - r * row_size) (drop (r * row_size) xs)

  pub row_length : length row ≡ column_count
  row_length =
      let n : r * row_size + column_count - r * row_size ≡ column_count = omega arith in
      ap (λ (k : ℕ). length (take k (drop (r * row_size) xs))) n ∙ length-take-le column_count (drop (r * row_size) xs) (rw length-drop (omega arith))

  row_byte : (j : ℕ) → j < column_count → get_or row j 0 ≡ get_or (column_of xs j) i 0
  row_byte j l =
      get_or-take (r * row_size + column_count - r * row_size) (drop (r * row_size) xs) j 0 (omega arith) ∙ get_or-drop (r * row_size) xs j 0
      ∙ ap (λ (k : ℕ). get_or xs (k * row_size + j) 0) hr ∙ sym (column_byte xs j i hi)

  pub divided_more : Divided xs i regs → new ≡ beside (shifted row regs) (length row) → Divided xs (i + 1) new
  unfolding Divided
  divided_more d s =
      beside_more column_count (column_of xs) i row regs new row_length (λ j l. omega (arith, column_length xs j)) row_byte d s

pub divided_all : (xs : List ℕ) (regs : List Remainder) (i : ℕ) → i ≡ data_rows → Divided xs i regs
    → regs ≡ beside (λ j. parity 16 (take data_rows (column_of xs j))) column_count
unfolding Divided
divided_all xs regs i e d = rw e at d

-- the register of column j
pub column_register : (xs : List ℕ) (regs : List Remainder) (j : ℕ) (r : Remainder) → j < column_count
    → regs ≡ beside (λ i. parity 16 (take data_rows (column_of xs i))) column_count → get_or regs j r ≡ packed (parity 16 (take data_rows (column_of xs j)))
column_register xs regs j r l d =
    ap (λ (q : List Remainder). get_or q j r) d ∙ beside_at (λ i. parity 16 (take data_rows (column_of xs i))) column_count j r l
