-- The array of an ECC Block (ECMA-268, clause 18), cell by cell: its columns (column_length, column_at), with outer parity
-- (code_column_length, code_column_data, code_column_parity), its rows (row_length), with inner parity (code_row_length,
-- code_row_data, code_row_parity).
-- Assumes nothing.
use mathlib.Core.Path.{◌≡◌, sym, ap, ap₂, ◌∙◌}
use mathlib.Core.List.{List}
use Prim.Native.Nat.{ℕ, ◌+◌, ◌<◌}
use native.Mathlib.Omega.{arith}
use lib.ListN.{length, get_or, length-append, get_or-append}
use lib.Seq.{get_or-append-add}
use Rattle.lists.proofs.Fill.{length-tabulate, get_d_tabulate}
use Rattle.layout.specs.Lengths.{data_rows, row_count, column_count, row_size, outer_size, inner_size}
use Rattle.codes.specs.Parity.{parity}
use Rattle.codes.proofs.Division.{ten_roots, sixteen_roots, parity-length}
use Rattle.eccblock.specs.Block.{data_byte, column, code_column, row, code_row}

module _ (main : List ℕ) (first info : ℕ) where
  -- ---- column j

  pub column_length : (j : ℕ) → length (column main first info j) ≡ data_rows
  unfolding column
  column_length j = length-tabulate (data_byte main first info j) data_rows

  pub column_at : (j i : ℕ) → i < data_rows → get_or (column main first info j) i 0 ≡ data_byte main first info j i
  unfolding column
  column_at j i h = get_d_tabulate (data_byte main first info j) data_rows i h

  pub code_column_length : (j : ℕ) → length (code_column main first info j) ≡ row_count
  unfolding code_column
  code_column_length j =
      length-append (column main first info j) (parity outer_size (column main first info j))
      ∙ ap₂ (λ (x y : ℕ). x + y) (column_length j) (parity-length outer_size sixteen_roots (column main first info j))

  pub code_column_data : (j i : ℕ) → i < data_rows → get_or (code_column main first info j) i 0 ≡ data_byte main first info j i
  unfolding code_column
  code_column_data j i h =
      get_or-append (column main first info j) (parity outer_size (column main first info j)) 0 i (omega (arith, column_length j)) ∙ column_at j i h

  pub code_column_parity : (j i : ℕ) → get_or (code_column main first info j) (data_rows + i) 0 ≡ get_or (parity outer_size (column main first info j)) i 0
  unfolding code_column
  code_column_parity j i =
      ap (λ (n : ℕ). get_or (code_column main first info j) (n + i) 0) (sym (column_length j))
      ∙ get_or-append-add (column main first info j) (parity outer_size (column main first info j)) i 0

  -- ---- row i

  pub row_length : (i : ℕ) → length (row main first info i) ≡ column_count
  unfolding row
  row_length i = length-tabulate (λ j. get_or (code_column main first info j) i 0) column_count

  pub code_row_length : (i : ℕ) → length (code_row main first info i) ≡ row_size
  unfolding code_row
  code_row_length i =
      length-append (row main first info i) (parity inner_size (row main first info i))
      ∙ ap₂ (λ (x y : ℕ). x + y) (row_length i) (parity-length inner_size ten_roots (row main first info i))

  pub code_row_data : (i j : ℕ) → j < column_count → get_or (code_row main first info i) j 0 ≡ get_or (code_column main first info j) i 0
  unfolding code_row row
  code_row_data i j h =
      get_or-append (row main first info i) (parity inner_size (row main first info i)) 0 j (omega (arith, row_length i))
      ∙ get_d_tabulate (λ j. get_or (code_column main first info j) i 0) column_count j h

  pub code_row_parity : (i k : ℕ) → get_or (code_row main first info i) (column_count + k) 0 ≡ get_or (parity inner_size (row main first info i)) k 0
  unfolding code_row
  code_row_parity i k =
      ap (λ (n : ℕ). get_or (code_row main first info i) (n + k) 0) (sym (row_length i))
      ∙ get_or-append-add (row main first info i) (parity inner_size (row main first info i)) k 0
