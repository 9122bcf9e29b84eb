-- A column of a block: what the generator leaves of it, from its register and its last sixteen bytes (column_left), and the column stored (column_stored).
-- Assumes nothing.
use mathlib.Core.Path.{◌≡◌, sym, ap, ap₂, ◌∙◌}
use mathlib.Core.List.{List}
use Prim.Native.Nat.{ℕ, ◌+◌, ◌-◌}
use native.Mathlib.Omega.{arith}
use lib.ListN.{length, get_or, take, drop}
use Rattle.lists.specs.Bytes.{Bytes}
use Rattle.field.specs.Field.{add}
use Rattle.codes.specs.Parity.{parity}
use Rattle.multiples.specs.Inner.{high, low}
use Rattle.division.specs.Inner.{packed, remainder_of}
use Rattle.division.specs.declared.register.Remainder.{Remainder}
use Rattle.division.proofs.Words.{left_packed}
use Rattle.octets.specs.Inner.{Stored}
use Rattle.layout.specs.Rows.{column_of}
use Rattle.layout.specs.Inner.{column_place}
use Rattle.layout.proofs.Places.{column_length}
use Rattle.layout.specs.Lengths.{row_count, data_rows}
use Rattle.repairer.specs.Inner.{ColumnDivided}

pub column_left :
    (xs : List ℕ) (regs : List Remainder) (end : List ℕ) (j : ℕ) (q r : Remainder) → Bytes (column_of xs j) → ColumnDivided xs regs j → end ≡ drop data_rows (column_of xs j)
    → r.high ≡ add (get_or regs j q).high (high end) → r.low ≡ add (get_or regs j q).low (low end) → r ≡ packed (remainder_of 16 (column_of xs j))
column_left xs regs end j q r bytes d e eh el =
    let w : List ℕ = column_of xs j in
    let size : data_rows ≡ length w - 16 = omega (arith, column_length xs j) in
    left_packed 16 w bytes (omega (arith, column_length xs j)) r
    (eh ∙ ap₂ add (ap (λ (x : Remainder). x.high) (d.register q)) (ap high e) ∙ ap (λ (n : ℕ). add (high (parity 16 (take n w))) (high (drop n w))) size)
    (el ∙ ap₂ add (ap (λ (x : Remainder). x.low) (d.register q)) (ap low e) ∙ ap (λ (n : ℕ). add (low (parity 16 (take n w))) (low (drop n w))) size)

-- all 208 bytes of a column, stored from its byte 0 on
pub column_stored :
    (j : ℕ) (v u old new : List ℕ) → length v ≡ row_count → v ≡ u → Stored (λ k. column_place j (0 + k)) v old new (length v)
    → Stored (column_place j) u old new row_count
column_stored j v u old new n e s = record {
  size = s.size;
  done = λ i l. ap (λ (x : ℕ). get_or new (column_place j x) 0) (sym (zero_plus i)) ∙ s.done i (omega (arith, n)) ∙ ap (λ (x : List ℕ). get_or x i 0) e;
  left = λ p a. s.left p (λ i l q. a i (omega (arith, n)) (q ∙ ap (column_place j) (zero_plus i)));
}
  where
    zero_plus : (i : ℕ) → 0 + i ≡ i
    zero_plus i = omega arith
