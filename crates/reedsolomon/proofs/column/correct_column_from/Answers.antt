-- `column::correct_column_from` meets its contract: the syndromes decide, of the column and of the mended column; nothing is marked. Assumes nothing.
use mathlib.Core.Path.{◌≡◌, refl, sym, ap, ◌∙◌}
use mathlib.Core.List.{List}
use mathlib.Core.Logic.{inr}
use Prim.Native.Nat.{ℕ, ◌-◌, ◌/◌}
use native.Mathlib.Omega.{arith}
use lib.ListN.{length, replicate, length-replicate}
use borrow.Author.Rules.{rules}
use Rattle.layout.specs.Lengths.{row_count}
use Rattle.reedsolomon.proofs.Repair.{word_bytes, column_shape, word_clean, zeros-count, unmarked-repaired}
use Rattle.reedsolomon.proofs.column.correct_column_from.Goals as goal

-- no byte is marked
abbrev unmarked : List ℕ
unmarked = replicate row_count 0

unmarked-length : length unmarked ≡ row_count
unmarked-length = length-replicate {A = ℕ} row_count 0

pub returns-then-all_zero : goal.returns-then-all_zero
returns-then-all_zero c =
    let all = unmarked-repaired row_count 8 c.args.column.bytes _ _ (word_bytes c.args.column.bytes (λ i. search rules))
    (word_clean column_shape c.args.column.bytes (search rules) (word_bytes c.args.column.bytes (λ i. search rules)) unmarked (unmarked-length) 0 (zeros-count row_count) (omega arith)
    _ c.requires _ c.all_zero.ensures c.if-all_zero.true) in
    record { bytes_value = all.0; outcome_value = all.1 }

pub correct_located-requires : goal.correct_located-requires
correct_located-requires c =
    let none = zeros-count row_count in (
      omega arith,
      (
        omega arith,
        (
          omega arith,
          (
            omega arith,
            (inr (refl, refl), (refl, (omega (arith, none), (ap (λ (f : ℕ). (16 - f) / 2) none, (c.requires, sym c.all_zero.ensures ∙ c.if-all_zero.false))))),
          ),
        ),
      ),
    )

pub returns : goal.returns
returns c =
    let all = unmarked-repaired row_count 8 c.args.column.bytes _ _ (word_bytes c.args.column.bytes (λ i. search rules)) (c.correct_located.ensures.bytes_value, c.correct_located.ensures.outcome_value) in
    record { bytes_value = all.0; outcome_value = all.1 }
