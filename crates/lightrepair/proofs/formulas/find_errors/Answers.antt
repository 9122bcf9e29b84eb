-- `formulas::find_errors` meets its contract: what is found explains the sums, or neither no wrong byte nor one nor two do. Assumes nothing.
use mathlib.Core.Path.{◌≡◌, sym, ◌∙◌}
use lib.ListN.{length}
use borrow.Author.Rules.{rules}
use Rattle.layout.specs.Lengths.{row_size, inner_size}
use Rattle.lightrepair.proofs.Found.{none_explains, heavier}
use Rattle.lightrepair.proofs.formulas.find_errors.Goals as goal

pub returns-then-no_error : goal.returns-then-no_error
returns-then-no_error c =
    let s = c.args.sums in
    let size : length s ≡ inner_size = search rules in
    none_explains s inner_size row_size size (sym c.no_error.ensures ∙ c.if-no_error.true)

pub returns-in_err-first : goal.returns-in_err-first
returns-in_err-first c =
    let s = c.args.sums in
    let size : length s ≡ inner_size = search rules in
    let dirty = sym c.no_error.ensures ∙ c.if-no_error.false in
    rw c.from_residual.ensures (heavier s inner_size row_size size dirty c.in_default.ensures c.in_err-first.ensures)
