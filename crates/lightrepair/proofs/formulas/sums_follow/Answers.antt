-- `formulas::sums_follow` meets its contract: the sums before i + 2 follow. Assumes nothing.
use mathlib.Core.Path.{sym, ap₂, ◌∙◌}
use native.Mathlib.Omega.{arith}
use borrow.Author.Count.{below_more}
use Rattle.field.specs.Field.{add}
use Rattle.codes.specs.Inner.{at}
use Rattle.codes.proofs.Formulas.{follows_true, follows_false}
use Rattle.layout.specs.Lengths.{inner_size}
use Rattle.lightrepair.proofs.formulas.sums_follow.Goals as goal

pub returns-then-sums-i : goal.returns-then-sums-i
unfolding add
returns-then-sums-i c =
    let a = c.args in
    sym (follows_false (at a.sums) inner_size a.a a.b c.loop-i.i (omega arith)
    (λ e. c.if-sums-i.true (e ∙ sym (ap₂ add c.product.ensures c.product-in-loop-i.ensures))))

pub loop-i-preserved : goal.loop-i-preserved
unfolding add
loop-i-preserved c =
    below_more _ _ c.loop-i.invariant (c.if-sums-i.false ∙ ap₂ add c.product.ensures c.product-in-loop-i.ensures)

pub returns : goal.returns
returns c =
    let a = c.args in
    sym (follows_true (at a.sums) inner_size a.a a.b (λ i h. c.loop-i.invariant i (omega arith)))
