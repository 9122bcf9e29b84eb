-- `locate::add_multiple` meets its contract. Assumes nothing.
use mathlib.Core.Path.{◌≡◌, refl, sym, ap₂, ◌∙◌}
use lib.ListN.{length}
use Rattle.field.specs.Field.{add}
use Rattle.lists.proofs.Fill.{upto_none, upto_more, upto_all, tabulate_self}
use Rattle.codes.specs.Inner.{mix}
use Rattle.codes.proofs.Elimination.{mix-length, mix-at}
use native.Mathlib.Omega.{arith}
use Rattle.reedsolomon.proofs.locate.add_multiple.Goals as goal

pub loop-j-init : goal.loop-j-init
loop-j-init c = upto_none _ _

pub loop-j-preserved : goal.loop-j-preserved
unfolding add
loop-j-preserved c =
    let u = c.loop-j.invariant in
    upto_more _ c.args.candidate.now c.loop-j.candidate c.loop-j.j _ (omega arith)
    (ap₂ add (u.left c.loop-j.j (omega arith)) c.product.ensures ∙ sym (mix-at c.args.factor c.args.pivot.now c.args.candidate.now c.loop-j.j c.requires)) u

pub shape_of-candidate : goal.shape_of-candidate
shape_of-candidate c = c.loop-j.invariant.same

pub returns : goal.returns
returns c =
    let e : c.loop-j.j ≡ length c.args.candidate.now = omega arith in
    upto_all _ c.args.candidate.now c.loop-j.candidate (length c.args.candidate.now) refl (rw e at c.loop-j.invariant)
    ∙ tabulate_self (mix c.args.factor c.args.pivot.now c.args.candidate.now) (length c.args.candidate.now) (mix-length c.args.factor c.args.pivot.now c.args.candidate.now c.requires)
