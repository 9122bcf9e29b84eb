-- `locate::equation` meets its contract. Assumes nothing.
use mathlib.Core.Path.{sym, ◌∙◌}
use Rattle.field.specs.Field.{add}
use Rattle.codes.specs.Inner.{at}
use Rattle.reedsolomon.proofs.Loops.{dot_start, dot_next, dot_end}
use native.Mathlib.Omega.{arith}
use Rattle.reedsolomon.proofs.locate.equation.Goals as goal

pub loop-j-init : goal.loop-j-init
loop-j-init c = dot_start c.args.polynomial.now (at c.args.syndromes.now) c.args.i

pub loop-j-preserved : goal.loop-j-preserved
unfolding add
loop-j-preserved c = dot_next c.args.polynomial.now (at c.args.syndromes.now) c.args.i c.loop-j.j c.loop-j.sum c.product-sum.result (omega arith) c.product-sum.ensures ∙ c.loop-j.invariant

pub returns : goal.returns
returns c = sym (dot_end c.args.polynomial.now (at c.args.syndromes.now) c.args.i c.loop-j.j c.loop-j.sum (omega arith)) ∙ c.loop-j.invariant
