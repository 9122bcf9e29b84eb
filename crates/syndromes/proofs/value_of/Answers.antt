-- `syndromes::value_of` meets its contract: Horner's rule, byte by byte. Assumes nothing.
use Rattle.std.proofs.Common.{refl, sym, ◌∙◌, arith}
use Rattle.field.specs.Field.{add}
use Rattle.codes.specs.Word.{value_at}
use Rattle.codes.proofs.Words.{value_from_next, value_from_end}
use Rattle.syndromes.proofs.value_of.Goals as goal

pub loop-b-init : goal.loop-b-init
unfolding value_at
loop-b-init c = refl

pub loop-b-preserved : goal.loop-b-preserved
unfolding add
loop-b-preserved c = rw c.product.ensures (value_from_next c.args.x c.loop-b.v c.args.word.now c.loop-b.b-index (omega arith) ∙ c.loop-b.invariant)

pub returns : goal.returns
returns c = sym (value_from_end c.args.x c.loop-b.v c.args.word.now c.loop-b.b-index (omega arith)) ∙ c.loop-b.invariant
