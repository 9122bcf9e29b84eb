-- `syndromes::syndromes_into` meets its contract. Assumes nothing.
use Rattle.std.proofs.Common.{refl, ap, ◌≡◌, ◌∙◌, arith, length}
use Rattle.lists.proofs.Fill.{upto_more, upto_all}
use Rattle.codes.specs.Word.{value_at, syndrome}
use Rattle.syndromes.proofs.syndromes_into.Goals as goal

pub loop-k-preserved : goal.loop-k-preserved
unfolding syndrome
loop-k-preserved c =
    upto_more _ c.args.out.now c.loop-k.out c.loop-k.k c.value_of.result (omega arith)
    (c.value_of.ensures ∙ ap (value_at c.args.word.now) c.alpha_power.ensures) c.loop-k.invariant

pub returns : goal.returns
returns c =
    let e : c.loop-k.k ≡ length c.args.out.now = omega arith in
    upto_all _ c.args.out.now c.loop-k.out (length c.args.out.now) refl (rw e at c.loop-k.invariant)
