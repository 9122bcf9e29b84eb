-- `ied::parity2_with` meets its contract: what is left to divide in gives the same remainder at every turn. Assumes nothing.
use Rattle.std.proofs.Common.{refl, ap, sym, ◌∙◌, ◌+◌, arith, List, ℕ, drop}
use Rattle.codes.specs.Parity.{remainder, generator_tail, parity}
use Rattle.codes.proofs.Shift.{remainder_next, remainder_end}
use Rattle.parity.proofs.ied.parity2_with.Goals as goal

pub loop-b-init : goal.loop-b-init
unfolding parity
loop-b-init c = refl

pub loop-b-preserved : goal.loop-b-preserved
loop-b-preserved c =
    let d = c.args.d.now in
    let i = c.loop-b.b-index in
    ap (λ (r : List ℕ). remainder (generator_tail 2) r (drop (i + 1) d)) c.shift_in.ensures
    ∙ remainder_next (generator_tail 2) c.loop-b.register d i (omega arith) ∙ c.loop-b.invariant

pub returns : goal.returns
returns c = sym (remainder_end (generator_tail 2) c.loop-b.register c.args.d.now c.loop-b.b-index (omega arith)) ∙ c.loop-b.invariant
