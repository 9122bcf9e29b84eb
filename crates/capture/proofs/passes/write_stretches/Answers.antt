-- `capture::passes::write_stretches` meets its contract. The loop keeps the stretches laid so far, and what is left of them. Assumes nothing.
use Rattle.std.proofs.Common.{◌≡◌, ◌*◌, ap, subst, ◌∙◌, arith, List, [], ℕ, length}
use Rattle.lists.proofs.Front.{Laid, laid_none}
use Rattle.framing.specs.Frames.{bit_count, frames_from}
use Rattle.framing.specs.Stretches.{gap, stretches_from}
use Rattle.capture.specs.Answer.{laid_out}
use Rattle.capture.proofs.Turns.{found_end, between_turn, between_end}
use Rattle.capture.proofs.Laying.{laid_out_length, gap-room, gap_laid, last-room, gaps_laid}
use Rattle.capture.proofs.passes.write_stretches.Goals as goal

-- past the last frame one gap is left, up to the end
last-gap :
    (xs : List ℕ) {all old list : List ℕ} {n : ℕ} (start : ℕ) → frames_from xs start ≡ [] → Laid all old list (laid_out (stretches_from xs start)) n
    → Laid all old list (laid_out (gap start (length xs * 8))) n
last-gap xs {all} {old} {list} {n} start none l =
    let end : bit_count xs ≡ length xs * 8 = omega arith in
    subst (λ ss. Laid all old list (laid_out ss) n) (between_end xs start none ∙ ap (gap start) end) l

pub loop-frame-init : goal.loop-frame-init
loop-frame-init c = laid_none _ _ (omega (arith, laid_out_length (stretches_from c.args.stream.now c.args.at), c.requires.at_in_bounds))

pub put_gap-place-requires : goal.put_gap-place-requires
put_gap-place-requires c =
    let turned = between_turn c.args.stream.now c.in-Some.ensures in
    gap-room (gap c.loop-frame.start c.in-Some.frame) _ (rw turned at c.loop-frame.invariant)

pub overflow_add-start : goal.overflow_add-start
overflow_add-start c = omega (arith, found_end c.args.stream.now c.in-Some.ensures, c.requires.stream_len_bound)

pub loop-frame-smaller : goal.loop-frame-smaller
loop-frame-smaller c = omega (arith, found_end c.args.stream.now c.in-Some.ensures, c.in-Some.ensures.forward)

pub loop-frame-preserved : goal.loop-frame-preserved
loop-frame-preserved c =
    let turned = between_turn c.args.stream.now c.in-Some.ensures in
    gap_laid (gap c.loop-frame.start c.in-Some.frame) _ (rw turned at c.loop-frame.invariant) _ _ c.put_gap-place.ensures.list_after c.put_gap-place.ensures.value

pub put_gap-requires : goal.put_gap-requires
put_gap-requires c = last-room _ (last-gap c.args.stream.now _ c.in_default.ensures c.loop-frame.invariant)

pub returns : goal.returns
returns c = gaps_laid _ (last-gap c.args.stream.now _ c.in_default.ensures c.loop-frame.invariant) _ c.put_gap.ensures.list_after
