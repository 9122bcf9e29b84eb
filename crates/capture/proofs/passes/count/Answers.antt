-- `capture::passes::count` meets its contract. The loop keeps that what is counted and what is left make up all. Assumes nothing.
use Rattle.std.proofs.Common.{◌≡◌, ◌+◌, ◌*◌, ap, arith, length, length-append}
use Rattle.layout.specs.Lengths.{frame_bits}
use Rattle.framing.specs.Frames.{bit_count}
use Rattle.framing.specs.Stretches.{gap, stretches_from}
use Rattle.framing.proofs.Frames.{frames-room}
use Rattle.capture.proofs.Turns.{found_end, between_turn, between_end}
use Rattle.capture.proofs.passes.count.Goals as goal

pub overflow_add-frames : goal.overflow_add-frames
overflow_add-frames c = omega (arith, c.loop-frame.invariant.0, frames-room c.args.stream.now c.args.at, c.requires)

pub overflow_add-stretches : goal.overflow_add-stretches
overflow_add-stretches c =
    omega (arith, c.loop-frame.invariant.0, c.loop-frame.invariant.2, frames-room c.args.stream.now c.args.at, c.gap_count-stretches.ensures.upper_bound, c.requires)

pub overflow_add-start : goal.overflow_add-start
overflow_add-start c = omega (arith, found_end c.args.stream.now c.in-Some.ensures, c.requires)

pub loop-frame-smaller : goal.loop-frame-smaller
loop-frame-smaller c = omega (arith, found_end c.args.stream.now c.in-Some.ensures, c.in-Some.ensures.forward)

pub loop-frame-preserved : goal.loop-frame-preserved
loop-frame-preserved c =
    let xs = c.args.stream.now in
    let next = c.in-Some.ensures in
    let joined = length-append (gap c.loop-frame.start c.in-Some.frame) (stretches_from xs (c.in-Some.frame + frame_bits)) in (
      omega (arith, ap length next.taken, c.loop-frame.invariant.0),
      omega (arith, ap length (between_turn xs next), joined, c.gap_count-stretches.ensures.value, c.loop-frame.invariant.1),
      omega (arith, c.loop-frame.invariant.2, c.gap_count-stretches.ensures.upper_bound),
    )

pub overflow_add-stretches-2 : goal.overflow_add-stretches-2
overflow_add-stretches-2 c =
    omega (arith, c.loop-frame.invariant.0, c.loop-frame.invariant.2, frames-room c.args.stream.now c.args.at, c.gap_count-stretches-2.ensures.upper_bound, c.requires)

pub returns-clause-stretches_value : goal.returns-clause-stretches_value
returns-clause-stretches_value c =
    let xs = c.args.stream.now in
    let last : length (gap c.loop-frame.start (length xs * 8)) ≡ length (gap c.loop-frame.start (bit_count xs)) = ap (λ n. length (gap c.loop-frame.start n)) (omega arith) in
    omega (arith, c.gap_count-stretches-2.ensures.value, last, ap length (between_end xs _ c.in_default.ensures), c.loop-frame.invariant.1)
