-- `capture::passes::write_frames` meets its contract. The loop keeps the bytes laid so far, and what is left of them. Assumes nothing.
use Rattle.std.proofs.Common.{◌+◌, ap, subst, ◌∙◌, arith, List, ◌++◌, ℕ, length}
use Rattle.std.proofs.lemmas.List.Edits.{sets}
use Rattle.lists.proofs.Front.{Laid, laid_none, laid_all}
use Rattle.layout.specs.Lengths.{frame_bits}
use Rattle.framing.specs.Frames.{frames_from, bytes_of_frame, bytes_of}
use Rattle.framing.specs.Inner.{NextFrame}
use Rattle.framing.proofs.Frames.{frames-room}
use Rattle.capture.proofs.Turns.{found_end, bytes_turn, bytes_end}
use Rattle.capture.proofs.Laying.{piece-room, piece_laid, frame_length, bytes-length}
use Rattle.capture.proofs.passes.write_frames.Goals as goal

-- the next frame's bytes are laid next
turned :
    (xs : List ℕ) {all old out : List ℕ} {n from frame : ℕ} → NextFrame xs from frame → Laid all old out (bytes_of xs (frames_from xs from)) n
    → Laid all old out (bytes_of_frame xs frame ++ bytes_of xs (frames_from xs (frame + frame_bits))) n
turned xs {all} {old} {out} {n} next l = subst (λ x. Laid all old out x n) (bytes_turn xs next) l

pub loop-frame-init : goal.loop-frame-init
loop-frame-init c =
    let xs = c.args.stream.now in
    let fits = bytes-length xs (frames_from xs c.args.at) in
    laid_none _ _ (omega (arith, fits, frames-room xs c.args.at, c.requires.out_len))

pub read_frame-requires : goal.read_frame-requires
read_frame-requires c = omega (arith, found_end c.args.stream.now c.in-Some.ensures)

pub put-requires : goal.put-requires
put-requires c =
    let xs = c.args.stream.now in
    omega (arith, piece-room (bytes_of_frame xs c.in-Some.frame) _ (turned xs c.in-Some.ensures c.loop-frame.invariant), ap length c.read_frame.ensures)

pub overflow_add-from : goal.overflow_add-from
overflow_add-from c = omega (arith, found_end c.args.stream.now c.in-Some.ensures, c.requires.stream_len_bound)

pub loop-frame-smaller : goal.loop-frame-smaller
loop-frame-smaller c = omega (arith, found_end c.args.stream.now c.in-Some.ensures, c.in-Some.ensures.forward)

pub loop-frame-preserved : goal.loop-frame-preserved
loop-frame-preserved c =
    let xs = c.args.stream.now in
    let own = bytes_of_frame xs c.in-Some.frame in
    let is = c.put.ensures ∙ ap (sets c.loop-frame.out c.loop-frame.done) c.read_frame.ensures in
    piece_laid own _ (turned xs c.in-Some.ensures c.loop-frame.invariant) _ _ is (omega (arith, frame_length xs c.in-Some.frame))

pub returns : goal.returns
returns c = laid_all c.loop-frame.invariant (bytes_end c.args.stream.now _ c.in_default.ensures)
