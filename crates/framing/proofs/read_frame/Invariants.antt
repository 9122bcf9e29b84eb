-- `framing::read_frame` meets its contract. The loop keeps the bytes read so far. Assumes nothing.
use Rattle.lists.proofs.Fill.{Upto}
use Rattle.framing.specs.Frames.{frame_byte}
use Rattle.framing.proofs.read_frame.Given as goal

abbrev pub invariant-loop-i : goal.invariant-loop-i
invariant-loop-i l = Upto (frame_byte l.stream l.at) l.initial.b-items l.b-items l.i
