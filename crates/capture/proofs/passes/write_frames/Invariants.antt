-- `capture::passes::write_frames` meets its contract. The loop keeps the bytes laid so far, and what is left of them. Assumes nothing.
use Prim.Native.Nat.{◌-◌}
use Rattle.lists.proofs.Front.{Laid}
use Rattle.framing.specs.Frames.{bit_count, frames_from, bytes_of}
use Rattle.capture.proofs.passes.write_frames.Given as goal

abbrev pub invariant-loop-frame : goal.invariant-loop-frame
invariant-loop-frame l = Laid (bytes_of l.stream (frames_from l.stream l.at)) l.initial.out l.out (bytes_of l.stream (frames_from l.stream l.from)) l.done

abbrev pub decreases-loop-frame : goal.decreases-loop-frame
decreases-loop-frame l = bit_count l.stream - l.from
