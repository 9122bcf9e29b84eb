-- `capture::passes::write_stretches` meets its contract. The loop keeps the stretches laid so far, and what is left of them. Assumes nothing.
use Prim.Native.Nat.{◌-◌}
use Rattle.lists.proofs.Front.{Laid}
use Rattle.framing.specs.Frames.{bit_count}
use Rattle.framing.specs.Stretches.{stretches_from}
use Rattle.capture.specs.Answer.{laid_out}
use Rattle.capture.proofs.passes.write_stretches.Given as goal

abbrev pub invariant-loop-frame : goal.invariant-loop-frame
invariant-loop-frame l = Laid (laid_out (stretches_from l.stream l.at)) l.initial.list l.list (laid_out (stretches_from l.stream l.start)) l.place

abbrev pub decreases-loop-frame : goal.decreases-loop-frame
decreases-loop-frame l = bit_count l.stream - l.start
