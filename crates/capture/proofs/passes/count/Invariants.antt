-- `capture::passes::count` meets its contract. The loop keeps that what is counted and what is left make up all. Assumes nothing.
use mathlib.Core.Path.{◌≡◌}
use Prim.Native.Nat.{◌+◌, ◌-◌, ◌≤◌}
use lib.ListN.{length}
use Rattle.framing.specs.Frames.{bit_count, frames_from}
use Rattle.framing.specs.Stretches.{stretches_from}
use Rattle.capture.proofs.passes.count.Given as goal

abbrev pub invariant-loop-frame : goal.invariant-loop-frame
invariant-loop-frame l = (l.frames + length (frames_from l.stream l.start) ≡ length (frames_from l.stream l.at))
    × (l.stretches + length (stretches_from l.stream l.start) ≡ length (stretches_from l.stream l.at))
    × (l.stretches ≤ l.frames)

abbrev pub decreases-loop-frame : goal.decreases-loop-frame
decreases-loop-frame l = bit_count l.stream - l.start
