-- `frames::end::recount` meets its contract: each turn counts one half word more.
-- Assumes nothing.
use Prim.Native.Nat.{◌*◌, ◌-◌}
use Rattle.layout.specs.Lengths.{frame_halves}
use Rattle.levels.specs.Inner.{Room}
use Rattle.frames.proofs.Ended.{Recounted}
use Rattle.frames.proofs.end.recount.Given as goal

abbrev pub invariant-loop-i : goal.invariant-loop-i
invariant-loop-i l = Room l.running (16 * (frame_halves - l.i)) × Recounted l.initial.running l.running l.buffer l.i
