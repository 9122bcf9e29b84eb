-- `frames::end::recount` meets its contract: each turn counts one half word more.
-- Assumes nothing.
use mathlib.Core.Path.{refl}
use Prim.Native.Nat.{◌+◌, ◌*◌, ◌-◌}
use native.Mathlib.Omega.{arith}
use Rattle.layout.specs.Lengths.{frame_bits, frame_halves}
use Rattle.levels.proofs.Steps.{room-le}
use Rattle.frames.proofs.Ended.{recount_one, recount_more, recount_all, room_next}
use Rattle.frames.proofs.end.recount.Goals as goal

pub half-running-requires : goal.half-running-requires
half-running-requires c = room-le _ 16 frame_bits (omega arith) c.requires

pub loop-i-init : goal.loop-i-init
loop-i-init c = (room_next _ _ _ frame_bits (16 * 92) refl c.requires c.half-running.ensures, recount_one _ _)

pub half-running-requires-in-loop-i : goal.half-running-requires-in-loop-i
half-running-requires-in-loop-i c = room-le _ 16 (16 * (frame_halves - c.loop-i.i)) (omega arith) c.loop-i.invariant.0

pub loop-i-preserved : goal.loop-i-preserved
loop-i-preserved c =
    let i = c.loop-i.i in
    let v = c.loop-i.invariant in
    let step = c.half-running-in-loop-i.ensures in
    let left = 16 * (frame_halves - (i + 1)) in
    let fewer = room_next _ _ _ (16 * (frame_halves - i)) left (omega arith) v.0 step in
    let more =
    recount_more _ _ _ _ i _ (omega arith) (omega arith) c.told-buffer c.half_at.ensures step v.1 in
    (fewer, more)

pub returns : goal.returns
returns c =
    recount_all c.args.start _ _ _ c.loop-i.i c.args.first (omega arith) c.told-buffer
    c.half-running.ensures c.loop-i.invariant.1
