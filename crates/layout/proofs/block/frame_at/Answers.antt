-- `block::frame_at` meets its contract: each turn reads one row. Assumes nothing.
use Rattle.std.proofs.Common.{refl, ◌≡◌}
use Prim.Native.Nat.{◌+◌, ◌*◌, ◌/◌, ◌%◌}
use lib.ListN.{get_or}
use Rattle.lists.proofs.Fill.{upto_all}
use Rattle.layout.specs.Rows.{recording_row, frame_of}
use Rattle.layout.proofs.Places.{frame_read}
use native.Mathlib.Omega.{arith}
use Rattle.layout.proofs.block.frame_at.Goals as goal

pub loop-r-preserved : goal.loop-r-preserved
loop-r-preserved c =
    frame_read c.args.block.now c.args.k c.loop-r.r _ c.loop-r.frame _ c.told-block c.requires (omega arith) refl c.put.ensures c.loop-r.invariant

pub returns : goal.returns
unfolding frame_of
returns c = let a = c.args in
    let e : 172 * c.loop-r.r ≡ 2064 = omega arith in
    upto_all (λ q. get_or a.block.now (recording_row (12 * a.k + q / 172) * 182 + q % 172) 0) _ c.loop-r.frame 2064 refl (rw e at c.loop-r.invariant)
