-- `eccblock::store_frames` meets its contract: each turn stores one frame. Assumes nothing.
use Rattle.eccblock.specs.Inner.{Frames}
use Rattle.eccblock.proofs.store_frames.Given as goal

abbrev pub invariant-loop-k : goal.invariant-loop-k
invariant-loop-k l = Frames l.main l.first l.info l.k l.out
