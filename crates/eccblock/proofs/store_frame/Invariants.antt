-- `eccblock::store_frame` meets its contract: each turn stores one row. Assumes nothing.
use Prim.Native.Nat.{◌*◌}
use Rattle.octets.specs.Inner.{Stored}
use Rattle.layout.specs.Lengths.{column_count}
use Rattle.layout.specs.Inner.{frame_place}
use Rattle.eccblock.proofs.store_frame.Given as goal

abbrev pub invariant-loop-r : goal.invariant-loop-r
invariant-loop-r l = Stored (frame_place l.k) l.scrambled l.initial.out l.out (column_count * l.r)
