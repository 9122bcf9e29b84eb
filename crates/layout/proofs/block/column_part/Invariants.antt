-- `block::column_part` meets its contract: each turn reads one byte. Assumes nothing.
use Rattle.std.proofs.Common.{◌+◌, get_or}
use Rattle.lists.proofs.Fill.{Upto}
use Rattle.layout.specs.Inner.{column_place}
use Rattle.layout.proofs.block.column_part.Given as goal

abbrev pub invariant-loop-k : goal.invariant-loop-k
invariant-loop-k g l = Upto (λ m. get_or l.block (column_place l.j (l.i + m)) 0) l.initial.byte-items l.byte-items l.k
