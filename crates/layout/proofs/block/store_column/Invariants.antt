-- `block::store_column` meets its contract: each turn stores one byte. Assumes nothing.
use Rattle.std.proofs.Common.{◌+◌}
use Rattle.octets.specs.Inner.{Stored}
use Rattle.layout.specs.Inner.{column_place}
use Rattle.layout.proofs.block.store_column.Given as goal

abbrev pub invariant-loop-k : goal.invariant-loop-k
invariant-loop-k l = Stored (λ m. column_place l.j (l.i + m)) l.part l.initial.block l.block l.k
