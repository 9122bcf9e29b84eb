-- `block::frame_at` meets its contract: each turn reads one row. Assumes nothing.
use Rattle.std.proofs.Common.{◌+◌, ◌*◌, ◌/◌, ◌%◌, get_or}
use Rattle.lists.proofs.Fill.{Upto}
use Rattle.layout.specs.Rows.{recording_row}
use Rattle.layout.proofs.block.frame_at.Given as goal

abbrev pub invariant-loop-r : goal.invariant-loop-r
invariant-loop-r l = Upto (λ q. get_or l.block (recording_row (12 * l.k + q / 172) * 182 + q % 172) 0) l.initial.frame l.frame (172 * l.r)
