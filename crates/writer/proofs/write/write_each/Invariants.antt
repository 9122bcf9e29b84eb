-- `writer::write::write_each` meets its contract.
-- Assumes nothing.
use mathlib.Core.Path.{◌≡◌}
use Prim.Native.Nat.{◌≤◌}
use lib.ListN.{length}
use Rattle.layout.specs.Lengths.{sector_count, sectors_stream}
use Rattle.writer.proofs.Each.{Written}
use Rattle.writer.proofs.write.write_each.Given as goal

abbrev pub invariant-loop-k : goal.invariant-loop-k
invariant-loop-k l = (l.k ≤ sector_count) × Written l.initial.w l.block l.initial.out l.k l.w l.out × (length l.out ≡ sectors_stream)
