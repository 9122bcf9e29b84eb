-- `writer::sector::frames` meets its contract: each turn lays one frame more.
-- Assumes nothing.
use mathlib.Core.Path.{◌≡◌}
use lib.ListN.{length}
use Rattle.layout.specs.Lengths.{frame_stream, sector_stream}
use Rattle.writer.proofs.Sectors.{Laying}
use Rattle.writer.proofs.sector.frames.Given as goal

abbrev pub invariant-loop-k : goal.invariant-loop-k
invariant-loop-k l =
    length l.stream1 ≡ frame_stream
    × length l.stream2 ≡ frame_stream
    × length l.out ≡ sector_stream
    × Laying l.initial.running l.running l.initial.peak l.peak l.bytes l.out l.k
