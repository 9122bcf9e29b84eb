-- `frames::Pair::steps` meets its contract: each turn makes the step over one byte more.
-- Assumes nothing.
use mathlib.Core.Path.{◌≡◌}
use lib.ListN.{length}
use Rattle.layout.specs.Lengths.{frame_stream}
use Rattle.frames.specs.Inner.{Stepped}
use Rattle.frames.proofs.Pair.steps.Given as goal

abbrev pub invariant-loop-i : goal.invariant-loop-i
invariant-loop-i l =
    length l.stream1 ≡ frame_stream
    × length l.stream2 ≡ frame_stream
    × Stepped l.initial.ends l.initial.stream1 l.initial.stream2 l.bytes l.i l.ends l.stream1 l.stream2
