-- `frames::judge_frames` meets its contract: each turn judges one frame. Assumes nothing.
use mathlib.Core.Path.{◌≡◌}
use Prim.Native.Nat.{◌-◌}
use Rattle.std.specs.Prelude.{Ok}
use Rattle.repairer.specs.Answer.{judged, repair_of}
use Rattle.repairer.proofs.frames.judge_frames.Given as goal

abbrev pub invariant-loop-k : goal.invariant-loop-k
invariant-loop-k l = judged l.block 0 16 (Ok (repair_of l.block l.tallies)) ≡ judged l.block l.k (16 - l.k) (Ok (repair_of l.block l.tallies))
