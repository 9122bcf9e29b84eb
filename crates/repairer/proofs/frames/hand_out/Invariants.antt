-- `frames::hand_out` meets its contract: each turn writes the main data of one frame. Assumes nothing.
use Prim.Native.Nat.{◌*◌}
use Rattle.lists.proofs.Fill.{Upto}
use Rattle.repairer.proofs.FrameLaws.{main_byte}
use Rattle.repairer.proofs.frames.hand_out.Given as goal

abbrev pub invariant-loop-k : goal.invariant-loop-k
invariant-loop-k l = Upto (main_byte l.block) l.initial.main l.main (l.k * 2048)
