-- `scrambling::scramble` meets its contract: each turn scrambles one byte. Assumes nothing.
use Rattle.lists.proofs.Fill.{Upto}
use Rattle.scrambling.proofs.Scrambled.{main_byte}
use Rattle.scrambling.proofs.scramble.Given as goal

abbrev pub invariant-loop-i : goal.invariant-loop-i
invariant-loop-i l = Upto (main_byte l.number l.fn.frame) l.initial.byte-items l.byte-items l.i
