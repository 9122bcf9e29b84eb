-- `mend::take_out` meets its contract. Assumes nothing.
use Rattle.lists.proofs.Fill.{Upto}
use Rattle.codes.specs.Inner.{at, without}
use Rattle.reedsolomon.proofs.mend.take_out.Given as goal

abbrev pub invariant-loop-i : goal.invariant-loop-i
invariant-loop-i l = Upto (without l.x (at l.initial.syndromes)) l.initial.syndromes l.syndromes l.i
