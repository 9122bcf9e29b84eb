-- `locate::add_multiple` meets its contract. Assumes nothing.
use lib.ListN.{get_or}
use Rattle.lists.proofs.Fill.{Upto}
use Rattle.codes.specs.Inner.{mix}
use Rattle.reedsolomon.proofs.locate.add_multiple.Given as goal

abbrev pub invariant-loop-j : goal.invariant-loop-j
invariant-loop-j l = Upto (λ k. get_or (mix l.factor l.pivot l.initial.candidate) k 0) l.initial.candidate l.candidate l.j
