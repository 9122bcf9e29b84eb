-- `syndromes::syndromes_into` meets its contract. Assumes nothing.
use Rattle.lists.proofs.Fill.{Upto}
use Rattle.codes.specs.Word.{syndrome}
use Rattle.syndromes.proofs.syndromes_into.Given as goal

abbrev pub invariant-loop-k : goal.invariant-loop-k
invariant-loop-k l = Upto (syndrome l.word) l.initial.out l.out l.k
