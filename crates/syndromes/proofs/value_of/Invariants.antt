-- `syndromes::value_of` meets its contract: Horner's rule, byte by byte. Assumes nothing.
use mathlib.Core.Path.{◌≡◌}
use lib.ListN.{drop}
use Rattle.codes.specs.Word.{value_from, value_at}
use Rattle.syndromes.proofs.value_of.Given as goal

abbrev pub invariant-loop-b : goal.invariant-loop-b
invariant-loop-b l = value_from l.x l.v (drop l.b-index l.word) ≡ value_at l.word l.x
