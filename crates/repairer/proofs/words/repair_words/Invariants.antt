-- `words::repair_words` meets its contract: each turn repairs one word. Assumes nothing.
use mathlib.Core.Path.{◌≡◌}
use Rattle.repairer.specs.Repair.{tally_of}
use Rattle.repairer.specs.Inner.{outcome_of_word}
use Rattle.repairer.proofs.Along.{WordsUpto}
use Rattle.repairer.proofs.words.repair_words.Given as goal

abbrev pub invariant-loop-k : goal.invariant-loop-k
invariant-loop-k g l = (l.tally ≡ tally_of (outcome_of_word g.W.Words.axis l.erasures l.initial.block) l.k) × WordsUpto g.W.Words.axis l.erasures l.initial.block l.block l.k
