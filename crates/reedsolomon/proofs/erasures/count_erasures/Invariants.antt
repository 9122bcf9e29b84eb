-- `erasures::count_erasures` meets its contract: the marked bytes before the next are counted. Assumes nothing.
use mathlib.Core.Path.{◌≡◌}
use Rattle.codes.specs.Erasures.{is_erased}
use Rattle.lists.specs.Count.{count_from}
use Rattle.reedsolomon.proofs.erasures.count_erasures.Given as goal

abbrev pub invariant-loop-mark : goal.invariant-loop-mark
invariant-loop-mark l = l.count ≡ count_from (is_erased l.erasures) 0 l.mark-index
