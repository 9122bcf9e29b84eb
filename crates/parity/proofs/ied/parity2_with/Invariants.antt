-- `ied::parity2_with` meets its contract: what is left to divide in gives the same remainder at every turn. Assumes nothing.
use mathlib.Core.Path.{◌≡◌}
use lib.ListN.{drop}
use Rattle.codes.specs.Parity.{remainder, generator_tail, parity}
use Rattle.parity.proofs.ied.parity2_with.Given as goal

abbrev pub invariant-loop-b : goal.invariant-loop-b
invariant-loop-b l = remainder (generator_tail 2) l.register (drop l.b-index l.d) ≡ parity 2 l.d
