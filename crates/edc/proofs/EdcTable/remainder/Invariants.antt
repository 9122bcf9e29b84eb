-- `edc::EdcTable::remainder` meets its contract: what is left to divide in gives the same remainder at every turn. Assumes nothing.
use mathlib.Core.Path.{◌≡◌}
use Prim.Native.Nat.{◌*◌}
use lib.ListN.{drop}
use Rattle.edc.specs.Edc.{edc_from}
use Rattle.edc.proofs.EdcTable.remainder.Given as goal

abbrev pub invariant-loop-word : goal.invariant-loop-word
invariant-loop-word l = edc_from l.r (drop (l.word-index * 4) l.xs) ≡ edc_from l.initial.r l.xs
