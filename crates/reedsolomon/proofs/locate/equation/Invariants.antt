-- `locate::equation` meets its contract. Assumes nothing.
use mathlib.Core.Path.{◌≡◌}
use Prim.Native.Nat.{◌+◌}
use lib.ListN.{drop}
use Rattle.field.specs.Field.{add}
use Rattle.codes.specs.Inner.{at, dot}
use Rattle.reedsolomon.proofs.locate.equation.Given as goal

abbrev pub invariant-loop-j : goal.invariant-loop-j
invariant-loop-j l = add l.sum (dot (drop l.j l.polynomial) (at l.syndromes) (l.i + l.j)) ≡ dot l.polynomial (at l.syndromes) l.i
