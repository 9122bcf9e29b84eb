-- `register::divide` meets its contract. Assumes nothing.
use Rattle.division.proofs.Division.{Divided}
use Rattle.division.proofs.register.divide.Given as goal

abbrev pub invariant-loop-b : goal.invariant-loop-b
invariant-loop-b g l = Divided g.row.P l.d l.b-index l.left
