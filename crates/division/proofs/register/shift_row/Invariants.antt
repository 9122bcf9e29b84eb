-- `register::shift_row` meets its contract. Assumes nothing.
use Rattle.division.proofs.Division.{Shifting}
use Rattle.division.proofs.register.shift_row.Given as goal

abbrev pub invariant-loop-j : goal.invariant-loop-j
invariant-loop-j l = Shifting l.row l.initial.registers l.registers l.j
