-- `columns::column_registers` meets its contract: each turn shifts one row in. Assumes nothing.
use Rattle.parity.proofs.Registers.{Divided}
use Rattle.parity.proofs.columns.column_registers.Given as goal

abbrev pub invariant-loop-i : goal.invariant-loop-i
invariant-loop-i l = Divided l.block l.i l.registers
