-- `columns::Columns::divided` meets its contract: each register is its column's. Assumes nothing.
use Rattle.parity.proofs.Registers.{column_register}
use Rattle.repairer.proofs.columns.Columns.divided.Goals as goal

pub returns : goal.returns
returns c = λ j l. record { register = λ r. column_register c.args.block.now c.column_registers.result j r l c.column_registers.ensures }
