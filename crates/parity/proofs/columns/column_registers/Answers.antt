-- `columns::column_registers` meets its contract: each turn shifts one row in. Assumes nothing.
use Rattle.std.proofs.Common.{arith}
use Rattle.parity.proofs.Registers.{divided_none, divided_more, divided_all}
use Rattle.parity.proofs.columns.column_registers.Goals as goal

pub loop-i-init : goal.loop-i-init
loop-i-init c = divided_none c.args.block.now

pub loop-i-preserved : goal.loop-i-preserved
loop-i-preserved c =
    divided_more c.args.block.now c.loop-i.registers _ c.loop-i.i _ (omega arith) (omega arith) c.recording_row-start.ensures.value c.recording_row-start.ensures.upper_bound c.loop-i.invariant
    c.shift_row.ensures

pub returns : goal.returns
returns c = divided_all c.args.block.now c.loop-i.registers c.loop-i.i (omega arith) c.loop-i.invariant
