-- `register::shift_row` meets its contract. Assumes nothing.
use Rattle.std.proofs.Common.{refl, arith}
use Rattle.division.proofs.Division.{shifting_more, shifting_all}
use Rattle.division.proofs.register.shift_row.Goals as goal

pub loop-j-preserved : goal.loop-j-preserved
loop-j-preserved c =
    shifting_more c.args.row.now c.args.registers.now c.loop-j.registers c.loop-j.j c.next.result (omega arith) (c.next.ensures.of_sixteen refl) c.loop-j.invariant

pub returns : goal.returns
returns c = shifting_all c.args.row.now c.args.registers.now c.loop-j.registers c.loop-j.j (omega arith) (omega arith) c.loop-j.invariant
