-- `register::divide` meets its contract. Assumes nothing.
use Rattle.std.proofs.Common.{arith}
use Rattle.division.proofs.Division.{divided_none, divided_more, divided_all}
use Rattle.division.proofs.register.divide.Goals as goal

pub loop-b-init : goal.loop-b-init
loop-b-init g c = divided_none g.row.P c.args.d.now

pub loop-b-preserved : goal.loop-b-preserved
loop-b-preserved g c = divided_more g.row.P c.args.d.now c.loop-b.b-index _ (omega arith) (c.next-left.ensures.of_register _ c.loop-b.invariant)

pub returns : goal.returns
returns g c = divided_all g.row.P c.args.d.now c.loop-b.b-index _ (omega arith) c.loop-b.invariant
