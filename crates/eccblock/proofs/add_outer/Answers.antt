-- `eccblock::add_outer` meets its contract: each turn adds the parity of one column. Assumes nothing.
use mathlib.Core.Path.{◌≡◌}
use native.Mathlib.Omega.{arith}
use Rattle.layout.specs.Lengths.{column_count}
use Rattle.eccblock.proofs.Staged.{outer_bytes, columns_none, columns_more}
use Rattle.eccblock.proofs.add_outer.Goals as goal

pub loop-j-init : goal.loop-j-init
loop-j-init c = λ main first info v. columns_none main first info _ v

pub loop-j-preserved : goal.loop-j-preserved
loop-j-preserved c =
    let bytes = outer_bytes c.args.out.now _ _ c.loop-j.j _ (omega arith) c.column_registers-registers.ensures c.unpack-p.ensures in
    λ main first info v. columns_more main first info c.loop-j.j c.args.out.now _ c.loop-j.out _ (omega arith) v bytes c.store_column.ensures (c.loop-j.invariant main first info v)

pub returns : goal.returns
returns c = let e : c.loop-j.j ≡ column_count = omega arith in λ main first info v. rw e at (c.loop-j.invariant main first info v)
