-- `eccblock::fill_block` meets its contract: the three stages one after the other. Assumes nothing.
use Rattle.eccblock.proofs.Staged.{rows_none, rows_all}
use Rattle.eccblock.proofs.fill_block.Goals as goal

pub returns : goal.returns
returns c =
    let a = c.args in
    let v = c.add_outer.ensures a.main.now a.first a.info c.store_frames.ensures in
    rows_all a.main.now a.first a.info _ (c.add_inner.ensures a.main.now a.first a.info (rows_none a.main.now a.first a.info _ v))
