-- `columns::Columns::syndromes` meets its contract: the last sixteen bytes are added to the register of the others. Assumes nothing.
use Prim.Native.Nat.{ℕ, ◌<◌}
use lib.ListN.{get_or}
use Rattle.layout.proofs.Places.{column_bytes}
use Rattle.repairer.specs.Inner.{Columns}
use Rattle.repairer.proofs.Along.{left_syndromes}
use Rattle.repairer.proofs.ColumnLaws.{column_left}
use Rattle.repairer.proofs.columns.Columns.syndromes.Goals as goal

pub returns : goal.returns
returns c =
    let xs = c.args.block.now in
    let j = c.args.j in
    let small : (i : ℕ) → get_or xs i 0 < 256 = λ i. c.fits-block i in
    left_syndromes Columns xs j c.told-block small c.requires.0 c.plus_last-left.result _
    (column_left xs c.args.self.now.registers c.column_end.result j _ c.plus_last-left.result (column_bytes xs small j) c.requires.1 c.column_end.ensures
    c.plus_last-left.ensures.high_value c.plus_last-left.ensures.low_value) c.syndromes.ensures
