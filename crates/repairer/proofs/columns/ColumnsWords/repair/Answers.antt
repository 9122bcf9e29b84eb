-- `columns::ColumnsWords::repair` meets its contract where the column is a code column; elsewhere the check finds it. Assumes nothing.
use mathlib.Core.List.{[]}
use Prim.Native.Nat.{ℕ, ◌<◌}
use lib.ListN.{get_or}
use Rattle.repairer.proofs.Along.{column_clean}
use Rattle.repairer.proofs.columns.ColumnsWords.repair.Goals as goal

pub returns-then-all_zero : goal.returns-then-all_zero
returns-then-all_zero c =
    let xs = c.args.block.now in
    let small : (i : ℕ) → get_or xs i 0 < 256 = λ i. c.fits-block i in
    record {
      value = (column_clean [] xs c.args.k c.told-block small _ c.syndromes-syndromes.ensures _ c.all_zero.ensures c.if-all_zero.true).0;
      stored = (column_clean [] xs c.args.k c.told-block small _ c.syndromes-syndromes.ensures _ c.all_zero.ensures c.if-all_zero.true).1;
    }
