-- `annexg::SyncCodes::new` meets its contract: the constants are the table of specs/. Assumes nothing.
use mathlib.Core.Path.{refl}
use Rattle.annexg.specs.Sync.{sync_table}
use Rattle.annexg.proofs.SyncCodes.new.Goals as goal

pub invariant_of-result : goal.invariant_of-result
unfolding sync_table
invariant_of-result c = record { codes_value = refl }
