-- `field::Logs::new` meets its contract: its entry of 0, and two tests over the table, computed. Assumes nothing.
use mathlib.Core.Path.{refl}
use Rattle.field.specs.Field.{add, double}
use Rattle.field.proofs.Tables.{log_right, exp_right, right_table}
use Rattle.field.proofs.Logs.new.Goals as goal

pub invariant_of-result : goal.invariant_of-result
unfolding add double log_right exp_right
invariant_of-result c = record { sound = right_table _ (record { none = refl; first = refl; logs = tt; exps = tt }) }
