-- `levels::Levels::new` meets its contract: all 256 entries are computed.
-- Assumes nothing.
use mathlib.Core.Path.{refl}
use Rattle.lists.specs.Fill.{tabulate_from}
use Rattle.levels.specs.Level.{level_after}
use Rattle.levels.specs.Inner.{at_one, byte_levels, level_table}
use Rattle.levels.proofs.Levels.new.Goals as goal

pub invariant_of-result : goal.invariant_of-result
unfolding level_table tabulate_from byte_levels at_one level_after
invariant_of-result c = record { table_value = refl }
