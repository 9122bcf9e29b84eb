-- `edc::EdcTable::new` meets its contract, by computing. Assumes nothing.
use mathlib.Core.Path.{refl}
use Rattle.lists.specs.Fill.{tabulate_from}
use Rattle.edc.specs.Edc.{edc_bit, edc_bits, edc_from}
use Rattle.edc.specs.Inner.{edc_entry, edc_table}
use Rattle.edc.proofs.EdcTable.new.Goals as goal

pub invariant_of-result : goal.invariant_of-result
unfolding edc_table edc_entry tabulate_from edc_from edc_bits edc_bit
invariant_of-result c = record { sound = refl }
