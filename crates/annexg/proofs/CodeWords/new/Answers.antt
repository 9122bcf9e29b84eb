-- `annexg::CodeWords::new` meets its contract: the constants are the tables of specs/. Assumes nothing.
use mathlib.Core.Path.{refl}
use Rattle.annexg.specs.Tables.{main_table, sub_table}
use Rattle.annexg.specs.Read.{table_of}
use Rattle.annexg.proofs.CodeWords.new.Goals as goal

pub invariant_of-result : goal.invariant_of-result
unfolding table_of main_table sub_table
invariant_of-result c = record { main_value = refl; substitutes_value = refl }
