-- `edc::EdcTable::after` meets its contract. Assumes nothing.
use borrow.Author.Rules.{rules}
use native.Mathlib.Omega.{arith}
use Rattle.field.specs.Field.{add}
use Rattle.edc.specs.Edc.{four_bytes}
use Rattle.edc.proofs.Remainders.{table_four}
use Rattle.edc.proofs.EdcTable.after.Goals as goal

pub returns : goal.returns
unfolding add four_bytes
returns c =
    table_four _ c.args.word.now c.to_be_bytes.result c.args.r _ _ _ _ c.args.self.now.sound (omega arith) (search rules) c.fits-word c.to_be_bytes.ensures
    c.from.ensures c.from-2.ensures c.from-3.ensures c.from-4.ensures
