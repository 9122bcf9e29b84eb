-- `formulas::equations_determinant` meets its contract. Assumes nothing.
use mathlib.Core.Path.{ap₂}
use Rattle.field.specs.Field.{add}
use Rattle.lightrepair.proofs.formulas.equations_determinant.Goals as goal

pub returns : goal.returns
unfolding add
returns c = ap₂ add c.product.ensures c.product-2.ensures
