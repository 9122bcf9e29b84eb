-- `field::Logs::quotient` meets its contract. Assumes nothing.
use mathlib.Core.Path.{ap, ◌∙◌}
use Rattle.field.specs.Field.{mul}
use Rattle.field.proofs.Logs.quotient.Goals as goal

pub returns : goal.returns
returns c = c.product.ensures ∙ ap (mul c.args.a) c.inverse.ensures
