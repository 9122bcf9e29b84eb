-- `Remainder::plus_last` meets its contract. Assumes nothing.
use mathlib.Core.Path.{ap}
use Rattle.field.specs.Field.{add}
use Rattle.multiples.specs.Inner.{high, low}
use Rattle.division.proofs.register.Remainder.plus_last.Goals as goal

pub returns : goal.returns
unfolding add high low
returns c =
    let left = c.args.self in
    record {
      high_value = ap (add left.high) c.eight.ensures;
      low_value = ap (add left.low) c.eight-2.ensures;
    }
