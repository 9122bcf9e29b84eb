-- `block::column_at` meets its contract: all of the column is taken. Assumes nothing.
use mathlib.Core.Path.{◌∙◌}
use native.Mathlib.Omega.{arith}
use lib.Seq.{take_all}
use Rattle.layout.specs.Rows.{column_of}
use Rattle.layout.proofs.Places.{column_length}
use Rattle.layout.proofs.block.column_at.Goals as goal

pub returns : goal.returns
returns c = let xs = c.args.block.now in
    let j = c.args.j in
    c.column_part.ensures ∙ take_all 208 (column_of xs j) (omega (arith, column_length xs j))
