-- `block::column_end` meets its contract: what is taken reaches the end of the column. Assumes nothing.
use mathlib.Core.Path.{◌∙◌}
use native.Mathlib.Omega.{arith}
use lib.ListN.{drop, length-drop}
use lib.Seq.{take_all}
use Rattle.layout.specs.Rows.{column_of}
use Rattle.layout.proofs.Places.{column_length}
use Rattle.layout.proofs.block.column_end.Goals as goal

pub returns : goal.returns
returns c = let xs = c.args.block.now in
    let j = c.args.j in
    c.column_part.ensures ∙ take_all 16 (drop 192 (column_of xs j)) (rw length-drop (omega (arith, column_length xs j)))
