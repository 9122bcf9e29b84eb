-- `Line::of_block` meets its contract. Assumes nothing.
use mathlib.Core.List.{List, ◌++◌}
use mathlib.Core.Path.{ap, ◌∙◌}
use Prim.Native.Nat.{ℕ}
use Rattle.std.specs.Prelude.{decimal}
use Rattle.sheetline.specs.Line.{sheet_line, hex_six, block_text, rows_text, columns_text, unknown_text, sync_text, newline, tally_text}
use Rattle.sheetline.proofs.Laying.{then, parts}
use Rattle.sheetline.proofs.line.Line.of_block.Goals as goal

pub returns : goal.returns
unfolding sheet_line
returns c =
    let r = c.args.read in
    let block = then _ c.new-line.ensures.text c.text.ensures.text in
    let first = then _ block c.text-2.ensures.text ∙ ap (λ (h : List ℕ). block_text ++ h) c.hex_six.ensures in
    let tallies = then _ (then _ first c.tally.ensures.text) c.tally-2.ensures.text in
    let sums = then _ (then _ tallies c.number.ensures.text) c.number-2.ensures.text in
    then _ sums c.end.ensures
    ∙ parts block_text (hex_six r.first) (tally_text rows_text r.tallies.rows) (tally_text columns_text r.tallies.columns) (unknown_text ++ decimal r.unknown) (sync_text ++ decimal r.sync) newline
