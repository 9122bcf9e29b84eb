-- `writer::refusal::sectors_refusal` meets its contract.
-- Assumes nothing.
use mathlib.Core.Path.{◌∙◌}
use mathlib.Core.Bool.{true}
use borrow.Author.Tests.{eq-eqb}
use Rattle.writer.proofs.Sound.{sectors_length, sectors_by}
use Rattle.writer.proofs.refusal.sectors_refusal.Goals as goal

pub returns-then-from-ne-BLOCK_SIZE : goal.returns-then-from-ne-BLOCK_SIZE
returns-then-from-ne-BLOCK_SIZE c = sectors_length c.args.current _ _ c.then-from-ne-BLOCK_SIZE.either

pub returns : goal.returns
returns c =
    c.block_refusal.ensures
    ∙ sectors_by c.args.current _ _ true true (eq-eqb _ _ c.if-from-ne-BLOCK_SIZE.false) (eq-eqb _ _ c.if-to-ne-SECTORS_STREAM.false)
