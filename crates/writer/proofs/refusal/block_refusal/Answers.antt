-- `writer::refusal::block_refusal` meets its contract.
-- Assumes nothing.
use Rattle.writer.specs.Answers.{block_refusal}
use Rattle.writer.proofs.refusal.block_refusal.Goals as goal

pub returns : goal.returns
unfolding block_refusal
returns c = c.takes.ensures
