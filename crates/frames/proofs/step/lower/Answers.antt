-- `frames::step::lower` meets its contract.
-- Assumes nothing.
use Rattle.frames.proofs.step.lower.Goals as goal

pub returns : goal.returns
returns c = (cc)
