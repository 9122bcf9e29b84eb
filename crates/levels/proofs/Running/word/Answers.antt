-- `levels::Running::word` meets its contract.
-- Assumes nothing.
use Rattle.levels.proofs.Steps.{other_state}
use Rattle.levels.proofs.Running.word.Goals as goal

pub returns : goal.returns
returns c = other_state _ _ _ _ c.half.ensures
