-- `levels::Running::half` meets its contract.
-- Assumes nothing.
use Rattle.levels.proofs.HalfWords.{half_by_bytes}
use Rattle.levels.proofs.Running.half.Goals as goal

pub returns : goal.returns
returns c =
    rw c.from.ensures
    (half_by_bytes c.args.self c.args.half _ _ c.requires.level c.requires.low c.over-first.ensures.value c.over-second.ensures.value)
