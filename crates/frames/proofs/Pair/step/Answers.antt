-- `frames::Pair::step` meets its contract.
-- Assumes nothing.
use Rattle.frames.proofs.Choices.{step_shown}
use Rattle.frames.proofs.Words.{worded}
use Rattle.frames.proofs.Pair.step.Goals as goal

pub returns : goal.returns
returns c t s =
    let ready = c.even-pair.ensures.ready in
    step_shown
    (record {
      plan = c.plan-plan.ensures;
      evened = c.even-pair.ensures;
      one = worded ready.one.long (c.word.ensures.value, c.word.ensures.buffer_after);
      two = worded ready.two.long (c.word-2.ensures.value, c.word-2.ensures.buffer_after);
    })
    t s
