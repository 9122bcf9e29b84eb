-- `frames::step::can_swap` meets its contract: a case for each test.
-- Assumes nothing.
use mathlib.Core.Path.{sym, ◌∙◌}
use Rattle.frames.proofs.Choices.{swap_small, swap_state, swap_first, swap_second, swaps_in, swaps_out}
use Rattle.frames.proofs.step.can_swap.Goals as goal
use Rattle.frames.proofs.step.can_swap.Goals.{then-byte-lt88-via-then-byte-lt88, then-byte-lt88-via-else-byte-lt88+then-state-ne4}

pub returns-then-byte-lt88 : goal.returns-then-byte-lt88
returns-then-byte-lt88 c = elim c.then-byte-lt88.branch [
  | then-byte-lt88-via-then-byte-lt88 w ↦ swap_small _ _ _ w.if-byte-lt88.true
  | then-byte-lt88-via-else-byte-lt88+then-state-ne4 w ↦ swap_state _ _ _ w.if-byte-lt88.false (swaps_out w.if-state-ne4.true)
]

pub returns-then-joins : goal.returns-then-joins
returns-then-joins c =
    c.joins-then-joins.ensures
    ∙ swap_second _ _ _ c.if-byte-lt88.false (swaps_in c.if-state-ne4.either) _
    c.word.ensures (sym c.if-joins.ensures) _ c.word-then-joins.ensures

pub returns-else-joins : goal.returns-else-joins
returns-else-joins c =
    c.if-joins.false
    ∙ swap_first _ _ _ c.if-byte-lt88.false (swaps_in c.if-state-ne4.either) _
    c.word.ensures (sym c.if-joins.ensures)
