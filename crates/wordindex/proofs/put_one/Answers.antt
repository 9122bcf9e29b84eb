-- `wordindex::put_one` meets its contract. Assumes nothing.
use mathlib.Core.Path.{sym, ◌∙◌}
use Rattle.wordindex.proofs.IndexSteps.{slot_taken, slot_left}
use Rattle.wordindex.proofs.put_one.Goals as goal

pub returns-then-agrees_with : goal.returns-then-agrees_with
returns-then-agrees_with c =
    let a = c.args in
    slot_taken a.zero a.number a.entry a.index.now _ (sym c.agrees_with.ensures ∙ c.if-agrees_with.true) c.slot_of-at.ensures.value

pub returns-else-agrees_with : goal.returns-else-agrees_with
returns-else-agrees_with c =
    let a = c.args in
    slot_left a.zero a.number a.entry a.index.now (sym c.agrees_with.ensures ∙ c.if-agrees_with.false)
