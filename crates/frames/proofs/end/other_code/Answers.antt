-- `frames::end::other_code` meets its contract.
-- Assumes nothing.
use mathlib.Core.Path.{sym, ◌∙◌}
use borrow.Author.Tests.{eq-eqb, ne_eqb}
use Rattle.frames.proofs.end.other_code.Goals as goal

pub returns-then-half_at-primary : goal.returns-then-half_at-primary
returns-then-half_at-primary c =
    let first = sym c.half_at.ensures ∙ c.if-half_at-primary.true ∙ c.code-primary.ensures in
    rw (eq-eqb _ _ first) c.code.ensures

pub returns : goal.returns
returns c =
    let first = c.half_at.ensures in
    let primary = c.code-primary.ensures in
    rw (ne_eqb _ _ (λ e. c.if-half_at-primary.false (first ∙ e ∙ sym primary))) primary
