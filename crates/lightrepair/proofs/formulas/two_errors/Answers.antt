-- `formulas::two_errors` meets its contract: what is found explains the sums, or no two wrong bytes do. Assumes nothing.
use mathlib.Core.Path.{sym, ap₂, ◌∙◌}
use mathlib.Core.Bool.{false≢true}
use Rattle.codes.specs.Inner.{at, follows}
use Rattle.layout.specs.Lengths.{inner_size}
use Rattle.lightrepair.proofs.Found.{weaker, no_two}
use Rattle.lightrepair.proofs.formulas.two_errors.Goals as goal
use Rattle.lightrepair.proofs.formulas.two_errors.Goals.{then-a-eq0-via-then-a-eq0, then-a-eq0-via-else-a-eq0+then-b-eq0, then-a-eq0-via-else-a-eq0+else-b-eq0+then-not-sums_follow}

pub returns-then-d-eq0 : goal.returns-then-d-eq0
returns-then-d-eq0 c =
    let s = c.args.sums in
    no_two s (λ e f k l w. w.regular (sym c.equations_determinant-d.ensures ∙ c.if-d-eq0.true))

pub returns-then-a-eq0 : goal.returns-then-a-eq0
returns-then-a-eq0 c =
    let s = c.args.sums in
    let solved = c.equations_solved-a.ensures in
    elim c.then-a-eq0.branch [
      | then-a-eq0-via-then-a-eq0 x ↦ no_two s (λ e f k l w. w.apart (sym w.sum ∙ sym solved.0 ∙ x.if-a-eq0.true))
      | then-a-eq0-via-else-a-eq0+then-b-eq0 x ↦ no_two s (λ e f k l w. w.solid (sym w.product ∙ sym solved.1 ∙ x.if-b-eq0.true))
      | then-a-eq0-via-else-a-eq0+else-b-eq0+then-not-sums_follow x ↦
          no_two s (λ e f k l w. false≢true (sym x.if-not-sums_follow.true ∙ x.sums_follow.ensures ∙ ap₂ (follows (at s) inner_size) solved.0 solved.1 ∙ w.follow))
    ]

pub returns : goal.returns
returns c =
    let s = c.args.sums in
    weaker _ _ _
    (λ none. no_two s
    (λ e f k l w. none e.place f.place k l (c.equations_solved-a.ensures.0 ∙ w.sum) (c.equations_solved-a.ensures.1 ∙ w.product)))
    c.two_places.result c.two_places.ensures
