-- `formulas::one_error` meets its contract: the formulas explain the sums, or no one wrong byte does. Assumes nothing.
use mathlib.Core.Path.{sym, ap, subst, ◌∙◌}
use mathlib.Core.Bool.{false≢true}
use Prim.Native.Nat.{ℕ, ◌<◌}
use native.Mathlib.Omega.{arith}
use borrow.Author.Rules.{rules}
use Rattle.field.proofs.Tables.{same_logarithm}
use Rattle.codes.specs.Inner.{at, follows}
use Rattle.codes.proofs.Formulas.{over_nonzero, one_explains}
use Rattle.layout.specs.Lengths.{row_size, inner_size}
use Rattle.lightrepair.proofs.Found.{no_one, at_small}
use Rattle.lightrepair.proofs.formulas.one_error.Goals as goal
use Rattle.lightrepair.proofs.formulas.one_error.Goals.{then-value-eq0-via-then-value-eq0, then-value-eq0-via-else-value-eq0+then-sums-eq0}

pub returns-then-value-eq0 : goal.returns-then-value-eq0
returns-then-value-eq0 c =
    let s = c.args.sums in
    elim c.then-value-eq0.branch [
      | then-value-eq0-via-then-value-eq0 x ↦ no_one s (λ e l w. w.first x.if-value-eq0.true)
      | then-value-eq0-via-else-value-eq0+then-sums-eq0 x ↦ no_one s (λ e l w. w.second x.if-sums-eq0.true)
    ]

pub returns-then-not-sums_follow : goal.returns-then-not-sums_follow
returns-then-not-sums_follow c =
    let s = c.args.sums in
    no_one s
    (λ e l w. false≢true
    (sym c.if-not-sums_follow.true ∙ c.sums_follow.ensures
    ∙ ap (λ (x : ℕ). follows (at s) inner_size x 0) c.quotient-x.ensures ∙ w.follow))

pub logarithm-place-requires : goal.logarithm-place-requires
logarithm-place-requires c =
    let s = c.args.sums in
    subst (λ (x : ℕ). 0 < x) (sym c.quotient-x.ensures)
    (over_nonzero (at s 1) (at s 0) (at_small s (λ j. search rules) 1) (at_small s (λ j. search rules) 0) c.if-sums-eq0.false c.if-value-eq0.false)

pub returns-then-from-ge-ROW_SIZE : goal.returns-then-from-ge-ROW_SIZE
returns-then-from-ge-ROW_SIZE c =
    let s = c.args.sums in
    no_one s
    (λ e l w. omega (
      arith,
      l,
      same_logarithm c.logarithm-place.result e.place c.logarithm-place.ensures.upper_bound (omega arith)
          (c.logarithm-place.ensures.result_value ∙ c.quotient-x.ensures ∙ w.locator),
    ))

pub returns : goal.returns
returns c =
    let s = c.args.sums in
    one_explains (at s) inner_size row_size (at_small s (λ j. search rules)) c.logarithm-place.result c.if-value-eq0.false (omega arith)
    (c.logarithm-place.ensures.result_value ∙ c.quotient-x.ensures)
    (ap (λ (x : ℕ). follows (at s) inner_size x 0) (sym c.quotient-x.ensures)
    ∙ sym c.sums_follow.ensures ∙ c.if-not-sums_follow.false)
