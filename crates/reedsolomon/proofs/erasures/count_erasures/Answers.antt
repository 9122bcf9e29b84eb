-- `erasures::count_erasures` meets its contract: the marked bytes before i are counted. Assumes nothing.
use mathlib.Core.Path.{◌≡◌, ap, ◌∙◌}
use native.Mathlib.Omega.{arith}
use borrow.Author.Tests.{eq-eqb, ne_eqb}
use lib.ListN.{length, get_or}
use Rattle.codes.specs.Erasures.{is_erased, erasure_count}
use Rattle.lists.specs.Count.{bit, count_from}
use Rattle.lists.proofs.Count.{count_snoc, count-le}
use Rattle.reedsolomon.proofs.erasures.count_erasures.Goals as goal
use Rattle.reedsolomon.proofs.erasures.count_erasures.Goals.{then-mark-eq1, else-mark-eq1}

pub overflow_add-count : goal.overflow_add-count
overflow_add-count c =
    let m = c.args.erasures.now in
    omega (arith, c.loop-mark.invariant, count-le (is_erased m) 0 c.loop-mark.mark-index)

pub loop-mark-preserved : goal.loop-mark-preserved
loop-mark-preserved c =
    let m = c.args.erasures.now in
    let i = c.loop-mark.mark-index in
    let more = count_snoc (is_erased m) i in
    elim c.if-mark-eq1.branch [
      | then-mark-eq1 marked ↦
          omega (arith, marked.count-is, c.loop-mark.invariant, more, ap bit (eq-eqb (get_or m i 0) 1 marked.if-mark-eq1.true))
      | else-mark-eq1 other ↦
          omega (arith, other.count-is, c.loop-mark.invariant, more, ap bit (ne_eqb (get_or m i 0) 1 other.if-mark-eq1.false))
    ]

pub returns : goal.returns
unfolding erasure_count
returns c =
    let m = c.args.erasures.now in
    let all : c.loop-mark.mark-index ≡ length m = omega arith in
    c.from.ensures ∙ c.loop-mark.invariant ∙ ap (count_from (is_erased m) 0) all
