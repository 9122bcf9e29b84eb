-- `erasures::take_out_erased` meets its contract: the marked bytes before i are taken out. Assumes nothing.
use mathlib.Core.Path.{◌≡◌, sym, ap, ◌∙◌}
use mathlib.Core.Bool.{true, false}
use mathlib.Core.List.{List}
use Prim.Native.Nat.{ℕ, suc, ◌+◌, ◌-◌}
use native.Mathlib.Omega.{arith}
use borrow.Author.Tests.{eq-eqb, ne_eqb}
use lib.ListN.{length, get_or}
use Rattle.codes.specs.Erasures.{is_erased}
use Rattle.codes.specs.Inner.{at, erased_place, without, without_marked}
use Rattle.lists.proofs.Fill.{length-tabulate}
use Rattle.field.specs.Field.{pow}
use Rattle.reedsolomon.proofs.Loops.{marked_take, marked_skip, without_at}
use Rattle.reedsolomon.proofs.erasures.take_out_erased.Goals as goal
use Rattle.reedsolomon.proofs.erasures.take_out_erased.Goals.{then-mark-eq1, else-mark-eq1}

pub loop-i-preserved : goal.loop-i-preserved
loop-i-preserved c =
    let m = c.args.erasures.now in
    let i : ℕ = c.loop-i.i in
    -- the byte's place is k - 1
    let k : ℕ = length m - i in
    let place : length m - suc (k - 1) ≡ i = omega arith in
    let last : length m - (i + 1) ≡ k - 1 = omega arith in
    elim c.if-mark-eq1.branch [
      | then-mark-eq1 marked ↦
          let taken = marked.syndromes-is ∙ marked.take_out.ensures in
          let here : erased_place m (k - 1) ≡ true = ap (is_erased m) place ∙ eq-eqb (get_or m i 0) 1 marked.if-mark-eq1.true in (
            ap length taken ∙ length-tabulate _ (length c.loop-i.syndromes) ∙ c.loop-i.invariant.0,
            λ j.
                ap (λ (n : ℕ). without_marked (erased_place m) n (at c.if-mark-eq1.syndromes) j) last
                ∙ marked_take (erased_place m) k (omega arith) (at c.loop-i.syndromes) here (at c.if-mark-eq1.syndromes)
                (λ i. without_at _ c.loop-i.syndromes c.if-mark-eq1.syndromes taken i ∙ ap (λ (x : ℕ). without x (at c.loop-i.syndromes) i) (marked.alpha_power-x.ensures ∙ ap (pow 2) (omega arith))) j ∙ c.loop-i.invariant.1 j,
          )
      | else-mark-eq1 other ↦
          let here : erased_place m (k - 1) ≡ false = ap (is_erased m) place ∙ ne_eqb (get_or m i 0) 1 other.if-mark-eq1.false in (
            ap length other.syndromes-is ∙ c.loop-i.invariant.0,
            λ j.
                ap (λ (n : ℕ). without_marked (erased_place m) n (at c.if-mark-eq1.syndromes) j) last
                ∙ ap (λ (s : List ℕ). without_marked (erased_place m) (k - 1) (at s) j) other.syndromes-is ∙ marked_skip (erased_place m) k (omega arith) (at c.loop-i.syndromes) here j ∙ c.loop-i.invariant.1 j,
          )
    ]

pub returns : goal.returns
unfolding without_marked
returns c j =
    let m = c.args.erasures.now in
    let e : length m - c.loop-i.i ≡ 0 = omega arith in
    ap (λ (k : ℕ). without_marked (erased_place m) k (at c.loop-i.syndromes) j) (sym e) ∙ c.loop-i.invariant.1 j
