-- `mend::error_value` meets its contract. Assumes nothing.
use mathlib.Core.Path.{◌≡◌, refl, sym, ap, ap₂, ◌∙◌}
use mathlib.Core.List.{List}
use Prim.Native.Nat.{ℕ}
use lib.ListN.{length}
use Rattle.field.specs.Field.{add, mul, inverse}
use Rattle.lists.proofs.Fill.{length-tabulate}
use Rattle.codes.specs.Inner.{at, without_others, spread, error_value}
use Rattle.reedsolomon.proofs.Loops.{others_skip, spread_skip, spread-take, others_next}
use native.Mathlib.Omega.{arith}
use borrow.Author.Rules.{rules}
use Rattle.reedsolomon.proofs.mend.error_value.Goals as goal
use Rattle.reedsolomon.proofs.mend.error_value.Goals.{then-l-j, else-l-j}

pub loop-l-init : goal.loop-l-init
unfolding without_others spread
loop-l-init g c = (search rules, λ i. refl, refl)

pub loop-l-preserved : goal.loop-l-preserved
unfolding add
loop-l-preserved g c =
    let ks : List ℕ = c.args.places.now in
    elim c.if-l-j.branch [
      | then-l-j w ↦ (
        ap length (w.rest-is ∙ w.take_out.ensures) ∙ length-tabulate _ (length c.loop-l.rest) ∙ c.loop-l.invariant.0,
        others_next ks c.args.syndromes c.loop-l.rest c.if-l-j.rest c.args.j c.loop-l.l _ w.if-l-j.true w.alpha_power-y.ensures (w.rest-is ∙ w.take_out.ensures) c.loop-l.invariant.1,
        w.d-is ∙ w.product-d.ensures ∙ ap₂ mul c.loop-l.invariant.2 (ap (add c.alpha_power-x.result) w.alpha_power-y.ensures) ∙ sym (spread-take ks c.args.j c.loop-l.l w.if-l-j.true c.alpha_power-x.result),
      )
      | else-l-j w ↦ (
        ap length w.rest-is ∙ c.loop-l.invariant.0,
        (λ i. ap (λ (r : List ℕ). at r i) w.rest-is ∙ c.loop-l.invariant.1 i ∙ sym (others_skip ks c.args.j c.loop-l.l w.if-l-j.false (at c.args.syndromes) i)),
        w.d-is ∙ c.loop-l.invariant.2 ∙ sym (spread_skip ks c.args.j c.loop-l.l w.if-l-j.false c.alpha_power-x.result),
      )
    ]

pub returns : goal.returns
unfolding error_value
returns g c =
    let e : c.loop-l.l ≡ length c.args.places.now = omega arith in
    let x = c.alpha_power-x.ensures in
    c.quotient.ensures
    ∙ ap₂ (λ (r d : ℕ). mul r (inverse d)) (c.loop-l.invariant.1 0 ∙ ap (λ (n : ℕ). without_others c.args.places.now c.args.j n (at c.args.syndromes) 0) e)
    (c.loop-l.invariant.2 ∙ ap₂ (λ (n y : ℕ). spread c.args.places.now c.args.j n y) e x)
