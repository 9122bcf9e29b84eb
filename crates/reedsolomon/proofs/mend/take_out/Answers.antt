-- `mend::take_out` meets its contract. Assumes nothing.
use mathlib.Core.Path.{◌≡◌, refl, sym, ap, ap₂, ◌∙◌}
use mathlib.Core.List.{List}
use Prim.Native.Nat.{ℕ, ◌+◌, ◌-◌}
use lib.ListN.{length, get_or, set, length-set, get_or-eq_default}
use Rattle.field.specs.Field.{add, mul}
use Rattle.lists.proofs.Fill.{Upto, upto_none, upto_more, upto_all}
use native.Mathlib.Numerals.{add-one}
use Rattle.field.proofs.Field.{zero-add}
use Rattle.codes.specs.Inner.{at, without}
use native.Mathlib.Omega.{arith}
use Rattle.reedsolomon.proofs.mend.take_out.Goals as goal

pub loop-i-init : goal.loop-i-init
loop-i-init c = upto_none _ _

pub loop-i-preserved : goal.loop-i-preserved
unfolding add without
loop-i-preserved c =
    let u = c.loop-i.invariant in
    upto_more _ c.args.syndromes.now c.loop-i.syndromes c.loop-i.i _ (omega arith)
    (ap₂ add (u.left (c.loop-i.i + 1) (omega arith) ∙ ap (λ (k : ℕ). get_or c.args.syndromes.now k 0) (add-one c.loop-i.i))
    (c.product.ensures ∙ ap (mul c.args.x) (u.left c.loop-i.i (omega arith)))) u

pub shape_of-syndromes : goal.shape_of-syndromes
shape_of-syndromes c = length-set c.loop-i.syndromes (length c.args.syndromes.now - 1) c.product-2.result ∙ c.loop-i.invariant.same

pub returns : goal.returns
unfolding without
returns c =
    let xs : List ℕ = c.args.syndromes.now in
    let last : ℕ = length xs - 1 in
    let e : c.loop-i.i ≡ last = omega arith in
    let k : last + 1 ≡ length xs = omega arith in
    let u : Upto (without c.args.x (at xs)) xs c.loop-i.syndromes last = rw e at c.loop-i.invariant in
    let v : Upto (without c.args.x (at xs)) xs (set c.loop-i.syndromes last c.product-2.result) (last + 1) =
    upto_more _ xs c.loop-i.syndromes last c.product-2.result (omega arith)
    (c.product-2.ensures ∙ ap (mul c.args.x) (u.left last (omega arith))
    ∙ sym (ap (λ (y : ℕ). add y (mul c.args.x (get_or xs last 0))) (get_or-eq_default xs 0 (omega arith)) ∙ zero-add (mul c.args.x (get_or xs last 0)))) u in
    upto_all _ xs _ (length xs) refl (rw k at v)
