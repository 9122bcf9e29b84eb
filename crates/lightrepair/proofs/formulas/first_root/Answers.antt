-- `formulas::first_root` meets its contract: no place before k has a root for its locator. Assumes nothing.
use mathlib.Core.Path.{◌≡◌, sym, ap, ◌∙◌}
use Prim.Native.Nat.{ℕ}
use native.Mathlib.Omega.{arith}
use borrow.Author.Count.{below_more}
use borrow.Author.Tests.{eq-eqb, ne_eqb}
use Rattle.field.specs.Field.{add, mul, pow}
use Rattle.lightrepair.proofs.formulas.first_root.Goals as goal

-- x is the locator of place k, and p what the code has for x (x + a)
value : (a k x p : ℕ) → x ≡ pow 2 k → p ≡ mul x (add x a) → p ≡ mul (pow 2 k) (add (pow 2 k) a)
value a k x p ex ep = ep ∙ ap (λ (x : ℕ). mul x (add x a)) ex

pub returns-then-product-b : goal.returns-then-product-b
unfolding add
returns-then-product-b c =
    let a = c.args.a in
    let k = c.loop-k.k in
    let is = value a k c.alpha_power-x.result c.product.result c.alpha_power-x.ensures c.product.ensures in
    (omega arith, eq-eqb (mul (pow 2 k) (add (pow 2 k) a)) c.args.b (sym is ∙ c.if-product-b.true), c.loop-k.invariant)

pub loop-k-preserved : goal.loop-k-preserved
unfolding add
loop-k-preserved c =
    let a = c.args.a in
    let k = c.loop-k.k in
    let is = value a k c.alpha_power-x.result c.product.result c.alpha_power-x.ensures c.product.ensures in
    below_more _ _ c.loop-k.invariant (ne_eqb (mul (pow 2 k) (add (pow 2 k) a)) c.args.b (λ e. c.if-product-b.false (is ∙ e)))

pub returns : goal.returns
returns c = λ j l. c.loop-k.invariant j (omega arith)
