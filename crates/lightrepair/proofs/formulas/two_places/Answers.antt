-- `formulas::two_places` meets its contract: the two roots and the values explain the sums, or no two places have these roots. Assumes nothing.
use mathlib.Core.Path.{◌≡◌, sym, ap, ap₂, ◌∙◌}
use mathlib.Core.Bool.{true, false, false≢true}
use Prim.Native.Nat.{ℕ, ◌<◌}
use native.Mathlib.Omega.{arith}
use borrow.Author.Rules.{rules}
use borrow.Author.Tests.{eq-eqb, eqb-true}
use Rattle.field.specs.Field.{add, mul, pow, inverse}
use Rattle.field.proofs.Field.{add_cancel}
use Rattle.codes.specs.Inner.{at, is_locator}
use Rattle.codes.proofs.Formulas.{two_explain, other_inside, first_is_root, other_nonzero}
use Rattle.layout.specs.Lengths.{row_size, inner_size}
use Rattle.lightrepair.specs.Inner.{NoRoots}
use Rattle.lightrepair.proofs.Found.{at_small}
use Rattle.lightrepair.proofs.formulas.two_places.Goals as goal

-- no place has a root for its locator
none : (a b : ℕ) → ((k : ℕ) → k < row_size → is_locator a b (pow 2 k) ≡ false) → NoRoots a b row_size
none a b h k l hk hl ea eb = false≢true (sym (h k hk) ∙ eq-eqb (mul (pow 2 k) (add (pow 2 k) a)) b (first_is_root a b k l ea eb))

pub returns-in_err-place : goal.returns-in_err-place
returns-in_err-place c = rw c.from_residual.ensures (none c.args.a c.args.b c.in_err-place.ensures)

-- the locator of the place that was found is a root
root : (a b k : ℕ) → is_locator a b (pow 2 k) ≡ true → mul (pow 2 k) (add (pow 2 k) a) ≡ b
root a b k hit = eqb-true (mul (pow 2 k) (add (pow 2 k) a)) b hit

pub logarithm-other-requires : goal.logarithm-other-requires
unfolding add
logarithm-other-requires c =
    other_nonzero c.args.a c.args.b c.alpha_power-x.result
    (ap (λ (x : ℕ). mul x (add x c.args.a)) c.alpha_power-x.ensures ∙ root c.args.a c.args.b c.in_ok-place.place c.in_ok-place.ensures.1) c.requires.1

pub returns-then-from-ge-ROW_SIZE : goal.returns-then-from-ge-ROW_SIZE
unfolding add
returns-then-from-ge-ROW_SIZE c =
    let a = c.args in
    λ k l hk hl ea eb. omega (
      arith,
      other_inside row_size a.a a.b c.in_ok-place.place c.logarithm-other.result k l (omega arith) (root a.a a.b c.in_ok-place.place c.in_ok-place.ensures.1)
          (c.logarithm-other.ensures.result_value ∙ ap (λ (x : ℕ). add x c.args.a) c.alpha_power-x.ensures) c.logarithm-other.ensures.upper_bound hk hl ea eb,
    )

pub returns : goal.returns
unfolding add
returns c =
    let a = c.args in
    two_explain (at a.sums) inner_size row_size (at_small c.args.sums (λ j. search rules)) a.a a.b c.in_ok-place.place c.logarithm-other.result c.quotient-v.result
    (omega arith) (λ z. omega (arith, z, c.requires.0)) c.in_ok-place.ensures.0 (omega arith) (root a.a a.b c.in_ok-place.place c.in_ok-place.ensures.1)
    (c.logarithm-other.ensures.result_value ∙ ap (λ (x : ℕ). add x c.args.a) c.alpha_power-x.ensures)
    (c.quotient-v.ensures
    ∙ ap₂ (λ (t d : ℕ). mul (add (at a.sums 1) t) (inverse d))
    (c.product.ensures ∙ ap (λ (x : ℕ). mul x (at a.sums 0)) c.alpha_power-x.ensures) (add_cancel c.alpha_power-x.result a.a))
    c.requires.2
