-- `formulas::equations_solved` meets its contract. Assumes nothing.
use mathlib.Core.Path.{ap₂, ◌∙◌}
use Prim.Native.Nat.{ℕ}
use Rattle.field.specs.Field.{add, mul, inverse}
use Rattle.lightrepair.proofs.formulas.equations_solved.Goals as goal

pub returns : goal.returns
unfolding add
returns c = (
  c.quotient.ensures ∙ ap₂ (λ (n d : ℕ). mul n (inverse d)) (ap₂ add c.product.ensures c.product-2.ensures) c.requires,
  c.quotient-2.ensures ∙ ap₂ (λ (n d : ℕ). mul n (inverse d)) (ap₂ add c.product-3.ensures c.product-4.ensures) c.requires,
)
