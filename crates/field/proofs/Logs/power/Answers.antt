-- `field::Logs::power` meets its contract: at the head of each turn the accumulator times base^left is the power asked for. Assumes nothing.
use mathlib.Core.Path.{◌≡◌, sym, ap, ap₂, ◌∙◌}
use Prim.Native.Nat.{ℕ, ◌/◌}
use native.Mathlib.Omega.{arith}
use Rattle.field.specs.Field.{mul, pow}
use Rattle.field.proofs.Field.{one-mul, mul-one}
use Rattle.field.proofs.Powers.{pow-zero, pow-lt, mul-pow_even, mul-pow_odd}
use Rattle.field.proofs.Logs.power.Goals as goal
use Rattle.field.proofs.Logs.power.Goals.{then-left-eq1, else-left-eq1}

-- 1 · a^n = a^n
pub loop-left-init : goal.loop-left-init
loop-left-init c = let a = c.args.a in
    (omega arith, omega arith, one-mul (pow a c.args.n) (pow-lt a (omega arith) c.args.n))

-- a bit that is one: (accumulator · base) · (base²)^(left/2) = accumulator · base^left
-- a bit that is zero: accumulator · (base²)^(left/2) = accumulator · base^left
pub loop-left-preserved : goal.loop-left-preserved
loop-left-preserved c =
    let squared = c.product-base.ensures in
    elim c.if-left-eq1.branch [
      | then-left-eq1 w ↦ (
        omega (arith, w.accumulator-is),
        omega arith,
        ap₂ (λ x y. mul x (pow y (c.loop-left.left / 2))) (w.accumulator-is ∙ w.product-accumulator.ensures) squared
            ∙ mul-pow_odd c.loop-left.accumulator c.loop-left.base c.loop-left.left c.loop-left.invariant.1 w.if-left-eq1.true ∙ c.loop-left.invariant.2,
      )
      | else-left-eq1 w ↦ (
        omega (arith, w.accumulator-is),
        omega arith,
        ap₂ (λ x y. mul x (pow y (c.loop-left.left / 2))) w.accumulator-is squared
            ∙ mul-pow_even c.loop-left.accumulator c.loop-left.base c.loop-left.left c.loop-left.invariant.1 (omega (arith, w.if-left-eq1.false)) ∙ c.loop-left.invariant.2,
      )
    ]

-- with no bit left: accumulator = accumulator · base^0
pub returns : goal.returns
returns c = let ended : c.loop-left.left ≡ 0 = omega arith in
    sym (ap (λ (k : ℕ). mul c.loop-left.accumulator (pow c.loop-left.base k)) ended ∙ ap (mul c.loop-left.accumulator) (pow-zero c.loop-left.base)
    ∙ mul-one c.loop-left.accumulator c.loop-left.invariant.0) ∙ c.loop-left.invariant.2
