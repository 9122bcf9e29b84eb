-- `field::Logs::product` meets its contract: 0 where a factor is 0, and else the power of α at the sum of the logarithms. Assumes nothing.
use mathlib.Core.Path.{◌≡◌, sym, ap, ◌∙◌}
use mathlib.Core.List.{List}
use Prim.Native.Nat.{ℕ, ◌+◌, ◌<◌}
use native.Mathlib.Omega.{arith}
use lib.ListN.{get_or}
use Rattle.field.specs.Field.{mul}
use Rattle.field.proofs.Field.{zero-mul, mul-zero}
use Rattle.field.proofs.Tables.{log-lt, product_log}
use Rattle.field.specs.Inner.{LogTable}
use Rattle.field.proofs.Logs.product.Goals as goal
use Rattle.field.proofs.Logs.product.Goals.{then-a-eq0-via-then-a-eq0, then-a-eq0-via-else-a-eq0+then-b-eq0}

pub returns-then-a-eq0 : goal.returns-then-a-eq0
returns-then-a-eq0 c =
    elim c.then-a-eq0.branch [
      | then-a-eq0-via-then-a-eq0 w ↦ sym (ap (λ (x : ℕ). mul x c.args.b) w.if-a-eq0.true ∙ zero-mul c.args.b)
      | then-a-eq0-via-else-a-eq0+then-b-eq0 w ↦ sym (ap (mul c.args.a) w.if-b-eq0.true ∙ mul-zero c.args.a)
    ]

-- two logarithms are indices of one power
small :
    (logs : List ℕ) → LogTable logs → (a b i j : ℕ) → (a ≡ 0 → ⊥) → (b ≡ 0 → ⊥) → a < 256 → b < 256 → i ≡ get_or logs a 0 → j ≡ get_or logs b 0
    → i + j < 512
small logs table a b i j ha hb la lb ei ej = omega (arith, log-lt logs table a i ha la ei, log-lt logs table b j hb lb ej)

pub overflow_add-result : goal.overflow_add-result
overflow_add-result c =
    omega (
      arith,
      small c.args.self.now.table c.args.self.now.sound c.args.a c.args.b c.from-i.result c.from-j.result c.if-a-eq0.false c.if-b-eq0.false (omega arith) (omega arith)
          (c.from-i.ensures ∙ ap (λ (x : ℕ). get_or c.args.self.now.table x 0) c.from.ensures) (c.from-j.ensures ∙ ap (λ (x : ℕ). get_or c.args.self.now.table x 0) c.from-2.ensures),
    )

pub overflow_add-result-2 : goal.overflow_add-result-2
overflow_add-result-2 c =
    omega (
      arith,
      small c.args.self.now.table c.args.self.now.sound c.args.a c.args.b c.from-i.result c.from-j.result c.if-a-eq0.false c.if-b-eq0.false (omega arith) (omega arith)
          (c.from-i.ensures ∙ ap (λ (x : ℕ). get_or c.args.self.now.table x 0) c.from.ensures) (c.from-j.ensures ∙ ap (λ (x : ℕ). get_or c.args.self.now.table x 0) c.from-2.ensures),
    )

pub bounds-self-i : goal.bounds-self-i
bounds-self-i c =
    omega (
      arith,
      small c.args.self.now.table c.args.self.now.sound c.args.a c.args.b c.from-i.result c.from-j.result c.if-a-eq0.false c.if-b-eq0.false (omega arith) (omega arith)
          (c.from-i.ensures ∙ ap (λ (x : ℕ). get_or c.args.self.now.table x 0) c.from.ensures) (c.from-j.ensures ∙ ap (λ (x : ℕ). get_or c.args.self.now.table x 0) c.from-2.ensures),
    )

pub returns : goal.returns
returns c = let a = c.args in
    product_log a.self.now.table a.self.now.sound a.a a.b c.from-i.result c.from-j.result
    c.if-a-eq0.false (omega arith) c.if-b-eq0.false (omega arith)
    (c.from-i.ensures ∙ ap (λ (x : ℕ). get_or a.self.now.table x 0) c.from.ensures)
    (c.from-j.ensures ∙ ap (λ (x : ℕ). get_or a.self.now.table x 0) c.from-2.ensures)
