-- `field::Logs::inverse` meets its contract: 0 for 0, and else the power of α at 255 less the logarithm. Assumes nothing.
use mathlib.Core.Path.{sym, ap, ◌∙◌}
use Prim.Native.Nat.{ℕ}
use native.Mathlib.Omega.{arith}
use lib.ListN.{get_or}
use Rattle.field.specs.Field.{inverse}
use Rattle.field.proofs.Inverse.{inverse-zero}
use Rattle.field.proofs.Tables.{log-lt, inverse-log}
use Rattle.field.proofs.Logs.inverse.Goals as goal

pub returns-then-a-eq0 : goal.returns-then-a-eq0
returns-then-a-eq0 c = sym (ap inverse c.if-a-eq0.true ∙ inverse-zero)

pub overflow_sub-result : goal.overflow_sub-result
overflow_sub-result c = omega (
  arith,
  log-lt c.args.self.now.table c.args.self.now.sound c.args.a c.from-i.result c.if-a-eq0.false (omega arith)
      (c.from-i.ensures ∙ ap (λ (x : ℕ). get_or c.args.self.now.table x 0) c.from.ensures),
)

pub returns : goal.returns
returns c = inverse-log c.args.self.now.table c.args.self.now.sound c.args.a c.from-i.result c.if-a-eq0.false (omega arith)
    (c.from-i.ensures ∙ ap (λ (x : ℕ). get_or c.args.self.now.table x 0) c.from.ensures)
