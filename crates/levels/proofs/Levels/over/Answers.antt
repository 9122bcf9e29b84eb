-- `levels::Levels::over` meets its contract.
-- Assumes nothing.
use mathlib.Core.Path.{◌≡◌, ap, ◌∙◌}
use native.Mathlib.Omega.{arith}
use Rattle.levels.specs.Inner.{byte_levels}
use Rattle.levels.proofs.HalfWords.{entry_most, from_zero, from_one}
use Rattle.levels.proofs.Levels.over.Goals as goal

pub overflow_sub-result : goal.overflow_sub-result
overflow_sub-result c = entry_most c.args.self.now.table _ c.args.self.now.table_value (omega arith)

pub returns-then-level-eq0-clause-value : goal.returns-then-level-eq0-clause-value
returns-then-level-eq0-clause-value c =
    let a = c.args in
    from_zero a.self.now.table a.level _ a.self.now.table_value (omega arith) c.if-level-eq0.true ∙ ap (byte_levels a.level) c.from.ensures

pub returns-then-level-eq0-clause-upper_bound : goal.returns-then-level-eq0-clause-upper_bound
returns-then-level-eq0-clause-upper_bound c = entry_most c.args.self.now.table _ c.args.self.now.table_value (omega arith)

pub returns-else-level-eq0-clause-value : goal.returns-else-level-eq0-clause-value
returns-else-level-eq0-clause-value c =
    let a = c.args in
    let one : a.level ≡ 1 = omega (arith, c.if-level-eq0.false, c.requires) in
    from_one a.self.now.table a.level _ a.self.now.table_value (omega arith) one ∙ ap (byte_levels a.level) c.from.ensures
