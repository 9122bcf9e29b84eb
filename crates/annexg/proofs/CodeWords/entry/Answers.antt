-- `annexg::CodeWords::entry` meets its contract: the substitution table's half. An index past the table's end finds 0, as the definition does.
-- Assumes nothing.
use mathlib.Core.Path.{ap₂, ◌∙◌}
use Prim.Native.Nat.{ℕ, ◌+◌, ◌*◌}
use native.Mathlib.Omega.{arith}
use lib.ListN.{get_or}
use Rattle.annexg.specs.Read.{table_of}
use Rattle.annexg.proofs.Search.{sub_read, sub_past}
use Rattle.annexg.proofs.CodeWords.entry.Goals as goal

pub returns-then-at-lt352 : goal.returns-then-at-lt352
returns-then-at-lt352 c =
    sub_read _ _ _ c.if-table-eq0.false c.args.self.now.substitutes_value
    ∙ ap₂ (λ (b s : ℕ). get_or (table_of c.args.table) (b * 4 + s) 0) c.from.ensures c.from-2.ensures

pub returns-else-at-lt352 : goal.returns-else-at-lt352
returns-else-at-lt352 c = sub_past _ _ c.if-table-eq0.false (omega arith)
