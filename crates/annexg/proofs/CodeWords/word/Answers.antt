-- `annexg::CodeWords::word` meets its contract.
-- Assumes nothing.
use native.Mathlib.Omega.{arith}
use Rattle.annexg.proofs.Figure.{entry_below}
use Rattle.annexg.proofs.CodeWords.word.Goals as goal

pub overflow_cast-result : goal.overflow_cast-result
overflow_cast-result c = let a = c.args in
    omega (arith, c.entry.ensures, entry_below a.table a.byte a.column)
