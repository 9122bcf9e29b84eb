-- `zeroruns::joins` meets its contract.
-- Assumes nothing.
use mathlib.Core.Path.{◌∙◌}
use native.Mathlib.Omega.{arith}
use borrow.Author.Tests.{lt-leb}
use Rattle.zeroruns.proofs.Zeros.{join_zeros_lem, inside-low, inside-high}
use Rattle.zeroruns.proofs.joins.Goals as goal

pub returns-then-n-ge2 : goal.returns-then-n-ge2
returns-then-n-ge2 c = let a = c.args in inside-high _ _ (join_zeros_lem a.first a.second (omega arith)) c.if-n-ge2.true

pub returns-else-n-ge2 : goal.returns-else-n-ge2
returns-else-n-ge2 c = let a = c.args in lt-leb 2 _ c.if-n-ge2.false ∙ inside-low _ _ (join_zeros_lem a.first a.second (omega arith)) c.if-n-ge2.false
