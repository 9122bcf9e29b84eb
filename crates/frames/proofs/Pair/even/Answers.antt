-- `frames::Pair::even` meets its contract.
-- Assumes nothing.
use Rattle.frames.proofs.Copies.{even_none, even_first, even_second}
use Rattle.frames.proofs.Pair.even.Goals as goal

pub returns-then-not-copy : goal.returns-then-not-copy
returns-then-not-copy c = even_none (c.if-not-copy.true) c.requires

pub returns-then-first : goal.returns-then-first
returns-then-first c = even_first (c.if-not-copy.false) c.if-first.true c.requires c.put.ensures

pub returns : goal.returns
returns c = even_second (c.if-not-copy.false) c.if-first.false c.requires c.put-2.ensures
