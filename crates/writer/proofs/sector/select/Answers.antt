-- `writer::sector::select` meets its contract.
-- Assumes nothing.
use native.Mathlib.Omega.{arith}
use lib.ListN.{length-take}
use Rattle.writer.proofs.sector.select.Goals as goal

pub slice_bounds-result-end : goal.slice_bounds-result-end
slice_bounds-result-end c = simp length-take (omega arith)

pub returns-then-first : goal.returns-then-first
returns-then-first c = simp c.if-first.true

pub slice_bounds-result-end-2 : goal.slice_bounds-result-end-2
slice_bounds-result-end-2 c = simp length-take (omega arith)

pub returns : goal.returns
returns c = simp c.if-first.false
