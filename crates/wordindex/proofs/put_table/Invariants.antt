-- `wordindex::put_table` meets its contract: the entries before k have taken their slots. Assumes nothing.
use mathlib.Core.Path.{◌≡◌}
use Rattle.wordindex.specs.Inner.{put_first}
use Rattle.wordindex.proofs.put_table.Given as goal

abbrev pub invariant-loop-k : goal.invariant-loop-k
invariant-loop-k l = l.index ≡ put_first l.table l.k l.initial.index
