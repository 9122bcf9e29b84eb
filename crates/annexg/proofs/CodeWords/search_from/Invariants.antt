-- `annexg::CodeWords::search_from` meets its contract. The search is followed entry by entry: what is left of it from each place on is `read_from`.
-- Assumes nothing.
use mathlib.Core.Path.{◌≡◌}
use Prim.Native.Nat.{◌+◌, ◌*◌, ◌≤◌}
use Rattle.annexg.specs.Inner.{read_from}
use Rattle.annexg.proofs.CodeWords.search_from.Given as goal

abbrev pub invariant-loop-s : goal.invariant-loop-s
invariant-loop-s l = (l.s ≤ 4) × (read_from l.word l.zero l.table l.at ≡ read_from l.word l.zero l.t (l.b * 4 + l.s))

abbrev pub invariant-loop-b : goal.invariant-loop-b
invariant-loop-b l = (l.column ≤ 3) × (read_from l.word l.zero l.table l.at ≡ read_from l.word l.zero l.t (l.b * 4 + l.column))

abbrev pub invariant-loop-t : goal.invariant-loop-t
invariant-loop-t l = (l.column ≤ 3) × (read_from l.word l.zero l.table l.at ≡ read_from l.word l.zero l.t (l.byte * 4 + l.column))
