-- `eccblock::add_outer` meets its contract: each turn adds the parity of one column. Assumes nothing.
use mathlib.Core.List.{List}
use Prim.Native.Nat.{ℕ}
use Rattle.layout.specs.Lengths.{sector_count}
use Rattle.eccblock.specs.Inner.{Frames, Columns}
use Rattle.eccblock.proofs.add_outer.Given as goal

abbrev pub invariant-loop-j : goal.invariant-loop-j
invariant-loop-j l = (main : List ℕ) (first info : ℕ) → Frames main first info sector_count l.initial.out → Columns main first info l.j l.out
