-- `eccblock::add_inner` meets its contract: each turn adds the parity of one row. Assumes nothing.
use mathlib.Core.List.{List}
use Prim.Native.Nat.{ℕ}
use Rattle.eccblock.specs.Inner.{Rows}
use Rattle.eccblock.proofs.add_inner.Given as goal

abbrev pub invariant-loop-q : goal.invariant-loop-q
invariant-loop-q l = (main : List ℕ) (first info : ℕ) → Rows main first info 0 l.initial.out → Rows main first info l.q l.out
