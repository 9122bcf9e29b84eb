-- `eccblock::add_inner` meets its contract: each turn adds the parity of one row. Assumes nothing.
use mathlib.Core.Path.{◌≡◌, ap, ◌∙◌}
use Prim.Native.Nat.{ℕ, ◌+◌, ◌*◌, ◌-◌}
use native.Mathlib.Omega.{arith}
use borrow.Author.Rules.{rules}
use lib.ListN.{take, drop}
use Rattle.layout.specs.Lengths.{row_count, column_count, row_size, inner_size}
use Rattle.codes.specs.Parity.{parity}
use Rattle.eccblock.proofs.Staged.{rows_more}
use Rattle.eccblock.proofs.add_inner.Goals as goal

pub loop-q-init : goal.loop-q-init
loop-q-init c = λ main first info v. v

pub loop-q-preserved : goal.loop-q-preserved
loop-q-preserved c =
    let q : ℕ = c.loop-q.q in
    let e : q * row_size + column_count - q * row_size ≡ column_count = omega arith in
    let is = c.parity-p.ensures ∙ ap (λ (m : ℕ). parity inner_size (take m (drop (q * row_size) c.loop-q.out))) e in
    λ main first info v. rows_more main first info q c.parity-p.result c.loop-q.out _ (omega arith) is (search rules) c.put.ensures (c.loop-q.invariant main first info v)

pub returns : goal.returns
returns c = let e : c.loop-q.q ≡ row_count = omega arith in λ main first info v. rw e at (c.loop-q.invariant main first info v)
