-- `block::store_column` meets its contract: each turn stores one byte. Assumes nothing.
use mathlib.Core.Path.{◌≡◌, sym, subst}
use Prim.Native.Nat.{ℕ, ◌+◌, ◌*◌}
use native.Mathlib.Omega.{arith}
use lib.ListN.{length, get_or, set}
use Rattle.octets.specs.Inner.{Stored}
use Rattle.octets.proofs.Copies.{stored_none, stored_more}
use Rattle.layout.specs.Inner.{column_place}
use Rattle.layout.proofs.Places.{column_apart, column_lt}
use Rattle.layout.proofs.block.store_column.Goals as goal

pub loop-k-init : goal.loop-k-init
loop-k-init c = stored_none _ _ _

pub loop-k-preserved : goal.loop-k-preserved
loop-k-preserved c = let a = c.args in
    let at : ℕ → ℕ = λ m. column_place a.j (a.i + m) in
    let h = column_lt a.j (a.i + c.loop-k.k) (omega arith) (omega arith) in
    subst (λ (x : ℕ). Stored at a.part.now a.block.now (set c.loop-k.block (x * 182 + a.j) (get_or a.part.now c.loop-k.k 0)) (c.loop-k.k + 1))
    (sym c.recording_row.ensures.value)
    (stored_more at a.part.now a.block.now c.loop-k.block c.loop-k.k
    (λ m b. column_apart a.j (a.i + m) (a.i + c.loop-k.k) (omega arith) (omega arith)) (omega (arith, h)) c.loop-k.invariant)

pub returns : goal.returns
returns c = let e : c.loop-k.k ≡ length c.args.part.now = omega arith in
    rw e at c.loop-k.invariant
