-- `eccblock::store_frame` meets its contract: each turn stores one row. Assumes nothing.
use mathlib.Core.Path.{◌≡◌, ap, ◌∙◌}
use mathlib.Core.List.{List, []}
use Prim.Native.Nat.{ℕ, ◌*◌, ◌/◌, ◌<◌}
use lib.ListN.{length, get_or, take, drop, length-drop}
use lib.Seq.{length-take-le}
use Rattle.std.specs.Simd.{first_chunks}
use Rattle.edc.proofs.Steps.{chunk_at}
use native.Mathlib.Omega.{arith}
use Rattle.octets.proofs.Copies.{stored_none}
use Rattle.layout.specs.Lengths.{frame_size, frame_rows, column_count}
use Rattle.eccblock.proofs.Staged.{frame_more}
use Rattle.eccblock.proofs.store_frame.Goals as goal

pub loop-r-init : goal.loop-r-init
loop-r-init c = stored_none _ _ _

-- row r of the frame
row_is : (f : List ℕ) (rows : List (List ℕ)) (r : ℕ) → length f ≡ frame_size → rows ≡ first_chunks column_count (length f / column_count) f → r < length rows
    → length rows ≡ length f / column_count → get_or rows r [] ≡ take column_count (drop (r * column_count) f)
row_is f rows r size e h n =
    ap (λ (xs : List (List ℕ)). get_or xs r []) e ∙ chunk_at column_count (length f / column_count) r f [] (omega arith)

row_length : (f : List ℕ) (r : ℕ) → length f ≡ frame_size → r < frame_rows → length (take column_count (drop (r * column_count) f)) ≡ column_count
row_length f r size h = length-take-le column_count (drop (r * column_count) f) (rw length-drop (omega arith))

pub put-requires : goal.put-requires
put-requires c =
    let f = c.args.scrambled.now in
    let r : ℕ = c.loop-r.r in
    let small : r < frame_rows = omega (arith, c.as_chunks.ensures.front_len) in
    let row = row_is f _ r c.told-scrambled c.as_chunks.ensures.front (omega arith) c.as_chunks.ensures.front_len in
    omega (arith, ap length row, row_length f r c.told-scrambled small, c.loop-r.invariant.size)

pub loop-r-preserved : goal.loop-r-preserved
loop-r-preserved c =
    let a = c.args in
    let row = row_is a.scrambled.now _ c.loop-r.r c.told-scrambled c.as_chunks.ensures.front (omega arith) c.as_chunks.ensures.front_len in
    frame_more a.k c.loop-r.r a.scrambled.now _ a.out.now c.loop-r.out _ c.told-scrambled c.told-out (omega arith) (omega (arith, c.as_chunks.ensures.front_len))
    row c.put.ensures c.loop-r.invariant

pub returns : goal.returns
returns c = let e : column_count * c.loop-r.r ≡ frame_size = omega (arith, c.as_chunks.ensures.front_len) in rw e at c.loop-r.invariant
