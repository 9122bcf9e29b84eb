-- `block::column_part` meets its contract: each turn reads one byte. Assumes nothing.
use Rattle.std.proofs.Common.{◌≡◌, ap, ◌∙◌, ℕ, ◌+◌, ◌*◌, arith, get_or, replicate}
use Rattle.std.proofs.lemmas.List.{length-replicate}
use Rattle.lists.proofs.Fill.{upto_more, upto_all}
use Rattle.layout.specs.Inner.{column_place}
use Rattle.layout.proofs.Places.{column_part}
use Rattle.layout.proofs.block.column_part.Goals as goal

pub loop-k-preserved : goal.loop-k-preserved
loop-k-preserved g c = let xs = c.args.block.now in
    let j = c.args.j in
    upto_more (λ m. get_or xs (column_place j (c.args.i + m)) 0) (replicate g.row.N 0) c.loop-k.byte-items c.loop-k.k _ (omega (arith, c.loop-k.invariant.same, length-replicate {A = ℕ} g.row.N 0))
    (ap (λ (q : ℕ). get_or xs (q * 182 + j) 0) c.recording_row.ensures.value) c.loop-k.invariant

pub returns : goal.returns
returns g c =
    let e : c.loop-k.k ≡ g.row.N = omega arith in
    upto_all _ (replicate g.row.N 0) c.loop-k.byte-items g.row.N (length-replicate g.row.N 0) (rw e at c.loop-k.invariant)
    ∙ column_part c.args.block.now c.args.i c.args.j g.row.N c.requires.0
