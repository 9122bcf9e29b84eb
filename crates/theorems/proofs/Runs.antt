-- The blocks of an accepted run: each is accepted (accepted_at), and block k of a permitted stream of the run is that block, laid as permitted choices lay it
-- (run_part).
-- Assumes nothing.
use mathlib.Core.Path.{◌≡◌, refl, sym, ap, subst}
use mathlib.Core.Bool.{Bool}
use mathlib.Core.List.{List, [], ◌∷◌, ◌++◌}
use Prim.Native.Nat.{ℕ}
use Rattle.std.specs.Prelude.{Option, Some, None}
use lib.Dec.{T}
use lib.ListN.{length}
use Rattle.layout.specs.Sectors.{block_part}
use Rattle.eccblock.specs.Encode.{Accepted}
use Rattle.eccblock.specs.Run.{BlockInput, AcceptedRun, made_block, run_blocks}
use Rattle.eccblock.proofs.Runs.{accepted_any}
use Rattle.channel.specs.Block.{Blocks, permitted_run, run_stream}
use Rattle.channel.proofs.Rows.{LaidBlock}
use Rattle.channel.proofs.Runs.{block_part_lem}
use Rattle.formatter.proofs.Runs.{accepted_blocks, blocks_length}

-- block i of a run
pub accepted_at : (previous : Option ℕ) (before : List BlockInput) (i : BlockInput) (after : List BlockInput) → AcceptedRun previous (before ++ i ∷ after)
    → Accepted None i.main i.first i.info
unfolding AcceptedRun
accepted_at previous [] i after (ok, oks) = accepted_any ok
accepted_at previous (a ∷ before) i after (ok, oks) = accepted_at (Some a.first) before i after oks

blocks_append : (before : List BlockInput) (i : BlockInput) (after : List BlockInput) → run_blocks (before ++ i ∷ after) ≡ run_blocks before ++ made_block i ∷ run_blocks after
unfolding run_blocks
blocks_append [] i after = refl
blocks_append (a ∷ before) i after = ap (λ (run : List (List ℕ)). made_block a ∷ run) (blocks_append before i after)

-- its part of the run's stream
pub run_part : (before : List BlockInput) (i : BlockInput) (after : List BlockInput) (cs : List Bool) → AcceptedRun None (before ++ i ∷ after)
    → T (permitted_run (run_blocks (before ++ i ∷ after)) cs)
    → LaidBlock (made_block i) (block_part (run_stream (run_blocks (before ++ i ∷ after)) cs) (length before))
run_part before i after cs ok p =
    let e = blocks_append before i after in
    let laid =
    block_part_lem (run_blocks before) (made_block i) (run_blocks after) cs (subst Blocks e (accepted_blocks None (before ++ i ∷ after) ok))
    (subst (λ (run : List (List ℕ)). T (permitted_run run cs)) e p) in
    subst (λ (k : ℕ). LaidBlock (made_block i) (block_part (run_stream (run_blocks (before ++ i ∷ after)) cs) k)) (blocks_length before)
    (subst (λ (run : List (List ℕ)). LaidBlock (made_block i) (block_part (run_stream run cs) (length (run_blocks before)))) (sym e) laid)
