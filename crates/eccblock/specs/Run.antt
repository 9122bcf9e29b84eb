-- A run of blocks (document 02, request 1): BlockInput (what the block maker is given for a block), AcceptedRun (the runs that it accepts), made_block and run_blocks
-- (the blocks that it makes of them).
-- Assumes nothing.
use Rattle.std.specs.Prelude.{Option, Some, List, [], ◌∷◌, ℕ}
use Rattle.eccblock.specs.Block.{block}
use Rattle.eccblock.specs.Encode.{Accepted}

-- a block's main data, the number of its first sector, its Sector Information byte
pub record BlockInput : Type 0 where
  pub main : List ℕ
  pub first : ℕ
  pub info : ℕ

-- blocks that are accepted one after the other: the first after `previous`, each later one with the first number of the one before it; a run begins with None
unfoldable pub AcceptedRun : Option ℕ → List BlockInput → Type 0
AcceptedRun previous [] = Unit {0}
AcceptedRun previous (i ∷ is) = Accepted previous i.main i.first i.info × AcceptedRun (Some i.first) is

-- the block that is made of an input, and those of a run, in order
abbrev pub made_block : BlockInput → List ℕ
made_block i = block i.main i.first i.info

unfoldable pub run_blocks : List BlockInput → List (List ℕ)
run_blocks [] = []
run_blocks (i ∷ is) = made_block i ∷ run_blocks is
