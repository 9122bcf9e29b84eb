-- Two blocks row by row: they differ in as many places as their 208 rows do (block_distance).
-- Assumes nothing.
use mathlib.Core.Path.{◌≡◌, sym, ap, ap₂, ◌∙◌}
use mathlib.Core.List.{List}
use Prim.Native.Nat.{ℕ, ◌+◌, ◌<◌}
use native.Mathlib.Omega.{arith}
use Rattle.lists.specs.Count.{sum_from, distance}
use Rattle.lists.proofs.Distance.{distance_parts}
use Rattle.lists.proofs.Sum.{sum_same}
use Rattle.layout.specs.Lengths.{row_count, row_size}
use Rattle.layout.specs.Rows.{recording_row, row_of}
use Rattle.layout.proofs.Order.{recording_lt, original_recording, sum_recording}
use Rattle.eccblock.specs.Block.{code_row}
use Rattle.eccblock.specs.Encode.{Accepted}
use Rattle.eccblock.specs.Run.{BlockInput, made_block}
use Rattle.std.specs.Prelude.{Option}
use Rattle.eccblock.proofs.Laws.{block_length, block_row}

-- row i of an input's block, in the order before the rows were moved
abbrev pub made_row : BlockInput → ℕ → List ℕ
made_row a i = code_row a.main a.first a.info i

-- an input that the maker accepts
abbrev pub AcceptedInput : Option ℕ → BlockInput → Type 0
AcceptedInput previous a = Accepted previous a.main a.first a.info

module _ {previous : Option ℕ} (a : BlockInput) (ok : AcceptedInput previous a) where
  made_row_lem : (i : ℕ) → i < row_count → row_of (made_block a) (recording_row i) ≡ made_row a i
  made_row_lem i h = block_row a.main a.first a.info ok (recording_row i) (recording_lt i h) ∙ ap (made_row a) (original_recording i h)

pub block_distance :
    {previous before : Option ℕ} (a b : BlockInput) → AcceptedInput previous a → AcceptedInput before b
    → distance (made_block a) (made_block b) ≡ sum_from (λ i. distance (made_row a i) (made_row b i)) 0 row_count
block_distance a b ok also =
    let rows : ℕ → ℕ = λ q. distance (row_of (made_block a) q) (row_of (made_block b) q) in
    distance_parts (made_block a) (made_block b) row_count row_size (block_length a.main a.first a.info ok) (block_length b.main b.first b.info also)
    ∙ sym (sum_recording rows)
    ∙ sum_same (λ i. rows (recording_row i)) (λ i. distance (made_row a i) (made_row b i)) 0 0 row_count
    (λ i h. ap₂ distance (made_row_lem a ok (0 + i) (omega arith)) (made_row_lem b also (0 + i) (omega arith)))
