-- Different inputs make different blocks (block_injective), and two blocks that differ at all differ in at least 187 bytes (blocks_apart): 10 roots of a row and 16 of a
-- column make it 11 times 17.
-- Assumes nothing.
use mathlib.Core.Path.{◌≡◌, sym, ap, ap₂, subst, ◌∙◌}
use mathlib.Core.List.{List}
use mathlib.Core.Logic.{◌≢◌}
use Prim.Native.Nat.{ℕ, zero, suc, ◌<◌, ◌≤◌}
use native.Mathlib.Omega.{arith}
use Rattle.lists.specs.Count.{distance}
use Rattle.lists.proofs.Distance.{distance_none}
use Rattle.layout.specs.Lengths.{row_count, row_size, inner_size, outer_size}
use Rattle.layout.specs.Rows.{frame_of}
use Rattle.codes.proofs.Product.{product_distance}
use Rattle.dataframe.specs.Checks.{info_of, number_of, main_of_block}
use Rattle.eccblock.specs.Run.{BlockInput, made_block}
use Rattle.std.specs.Prelude.{Option}
use Rattle.eccblock.proofs.Laws.{block_length, block_frame, block_main, block_product, frame_number, frame_info}
use Rattle.reach.proofs.Rows.{AcceptedInput, made_row, block_distance}

-- an input is read back from its block: the first number and the Sector Information from frame 0, the main data from all frames
module _ {previous : Option ℕ} (a : BlockInput) (ok : AcceptedInput previous a) where
  first_of_lem : number_of (frame_of (made_block a) 0) ≡ a.first
  first_of_lem =
      ap number_of (block_frame a.main a.first a.info ok 0 (omega arith)) ∙ frame_number a.main a.first a.info ok 0 (omega arith) ∙ omega arith

  info_of_lem : info_of (frame_of (made_block a) 0) ≡ a.info
  info_of_lem = ap info_of (block_frame a.main a.first a.info ok 0 (omega arith)) ∙ frame_info a.main a.first a.info ok 0 (omega arith)

  main_of_lem : main_of_block (made_block a) ≡ a.main
  main_of_lem = block_main a.main a.first a.info ok

abbrev input_of : List ℕ → ℕ → ℕ → BlockInput
input_of main first info = record { main = main; first = first; info = info }

module _ {previous before : Option ℕ} (a b : BlockInput) (ok : AcceptedInput previous a) (also : AcceptedInput before b) where
  -- equal blocks are made of equal inputs
  pub block_injective : made_block a ≡ made_block b → a ≡ b
  block_injective e =
      let main : a.main ≡ b.main = sym (main_of_lem a ok) ∙ ap main_of_block e ∙ main_of_lem b also in
      let first : a.first ≡ b.first = sym (first_of_lem a ok) ∙ ap (λ (xs : List ℕ). number_of (frame_of xs 0)) e ∙ first_of_lem b also in
      let info : a.info ≡ b.info = sym (info_of_lem a ok) ∙ ap (λ (xs : List ℕ). info_of (frame_of xs 0)) e ∙ info_of_lem b also in
      ap₂ (λ (xs : List ℕ) (n : ℕ). input_of xs n a.info) main first ∙ ap (input_of b.main b.first) info

  blocks_differ : a ≢ b → 0 < distance (made_block a) (made_block b)
  blocks_differ n = go (distance (made_block a) (made_block b)) sure
    where
      sure : distance (made_block a) (made_block b) ≢ 0
      sure z =
          n (block_injective (distance_none (made_block a) (made_block b)
          (block_length a.main a.first a.info ok ∙ sym (block_length b.main b.first b.info also)) z))

      go : (d : ℕ) → d ≢ 0 → 0 < d
      go zero z = absurd (z (omega arith))
      go (suc d) z = omega arith

  pub blocks_apart : a ≢ b → 187 ≤ distance (made_block a) (made_block b)
  blocks_apart n =
      let rows = block_distance a b ok also in
      subst (λ (d : ℕ). 187 ≤ d) (sym rows)
      (product_distance inner_size outer_size row_count row_size (made_row a) (made_row b) (omega arith) (omega arith) (block_product a.main a.first a.info ok)
      (block_product b.main b.first b.info also) (subst (λ (d : ℕ). 0 < d) rows (blocks_differ n)))
