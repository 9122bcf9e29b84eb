-- `eccblock::store_frames` meets its contract: each turn stores one frame. Assumes nothing.
use mathlib.Core.Path.{◌≡◌, ap, ◌∙◌}
use mathlib.Core.List.{List, []}
use Prim.Native.Nat.{ℕ, ◌+◌, ◌*◌, ◌/◌, ◌<◌}
use lib.ListN.{length, get_or, take, drop}
use Rattle.std.specs.Simd.{first_chunks}
use Rattle.edc.proofs.Steps.{chunk_at}
use Rattle.scrambling.specs.Scrambling.{scrambled}
use Rattle.dataframe.specs.Frame.{data_frame}
use Rattle.eccblock.specs.Block.{frame}
use borrow.Author.Rules.{rules}
use native.Mathlib.Omega.{arith}
use Rattle.layout.specs.Lengths.{frame_main_size, sector_count}
use Rattle.eccblock.proofs.Staged.{frames-none, frames_more}
use Rattle.eccblock.proofs.store_frames.Goals as goal

pub loop-k-init : goal.loop-k-init
loop-k-init c = frames-none _ _ _ _ (search rules)

-- frame k is made of part k of the main data
frame_is :
    (main : List ℕ) (parts : List (List ℕ)) (first info k : ℕ) → parts ≡ first_chunks frame_main_size (length main / frame_main_size) main
    → length parts ≡ length main / frame_main_size → k < length parts
    → scrambled (first + k) (data_frame (get_or parts k []) info (first + k)) ≡ frame main first info k
unfolding frame
frame_is main parts first info k e n h =
    let place : k * frame_main_size ≡ frame_main_size * k = omega arith in
    ap (λ (d : List ℕ). scrambled (first + k) (data_frame d info (first + k)))
    (ap (λ (xs : List (List ℕ)). get_or xs k []) e ∙ chunk_at frame_main_size (length main / frame_main_size) k main [] (omega arith)
    ∙ ap (λ (m : ℕ). take frame_main_size (drop m main)) place)

pub loop-k-preserved : goal.loop-k-preserved
loop-k-preserved c =
    let a = c.args in
    frames_more a.main.now a.first a.info c.loop-k.k _ c.loop-k.out _
    (c.scrambled_frame-scrambled.ensures ∙ frame_is a.main.now _ a.first a.info c.loop-k.k c.as_chunks.ensures.front c.as_chunks.ensures.front_len (omega arith))
    c.store_frame.ensures c.loop-k.invariant

pub returns : goal.returns
returns c = let e : c.loop-k.k ≡ sector_count = omega (arith, c.as_chunks.ensures.front_len) in rw e at c.loop-k.invariant
