-- ZERO RUNS in a run of blocks (document 01, document 02, request 1): those of its permitted stream, in code bits of bytes (run_zero_runs); and that the bits of
-- packed half words are theirs (half-bits, packed-bits).
-- Assumes nothing.
use mathlib.Core.Path.{◌≡◌, refl, sym, ap₂, subst, ◌∙◌}
use mathlib.Core.Bool.{Bool, true, false, ◌&&◌, ◌||◌}
use mathlib.Core.List.{List, [], ◌∷◌, ◌++◌, map, append_assoc}
use Prim.Native.Nat.{ℕ, zero, suc, ◌*◌, ◌-◌, ◌/◌, ◌%◌, ◌≤◌, suc-le-suc}
use native.Mathlib.Omega.{arith}
use borrow.Author.Tests.{eq-eqb}
use lib.Dec.{T, eqb, eqb→eq}
use lib.ListN.{length, take, drop, replicate}
use Rattle.lists.proofs.Test.{and_left, and_right, and_both}
use Rattle.annexg.specs.ZeroRuns.{bits_of, inside}
use Rattle.layout.specs.Lengths.{frame_bytes, frame_halves, frame_bits, block_frames}
use Rattle.channel.specs.Bits.{bits_all, bits_bytes, sync_half, zero_run_fits, block_zero_run_fits}
use Rattle.channel.specs.Block.{frames, Blocks, run_items, permitted_run, run_stream}
use Rattle.octets.specs.Halves.{packed}
use Rattle.channel.specs.Channel.{Item, sync, byte, permitted, stream, all_proper}
use Rattle.channel.proofs.Places.{head_length, tail_length}
use Rattle.channel.proofs.Runs.{run_proper, run_head}
use Rattle.channel.proofs.ZeroRuns.{zero_runs}

sync_past : (xs : List ℕ) (ys : List Item) (k : ℕ) → T (sync_half (map byte xs ++ ys) k) → (length xs ≤ k) × T (sync_half ys (k - length xs))
unfolding sync_half
sync_past [] ys k t = (omega arith, subst (λ (x : ℕ). T (sync_half ys x)) (omega arith) t)
sync_past (x ∷ xs) ys zero t = absurd t
sync_past (x ∷ xs) ys (suc k) t =
    let r = sync_past xs ys k t in
    (suc-le-suc r.0, subst (λ (y : ℕ). T (sync_half ys y)) (omega arith) r.1)

-- the SYNC Codes of frames stand 93 half words apart, where those of what follows them do
sync-every :
    (n g : ℕ) (bs : List ℕ) (end : List Item) → length bs ≡ frame_bytes * n → ((k : ℕ) → T (sync_half end k) → k % frame_halves ≡ 0)
    → (k : ℕ) → T (sync_half (frames g n bs ++ end) k) → k % frame_halves ≡ 0
unfolding frames sync_half
sync-every zero g bs end e h k t = h k t
sync-every (suc n) g bs end e h zero t = refl
sync-every (suc n) g bs end e h (suc zero) t = absurd t
sync-every (suc n) g bs end e h (suc (suc k)) t =
    let rest = frames (suc g) n (drop frame_bytes bs) in
    let joined = append_assoc (map byte (take frame_bytes bs)) rest end in
    let r = sync_past (take frame_bytes bs) (rest ++ end) k (subst (λ (is : List Item). T (sync_half is k)) joined t) in
    let l = head_length bs n e in
    let a : frame_bytes ≤ k = rw l at r.0 in
    let i : (k - frame_bytes) % frame_halves ≡ 0 = sync-every n (suc g) (drop frame_bytes bs) end (tail_length bs n e) h (k - frame_bytes) (rw l at r.1) in
    omega arith

-- so do those of a run, over its seams
run_sync-every : (run : List (List ℕ)) → Blocks run → (k : ℕ) → T (sync_half (run_items run) k) → k % frame_halves ≡ 0
unfolding run_items Blocks sync_half
run_sync-every [] h zero t = refl
run_sync-every [] h (suc zero) t = absurd t
run_sync-every [] h (suc (suc k)) t = absurd t
run_sync-every (b ∷ run) h k t = sync-every block_frames 0 b (run_items run) h.0.0 (run_sync-every run h.1) k t

to_run : (run : List (List ℕ)) (i n : ℕ) (x : Bool) → Blocks run → T (x || (eqb n 13 && (eqb (i % 16) 13 && sync_half (run_items run) (i / 16)))) → T (x || (eqb n 13 && eqb (i % frame_bits) 13))
to_run run i n true h t = tt
to_run run i n false h t =
    let y = sync_half (run_items run) (i / 16) in
    let u = and_right (eqb n 13) (eqb (i % 16) 13 && y) t in
    let a : i % 16 ≡ 13 = eqb→eq (i % 16) 13 (and_left (eqb (i % 16) 13) y u) in
    let b : i / 16 % frame_halves ≡ 0 = run_sync-every run h (i / 16) (and_right (eqb (i % 16) 13) y u) in
    let d : i % frame_bits ≡ 13 = omega arith in
    and_both (eqb n 13) (eqb (i % frame_bits) 13) (and_left (eqb n 13) (eqb (i % 16) 13 && y) t) (subst T (sym (eq-eqb (i % frame_bits) 13 d)) tt)

cell : {x y : ℕ} {xs ys : List ℕ} → x ≡ y → xs ≡ ys → x ∷ xs ≡ y ∷ ys
cell p q = cc

-- the bits of a half are those of its two bytes
pub half-bits : (h : ℕ) → bits_of 16 h ≡ bits_of 8 (h / 256) ++ bits_of 8 (h % 256)
half-bits h =
    cell (omega arith) (cell (omega arith) (cell (omega arith) (cell (omega arith)
    (cell (omega arith) (cell (omega arith) (cell (omega arith) (cell (omega arith)
    (cell (omega arith) (cell (omega arith) (cell (omega arith) (cell (omega arith)
    (cell (omega arith) (cell (omega arith) (cell (omega arith) (cell (omega arith) refl)))))))))))))))

pub packed-bits : (hs : List ℕ) → bits_all hs ≡ bits_bytes (packed hs)
unfolding bits_all bits_bytes packed
packed-bits [] = refl
packed-bits (h ∷ hs) = ap₂ (λ (x y : List ℕ). x ++ y) (half-bits h) (packed-bits hs) ∙ append_assoc (bits_of 8 (h / 256)) (bits_of 8 (h % 256)) (bits_bytes (packed hs))

-- in every permitted stream of a run, whatever bytes its blocks carry, a ONE and the next ONE have two to ten ZEROs between them, or the thirteen of a SYNC Code
pub run_zero_runs :
    (run : List (List ℕ)) (cs : List Bool) → Blocks run → T (permitted_run run cs)
    → (head tail : List ℕ) (k : ℕ) → bits_bytes (run_stream run cs) ≡ head ++ 1 ∷ (replicate k 0 ++ 1 ∷ tail)
    → T (block_zero_run_fits (length head) k)
run_zero_runs run cs h p head tail k q =
    let begins = run_head run in
    let items = sync 0 ∷ begins.tail in
    let proper = subst (λ (is : List Item). T (all_proper is)) begins.is (run_proper run h) in
    let permits = subst (λ (is : List Item). T (permitted 1 0 is cs)) begins.is p in
    let bits = packed-bits (stream 1 (run_items run) cs) ∙ q in
    let fits =
    zero_runs 1 0 0 begins.tail cs proper (record { low = omega arith; high = omega arith }) permits head tail k
    (subst (λ (is : List Item). bits_all (stream 1 is cs) ≡ head ++ 1 ∷ (replicate k 0 ++ 1 ∷ tail)) begins.is bits) in
    to_run run (length head) k (inside 2 10 k) h (subst (λ (is : List Item). T (zero_run_fits is (length head) k)) (sym begins.is) fits)
