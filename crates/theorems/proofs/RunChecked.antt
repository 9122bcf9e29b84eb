-- A RUN JUDGED BLOCK BY BLOCK: its zero runs are judged by the 77,380 bytes of each block. Where each block's bytes hold, and the SYNC place at its start has a code
-- due there, the whole stream holds (run_holds_by_blocks; by what the sector reader answers, run_holds_by_tallies); and where the whole stream holds, so do the
-- bytes of each block (blocks_hold_of_run). The bytes of two blocks overlap in four, a SYNC Code, whose ONEs end every zero run that begins before it. And the
-- closing code of every permitted stream is one that the reader takes for one (closing_holds_of_run).
-- Assumes nothing.
use mathlib.Core.Path.{◌≡◌, refl, sym, ap, ap₂, subst, ◌∙◌}
use mathlib.Core.Bool.{Bool, true, false, not, ◌&&◌}
use mathlib.Core.List.{List, ◌++◌}
use Prim.Native.Nat.{ℕ, zero, suc, ◌+◌, ◌*◌, ◌<◌}
use native.Mathlib.Omega.{arith}
use borrow.Author.Tests.{eq-eqb}
use lib.Dec.{T}
use lib.ListN.{length, get_or, take, drop, length-drop, take-append-drop}
use lib.Seq.{length-take-le, take_all, take-add, drop-drop, get_or-take}
use Rattle.lists.specs.Count.{bit}
use Rattle.lists.proofs.Test.{truth, truth_of}
use Rattle.annexg.specs.Sync.{is_sync}
use Rattle.annexg.proofs.Sync.{code_is-sync}
use Rattle.octets.specs.Halves.{half_at}
use Rattle.layout.specs.Lengths.{frame_stream, sector_read, block_frames, sectors_stream, closing_size, stream_size}
use Rattle.layout.specs.Sectors.{code_of, sector_part, block_part, run_size}
use Rattle.channel.specs.Bits.{bits_bytes, zero_runs_hold}
use Rattle.channel.specs.Block.{Blocks, permitted_run, run_stream}
use Rattle.channel.proofs.Runs.{closing_part}
use Rattle.channel.proofs.Overlaps.{has_one, sync_has_one, stream_front, stream_rest, streams_overlap}
use Rattle.reader.specs.Closing.{closing_holds}
use Rattle.reader.specs.Sector.{lost_sync, sync_tally}

-- ---- a block's first SYNC place

-- its two half words are those of the block's bytes
half_first : (xs : List ℕ) (k : ℕ) → k < 2 → half_at (sector_part (take stream_size xs) 0) k ≡ half_at xs k
unfolding half_at
half_first xs k h =
    ap₂ (λ (a b : ℕ). a * 256 + b) (same (2 * k) (omega arith)) (same (2 * k + 1) (omega arith))
  where
    same : (i : ℕ) → i < closing_size → get_or (sector_part (take stream_size xs) 0) i 0 ≡ get_or xs i 0
    same i l = get_or-take sector_read (take stream_size xs) i 0 (omega arith) ∙ get_or-take stream_size xs i 0 (omega arith)

-- where it holds its code, the first four bytes have a ONE
start_has_one : (xs : List ℕ) → lost_sync (sector_part (take stream_size xs) 0) 0 ≡ false → T (has_one (bits_bytes (take closing_size xs)))
unfolding lost_sync
start_has_one xs e = sync_has_one (code_of 0) xs (subst T here (truth_of test (held test e)))
  where
    part : List ℕ
    part = sector_part (take stream_size xs) 0

    test : Bool
    test = is_sync (code_of 0) (half_at part 0) (half_at part 1)

    held : (b : Bool) → not b ≡ false → b ≡ true
    held true p = refl
    held false p = sym p

    here : test ≡ is_sync (code_of 0) (half_at xs 0) (half_at xs 1)
    here = ap₂ (is_sync (code_of 0)) (half_first xs 0 (omega arith)) (half_first xs 1 (omega arith))

-- no SYNC place of a sector is without its code, and so not the first
none_lost : (xs : List ℕ) → sync_tally xs ≡ 0 → lost_sync xs 0 ≡ false
unfolding sync_tally
none_lost xs e = by (lost_sync xs 0) _ e
  where
    by : (b : Bool) (m : ℕ) → bit b + m ≡ 0 → b ≡ false
    by true m z = absurd (omega arith)
    by false m z = refl

-- ---- the run

-- block k of what comes after the first block
later_part : (xs : List ℕ) (k : ℕ) → block_part (drop sectors_stream xs) k ≡ block_part xs (suc k)
later_part xs k =
    let place : sectors_stream + sectors_stream * k ≡ sectors_stream * suc k = omega arith in
    ap (take stream_size) (drop-drop (sectors_stream * k) sectors_stream xs ∙ ap (λ (i : ℕ). drop i xs) place)

-- each block's own bytes hold, and so does the stream
pub run_holds_by_blocks : (n : ℕ) (xs : List ℕ) → 0 < n → length xs ≡ run_size n → ((k : ℕ) → k < n → zero_runs_hold (block_part xs k) ≡ true)
    → ((k : ℕ) → k < n → lost_sync (sector_part (block_part xs k) 0) 0 ≡ false) → zero_runs_hold xs ≡ true
run_holds_by_blocks zero xs some l hold start = absurd (omega arith)
run_holds_by_blocks (suc zero) xs some l hold start = ap zero_runs_hold (sym (take_all stream_size xs (omega arith))) ∙ hold 0 (omega arith)
run_holds_by_blocks (suc (suc n)) xs some l hold start =
    let first = take sectors_stream xs in
    let later = drop sectors_stream xs in
    let code = take closing_size later in
    let rest = drop closing_size later in
    let split : code ++ rest ≡ later = take-append-drop closing_size later in
    let whole : first ++ (code ++ rest) ≡ xs = ap (λ (ys : List ℕ). first ++ ys) split ∙ take-append-drop sectors_stream xs in
    let long : length first ≡ frame_stream * block_frames = length-take-le sectors_stream xs (omega arith) in
    let one = start_has_one later (ap (λ (ys : List ℕ). lost_sync (sector_part ys 0) 0) (later_part xs 0) ∙ start 1 (omega arith)) in
    let here : zero_runs_hold (first ++ code) ≡ true = ap zero_runs_hold (sym (take-add sectors_stream closing_size xs)) ∙ hold 0 (omega arith) in
    let there : zero_runs_hold later ≡ true =
    run_holds_by_blocks (suc n) later (omega arith) (length-drop sectors_stream xs ∙ omega arith) (λ k h. ap zero_runs_hold (later_part xs k) ∙ hold (suc k) (omega arith))
    (λ k h. ap (λ (ys : List ℕ). lost_sync (sector_part ys 0) 0) (later_part xs k) ∙ start (suc k) (omega arith)) in
    ap zero_runs_hold (sym whole)
    ∙ truth (zero_runs_hold (first ++ (code ++ rest)))
    (streams_overlap first block_frames long code rest one (truth_of (zero_runs_hold (first ++ code)) here)
    (truth_of (zero_runs_hold (code ++ rest)) (ap zero_runs_hold split ∙ there)))

-- the same by the tally that the sector reader answers with for each block's first sector
pub run_holds_by_tallies : (n : ℕ) (xs : List ℕ) → 0 < n → length xs ≡ run_size n → ((k : ℕ) → k < n → zero_runs_hold (block_part xs k) ≡ true)
    → ((k : ℕ) → k < n → sync_tally (sector_part (block_part xs k) 0) ≡ 0) → zero_runs_hold xs ≡ true
run_holds_by_tallies n xs some l hold tally = run_holds_by_blocks n xs some l hold (λ k h. none_lost (sector_part (block_part xs k) 0) (tally k h))

-- the stream holds, and so do each block's own bytes
pub blocks_hold_of_run : (n : ℕ) (xs : List ℕ) → length xs ≡ run_size n → zero_runs_hold xs ≡ true → (k : ℕ) → k < n → zero_runs_hold (block_part xs k) ≡ true
blocks_hold_of_run n xs l hold k h =
    let before = take (sectors_stream * k) xs in
    let later = drop (sectors_stream * k) xs in
    let long : length before ≡ frame_stream * (block_frames * k) = length-take-le (sectors_stream * k) xs (omega arith) ∙ omega arith in
    let whole : before ++ later ≡ xs = take-append-drop (sectors_stream * k) xs in
    let there = stream_rest before (block_frames * k) long later (truth_of (zero_runs_hold (before ++ later)) (ap zero_runs_hold whole ∙ hold)) in
    let split : later ≡ take stream_size later ++ drop stream_size later = sym (take-append-drop stream_size later) in
    truth (zero_runs_hold (block_part xs k))
    (stream_front (take stream_size later) (drop stream_size later) (subst (λ (ys : List ℕ). T (zero_runs_hold ys)) split there))

-- ---- the closing code

-- a run's permitted stream ends with a code of SY0, whichever was taken
pub closing_holds_of_run : (run : List (List ℕ)) (cs : List Bool) → Blocks run → T (permitted_run run cs)
    → closing_holds (drop (sectors_stream * length run) (run_stream run cs)) ≡ true
unfolding closing_holds
closing_holds_of_run run cs h p =
    let end = drop (sectors_stream * length run) (run_stream run cs) in
    let (four, code) = closing_part run cs h p in
    ap₂ ◌&&◌ (eq-eqb (length end) closing_size four)
    (code_is-sync 0 (half_at end 0) (half_at end 1) code.state code.choice code.is_state code.first code.second)
