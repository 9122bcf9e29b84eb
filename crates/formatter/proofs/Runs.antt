-- The blocks of an accepted run one after the other, and closing: they are the writer's calls over the same blocks (as_sectors), so that none is refused and their
-- buffers hold a permitted stream of the run (run_formatted). Each block is of 37,856 bytes (accepted_blocks). And a record that a block hands back is one that the
-- writer hands back, so that it is never refused with 9 (block_handed), and its peak is not lower (block_peak_never_falls).
-- Assumes nothing.
use mathlib.Core.Bool.{Bool, true, false, cond}
use mathlib.Core.List.{List, [], ◌∷◌, ◌++◌}
use mathlib.Core.Path.{◌≡◌, refl, sym, ap, ap₂, subst, ◌∙◌}
use Prim.Native.Nat.{ℕ, suc, ◌<◌, ◌≤◌}
use native.Mathlib.Nat.{le-max_left}
use native.Mathlib.Omega.{arith}
use borrow.Author.Tests.{eq-eqb, eqb-true}
use lib.Dec.{T, eqb}
use lib.ListN.{length, replicate, length-replicate}
use Rattle.std.specs.Prelude.{Option, None, Some}
use Rattle.lists.specs.Bytes.{Bytes}
use Rattle.layout.specs.Lengths.{sector_count, sectors_stream, closing_size}
use Rattle.channel.specs.Block.{Blocks, permitted_run, run_stream}
use Rattle.eccblock.specs.Block.{block}
use Rattle.eccblock.specs.Encode.{Accepted}
use Rattle.eccblock.specs.Run.{BlockInput, AcceptedRun, made_block, run_blocks}
use Rattle.eccblock.proofs.Laws.{block_length, block_bytes_lem}
use Rattle.eccblock.proofs.Runs.{run_length_fits}
use Rattle.streams.specs.Frames.{choices_of}
use Rattle.writer.specs.Records.{start, running_of, after_block, after_run}
use Rattle.writer.specs.Inner.{sector_room}
use Rattle.writer.specs.Session.{Session, writes, run_calls, NoneRefused, Handed}
use Rattle.writer.specs.declared.Record.{Record}
use Rattle.writer.proofs.Runs.{handed_calls, Begins, begins_start, begins_open, begins_more, closing_going, run_written, sector_room_lem, parts_written}
use Rattle.writer.proofs.Sound.{Open, block_opens, open_taken}
use Rattle.formatter.specs.Formatter.{write_block_refusal, write_block_next}
use Rattle.formatter.specs.Session.{block_calls, BlocksTaken}
use Rattle.formatter.proofs.Answers.{made_refusal, neither_refuses, block_next, block_out}

-- ---- a run

block_taken :
    (w : Record) (previous : Option ℕ) (i : BlockInput) (m : ℕ) → Open w sector_count → Accepted previous i.main i.first i.info → m ≡ sectors_stream
    → write_block_refusal w previous (length i.main) m i.first i.info ≡ 0
unfolding write_block_refusal
block_taken w previous i m o ok l = rw (eq-eqb m sectors_stream l, ok.taken) (open_taken w o)

-- the buffers lent for n blocks have the stated length
abbrev pub BlockRooms : (ℕ → List ℕ) → ℕ → Type 0
BlockRooms outs n = (k : ℕ) → k < n → length (outs k) ≡ sectors_stream

-- the parts of them that are lent to the writer, sector by sector
abbrev rooms : (ℕ → List ℕ) → ℕ → ℕ → List ℕ
rooms outs j = sector_room (outs j)

-- the calls for the blocks of a run and for closing from the record w: none is refused, and they are the writer's over the same blocks, in the same buffers
record AsSectors (w : Record) (previous : Option ℕ) (is : List BlockInput) (outs : ℕ → List ℕ) (end : List ℕ) : Type 0 where
  refusals : BlocksTaken w previous is outs end
  same : block_calls w previous is outs end ≡ run_calls writes w (run_blocks is) (rooms outs) end

as_sectors :
    (is : List BlockInput) (w : Record) (previous : Option ℕ) (outs : ℕ → List ℕ) (end : List ℕ) → Begins w (length is) → AcceptedRun previous is
    → BlockRooms outs (length is) → length end ≡ closing_size → AsSectors w previous is outs end
unfolding AcceptedRun run_blocks BlocksTaken block_calls NoneRefused run_calls
as_sectors [] w previous outs end b ok ho l = record { refusals = (closing_going w (rooms outs) end b l).refusals; same = refl }
as_sectors (i ∷ is) w previous outs end b (ok, oks) ho l =
    let later : ℕ → List ℕ = λ k. outs (suc k) in
    let size = ho 0 (omega arith) in
    let taken = block_taken w previous i (length (outs 0)) (begins_open b) ok size in
    let written =
    parts_written w (made_block i) (outs 0) (begins_open b) (block_length i.main i.first i.info ok) (block_bytes_lem i.main i.first i.info ok) size in
    let out-is = sym (block_out w previous i.main i.first i.info (outs 0) taken) ∙ sym written.stream in
    let next_is = sym (block_next w previous i.main i.first i.info (outs 0) taken) in
    let rest = as_sectors is (after_block w (made_block i)) (Some i.first) later end (begins_more b written) oks (λ k h. ho (suc k) (omega arith)) l in
    record {
      refusals = (taken, subst (λ (v : Record). BlocksTaken v (Some i.first) is later end) (sym next_is) rest.refusals);
      same =
          ap₂ (λ (u : List ℕ) (t : Session). record { bytes = u ++ t.bytes; next = t.next }) out-is
          (ap (λ (v : Record). block_calls v (Some i.first) is later end) next_is
          ∙ rest.same
          ∙ ap (λ (v : Record). run_calls writes v (run_blocks is) (rooms later) end) (sym (written.next (omega arith))));
    }

-- ---- the blocks of an accepted run

pub accepted_blocks : (previous : Option ℕ) (is : List BlockInput) → AcceptedRun previous is → Blocks (run_blocks is)
unfolding AcceptedRun run_blocks Blocks
accepted_blocks previous [] ok = tt
accepted_blocks previous (i ∷ is) (ok, oks) = (
  (block_length i.main i.first i.info ok, block_bytes_lem i.main i.first i.info ok),
  accepted_blocks (Some i.first) is oks,
)

pub blocks_length : (is : List BlockInput) → length (run_blocks is) ≡ length is
unfolding run_blocks
blocks_length [] = refl
blocks_length (i ∷ is) = ap suc (blocks_length is)

-- the blocks of a run and closing: none is refused, what their buffers hold then is the stream of permitted choices, and the record is that of the rule, closed
pub record RunFormatted (is : List BlockInput) (outs : ℕ → List ℕ) (end : List ℕ) : Type 0 where
  pub refusals : BlocksTaken start None is outs end
  pub choices : T (permitted_run (run_blocks is) (choices_of (running_of start) (run_blocks is)))
  pub stream : (block_calls start None is outs end).bytes ≡ run_stream (run_blocks is) (choices_of (running_of start) (run_blocks is))
  pub next : (block_calls start None is outs end).next ≡ after_run start (run_blocks is)

-- A RUN FORMATTED: every accepted run of at least one block
pub run_formatted :
    (is : List BlockInput) (outs : ℕ → List ℕ) (end : List ℕ) → 0 < length is → AcceptedRun None is → BlockRooms outs (length is) → length end ≡ closing_size
    → RunFormatted is outs end
run_formatted is outs end some ok ho l =
    let run = run_blocks is in
    let n = blocks_length is in
    let fits = run_length_fits is ok in
    let a = as_sectors is start None outs end (begins_start (length is) some fits) ok ho l in
    let w =
    run_written run (rooms outs) end (omega arith) (omega (arith, fits)) (accepted_blocks None is ok)
    (λ j k h m. sector_room_lem (outs j) (ho j (omega arith)) k m) l in
    record {
      refusals = a.refusals;
      choices = w.choices;
      stream = ap (λ (s : Session). s.bytes) a.same ∙ w.stream;
      next = ap (λ (s : Session). s.next) a.same ∙ w.next;
    }

-- ---- the record

-- a record that a block of any bytes hands back is one that the writer hands back
pub block_handed :
    (w : Record) (previous : Option ℕ) (main : List ℕ) (first info m : ℕ) → Handed w → Bytes main → info < 256
    → Handed (write_block_next w previous main first info m)
unfolding write_block_next write_block_refusal
block_handed w previous main first info m h hm hi = by (eqb refusal 0) refl
  where
    refusal : ℕ
    refusal = cond (eqb m sectors_stream) (made_refusal w previous (length main) first info) 1

    made : List ℕ
    made = block main first info

    neither : (b : Bool) → cond b (made_refusal w previous (length main) first info) 1 ≡ 0 → made_refusal w previous (length main) first info ≡ 0
    neither true e = e
    neither false e = absurd (omega arith)

    written : refusal ≡ 0 → Handed (after_block w made)
    written e =
        let none = neither_refuses w previous (length main) first info (neither (eqb m sectors_stream) e) in
        let ok : Accepted previous main first info = record { bytes = hm; byte = hi; taken = none.0 } in
        let room : List ℕ = replicate sectors_stream 0 in
        let bytes = block_bytes_lem main first info ok in
        let s = parts_written w made room (block_opens w none.1) (block_length main first info ok) bytes (length-replicate {A = ℕ} sectors_stream 0) in
        subst Handed (s.next (omega arith)) (handed_calls w made (sector_room room) bytes h sector_count)

    by : (b : Bool) → eqb refusal 0 ≡ b → Handed (cond b (after_block w made) w)
    by true e = written (eqb-true refusal 0 e)
    by false e = h

-- the peak never falls, whether the block is refused or not
pub block_peak_never_falls :
    (w : Record) (previous : Option ℕ) (main : List ℕ) (first info m : ℕ) → w.peak ≤ (write_block_next w previous main first info m).peak
unfolding write_block_next
block_peak_never_falls w previous main first info m = by (eqb (write_block_refusal w previous (length main) m first info) 0)
  where
    by : (b : Bool) → w.peak ≤ (cond b (after_block w (block main first info)) w).peak
    by true = le-max_left w.peak _
    by false = omega arith
