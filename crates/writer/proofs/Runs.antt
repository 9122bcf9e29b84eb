-- Laws of the calls over a run of up to 16,777,216 sectors, by single writes, which trials and takes are (proofs/Takes):
--   sectors_written, block_written   sectors are not refused where there is room for them, and leave what the rule over all of them says
--   peak_written                     the peak after them is the greatest absolute DSV at the ends of all frames written
--   run_written                      those of a run with the closing code are a permitted stream of it, whose peak is had likewise
-- the last two of trials and takes (peak_taken, run_taken), and what `write_sectors` leaves (sectors_stay, sectors_done).
-- Assumes nothing.
use mathlib.Core.Path.{◌≡◌, refl, sym, ap, ap₂, subst, ◌∙◌}
use mathlib.Core.Bool.{Bool, true, false, cond}
use mathlib.Core.List.{List, [], ◌∷◌, ◌++◌}
use Prim.Native.Nat.{ℕ, zero, suc, ◌+◌, ◌*◌, ◌%◌, ◌<◌, ◌≤◌, max}
use native.Mathlib.Nat.{max-zero, zero-max}
use native.Mathlib.Omega.{arith}
use borrow.Author.Tests.{eq-eqb, ne_eqb}
use lib.Dec.{T, eqb, leb, le→leb}
use lib.ListN.{length, drop, length-take, length-drop}
use lib.Seq.{length-take-le}
use Rattle.lists.specs.Bytes.{Bytes}
use Rattle.lists.proofs.Bytes.{take-bytes, drop-bytes}
use Rattle.lists.proofs.Test.{truth_of, and_both}
use Rattle.octets.specs.Halves.{packed}
use Rattle.channel.specs.Block.{Blocks, permitted_run, run_stream}
use Rattle.layout.specs.Lengths.{block_size, sector_count, sector_frames, sector_size, sector_stream, sectors_stream, closing_size, run_sectors}
use Rattle.levels.specs.declared.Running.{Running}
use Rattle.octets.proofs.Halves.{packed-append}
use Rattle.streams.specs.Frames.{sector_of, sectors_of, closing_of, run_of, choices_of}
use Rattle.streams.specs.Peak.{peak_of}
use Rattle.streams.specs.Streams.{Stream}
use Rattle.streams.proofs.Frames.{run_permitted, run_stream_lem}
use Rattle.streams.proofs.Closing.{closing_state}
use Rattle.streams.proofs.Peak.{Greatest, peak_greatest, max_assoc, sectors_peak, run_peak}
use Rattle.writer.specs.Answers.{sector_refusal, sectors_refusal, sectors_next, sectors_out, closing_refusal, closing_next, closing_out}
use Rattle.writer.specs.Inner.{sector_room}
use Rattle.writer.specs.Records.{start, unmarked, running_of, record_of, peak_after, after_sectors, after_sector, after_block, after_closing, after_run}
use Rattle.writer.specs.Session.{Way, writes, takes, Session, sector_at, sector_calls, run_calls, NoneRefused, Handed, after_trial, after_take}
use Rattle.writer.specs.declared.Record.{Record}
use Rattle.writer.proofs.Sound.{Sound, sound-unmarked, Open, sector_opens, sectors_open}
use Rattle.writer.proofs.Calls.{sector_sound, start_sound, running_record, record_running, sector_free, closing_free, sector_next_lem}
use Rattle.writer.proofs.Takes.{trial_and_take}

-- ---- the sectors of a list

-- the calls for n sectors of a list from the record w: its record then is sound, and record and bytes are those of the rule, but for a mark where n is 0
record Going (w : Record) (bs : List ℕ) (n : ℕ) (s : Session) : Type 0 where
  is : Sound s.next
  next_is : unmarked s.next ≡ after_sectors w (sectors_of (running_of w) bs n) n
  dropped : 0 < n → s.next ≡ unmarked s.next
  laid : s.bytes ≡ packed (sectors_of (running_of w) bs n).halves

-- the calls for n sectors, from a record with room for them: none is refused, and they leave what the rule over all of them says
pub record SectorsWritten (w : Record) (bs : List ℕ) (outs : ℕ → List ℕ) (n : ℕ) : Type 0 where
  pub sectors : (k : ℕ) → k < n → sector_refusal (sector_calls writes w bs outs k).next (length (sector_at bs k)) (length (outs k)) ≡ 0
  pub is : Sound (after_sectors w (sectors_of (running_of w) bs n) n)
  pub next : 0 < n → (sector_calls writes w bs outs n).next ≡ after_sectors w (sectors_of (running_of w) bs n) n
  pub peak : (sector_calls writes w bs outs n).next.peak ≡ peak_after w (sectors_of (running_of w) bs n) n
  pub stream : (sector_calls writes w bs outs n).bytes ≡ packed (sectors_of (running_of w) bs n).halves

-- the same of the sixteen of a block
abbrev pub BlockWritten : Record → List ℕ → (ℕ → List ℕ) → Type 0
BlockWritten w bs outs = SectorsWritten w bs outs sector_count

module _ (w : Record) (bs : List ℕ) (outs : ℕ → List ℕ) (total : ℕ) (o : Open w total) (e : length bs ≡ sector_size * total) (hb : Bytes bs)
    (ho : (k : ℕ) → k < total → length (outs k) ≡ sector_stream) where
  going_none : Going w bs 0 (sector_calls writes w bs outs 0)
  unfolding sector_calls sectors_of packed peak_of
  going_none =
      record {
        is = o.is;
        next_is = record_running w (max w.peak 0) (w.sectors + 0) o.is (max-zero w.peak) (omega arith);
        dropped = λ h. absurd (omega arith);
        laid = refl;
      }

  module _ (n : ℕ) (h : n < total) (g : Going w bs n (sector_calls writes w bs outs n)) where
    abbrev now : Record
    now = (sector_calls writes w bs outs n).next

    abbrev before : Stream
    before = sectors_of (running_of w) bs n

    abbrev bytes : List ℕ
    bytes = sector_at bs n

    count : now.sectors ≡ w.sectors + n
    count = ap (λ (r : Record). r.sectors) g.next_is

    open_yet : now.closed ≡ w.closed
    open_yet = ap (λ (r : Record). r.closed) g.next_is

    running : running_of now ≡ before.running
    running = ap running_of g.next_is ∙ running_record before.running (peak_after w before n) (w.sectors + n) w.closed

    sector_not_refused : sector_refusal now (length bytes) (length (outs n)) ≡ 0
    sector_not_refused =
        let l : length bytes ≡ sector_size = length-take sector_size (drop (sector_size * n) bs) ∙ omega (arith, length-drop (sector_size * n) bs) in
        let room : Open now 1 = record { is = g.is; open_yet = open_yet ∙ o.open_yet; more = omega (arith, count, o.more) } in
        sector_free now (length bytes) (length (outs n)) room l (ho n h)

    -- the record after one sector more
    next_more : after_sector now bytes ≡ after_sectors w (sectors_of (running_of w) bs (suc n)) (suc n)
    unfolding sectors_of
    next_more =
        let all = peak_after w (sectors_of (running_of w) bs (suc n)) (suc n) in
        let peak-from : Running → ℕ = λ r. peak_of r (sector_of r bytes).halves sector_frames in
        let more = peak-from before.running in
        let peak : max now.peak more ≡ all =
        ap (λ (v : Record). max v.peak more) g.next_is
        ∙ max_assoc w.peak (peak_of (running_of w) before.halves (sector_frames * n)) more
        ∙ ap (max w.peak) (sym (sectors_peak (running_of w) bs n (omega arith))) in
        let sectors : now.sectors + 1 ≡ w.sectors + suc n = omega (arith, count) in
        let end = (sector_of before.running bytes).running in
        ap (λ (r : Running). record_of (sector_of r bytes).running (max now.peak (peak-from r)) (now.sectors + 1) now.closed) running
        ∙ ap₂ (λ (p k : ℕ). record_of end p k now.closed) peak sectors
        ∙ ap (record_of end all (w.sectors + suc n)) open_yet

    going_more : Going w bs (suc n) (sector_calls writes w bs outs (suc n))
    unfolding sector_calls sectors_of
    going_more =
        let are-bytes = take-bytes sector_size (drop (sector_size * n) bs) (drop-bytes (sector_size * n) bs hb) in
        let x = sector_next_lem now bytes (outs n) sector_not_refused in
        let same : sector_of (running_of now) bytes ≡ sector_of before.running bytes = ap (λ (r : Running). sector_of r bytes) running in
        record {
          is =
              subst Sound x.0
              (sector_sound now bytes (length (outs n)) (sector_opens now (length bytes) (length (outs n)) sector_not_refused) are-bytes);
          next_is = ap unmarked (sym x.0) ∙ next_more;
          dropped = λ h. sym x.0 ∙ ap unmarked x.0;
          laid =
              ap₂ (λ (u v : List ℕ). u ++ v) g.laid (sym x.1 ∙ ap (λ (y : Stream). packed y.halves) same)
              ∙ sym (packed-append before.halves (sector_of before.running bytes).halves);
        }

  going : (n : ℕ) → n ≤ total → Going w bs n (sector_calls writes w bs outs n)
  going zero h = going_none
  going (suc n) h = going_more n (omega arith) (going n (omega arith))

  -- A LIST OF SECTORS, anywhere in a run
  pub sectors_written : SectorsWritten w bs outs total
  sectors_written =
      let g = going total (omega arith) in
      record {
        sectors = λ k h. sector_not_refused k h (going k (omega arith));
        is = sound-unmarked g.is g.next_is;
        next = λ some. g.dropped some ∙ g.next_is;
        peak = ap (λ (v : Record). v.peak) g.next_is;
        stream = g.laid;
      }

-- the first record's own peak is 0
peak_from_start : (hs : List ℕ) (n : ℕ) → Greatest (running_of start) hs n (max start.peak (peak_of (running_of start) hs n))
peak_from_start hs n =
    subst (Greatest (running_of start) hs n) (sym (zero-max (peak_of (running_of start) hs n))) (peak_greatest (running_of start) hs n)

-- the calls for n sectors from the first record: what was written, and its peak
pub record PeakWritten (way : Way) (bs : List ℕ) (outs : ℕ → List ℕ) (n : ℕ) : Type 0 where
  pub stream : (sector_calls way start bs outs n).bytes ≡ packed (sectors_of (running_of start) bs n).halves
  pub greatest : Greatest (running_of start) (sectors_of (running_of start) bs n).halves (sector_frames * n) (sector_calls way start bs outs n).next.peak

-- THE PEAK: after any list of sectors of a run it is the greatest absolute DSV of the stream written at the ends of all its frames
pub peak_written :
    (bs : List ℕ) (outs : ℕ → List ℕ) (n : ℕ) → n ≤ run_sectors → length bs ≡ sector_size * n → Bytes bs
    → ((k : ℕ) → k < n → length (outs k) ≡ sector_stream) → PeakWritten writes bs outs n
peak_written bs outs n more e hb ho =
    let hs = (sectors_of (running_of start) bs n).halves in
    let written = sectors_written start bs outs n (record { is = start_sound; open_yet = refl; more = omega arith }) e hb ho in
    record {
      stream = written.stream;
      greatest =
          subst (Greatest (running_of start) hs (sector_frames * n)) (sym written.peak)
          (peak_from_start hs (sector_frames * n));
    }

pub peak_taken :
    (bs : List ℕ) (outs : ℕ → List ℕ) (n : ℕ) → n ≤ run_sectors → length bs ≡ sector_size * n → Bytes bs
    → ((k : ℕ) → k < n → length (outs k) ≡ sector_stream) → PeakWritten takes bs outs n
peak_taken bs outs n more e hb ho = subst (λ (way : Way). PeakWritten way bs outs n) (sym trial_and_take) (peak_written bs outs n more e hb ho)

-- A BLOCK, anywhere in a run
pub block_written :
    (w : Record) (bs : List ℕ) (outs : ℕ → List ℕ) → Open w sector_count → length bs ≡ block_size → Bytes bs
    → ((k : ℕ) → k < sector_count → length (outs k) ≡ sector_stream) → BlockWritten w bs outs
block_written w bs outs o e hb ho = sectors_written w bs outs sector_count o e hb ho

-- the records between are handed back
handed_takes : (w : Record) (bs : List ℕ) (outs : ℕ → List ℕ) → Bytes bs → Handed w → (n : ℕ) → Handed (sector_calls takes w bs outs n).next
unfolding sector_calls
handed_takes w bs outs hb h zero = h
handed_takes w bs outs hb h (suc n) =
    let to = length (outs n) in
    let before = (sector_calls takes w bs outs n).next in
    after_take _ (sector_at bs n) to (take-bytes sector_size (drop (sector_size * n) bs) (drop-bytes (sector_size * n) bs hb))
    (after_trial before (sector_at bs n) to (handed_takes w bs outs hb h n))

pub handed_calls : (w : Record) (bs : List ℕ) (outs : ℕ → List ℕ) → Bytes bs → Handed w → (n : ℕ) → Handed (sector_calls writes w bs outs n).next
handed_calls w bs outs hb h n = subst (λ (way : Way). Handed (sector_calls way w bs outs n).next) trial_and_take (handed_takes w bs outs hb h n)

-- ---- a run

-- the calls over a run and for closing from the record w: none is refused, and what they leave is what the rule over the run says, the record closed
pub record RunGoing (w : Record) (run : List (List ℕ)) (outs : ℕ → ℕ → List ℕ) (end : List ℕ) : Type 0 where
  pub refusals : NoneRefused writes w run outs end
  pub stream : (run_calls writes w run outs end).bytes ≡ packed (run_of (running_of w) run).halves
  pub next : (run_calls writes w run outs end).next ≡ after_run w run

-- the record is sound and open, at whole blocks; there is room for n blocks more, and one was written or will be
pub record Begins (w : Record) (n : ℕ) : Type 0 where
  pub is : Sound w
  pub open_yet : w.closed ≡ false
  pub whole : w.sectors % sector_count ≡ 0
  pub more : w.sectors + sector_count * n ≤ run_sectors
  pub some : 1 ≤ w.sectors + n

pub begins_start : (n : ℕ) → 0 < n → sector_count * n ≤ run_sectors → Begins start n
begins_start n some more = record { is = start_sound; open_yet = refl; whole = refl; more = omega arith; some = omega arith }

-- the next block has room, and the rest of the run begins after it
pub begins_open : {w : Record} {n : ℕ} → Begins w (suc n) → Open w sector_count
begins_open b = record { is = b.is; open_yet = b.open_yet; more = omega (arith, b.more) }

pub begins_more : {w : Record} {n : ℕ} {bs : List ℕ} {outs : ℕ → List ℕ} → Begins w (suc n) → BlockWritten w bs outs → Begins (after_block w bs) n
begins_more b written =
    record { is = written.is; open_yet = b.open_yet; whole = omega (arith, b.whole); more = omega (arith, b.more); some = omega arith }

-- the buffers lent for n blocks have the stated length
abbrev pub RoomFor : (ℕ → ℕ → List ℕ) → ℕ → Type 0
RoomFor outs n = (j k : ℕ) → j < n → k < sector_count → length (outs j k) ≡ sector_stream

pub closing_going : (w : Record) (outs : ℕ → ℕ → List ℕ) (end : List ℕ) → Begins w 0 → length end ≡ closing_size → RunGoing w [] outs end
unfolding NoneRefused run_calls run_of closing_out closing_next peak_of
closing_going w outs end b l =
    let counted =
    and_both (leb 1 w.sectors) (eqb (w.sectors % sector_count) 0)
    (le→leb 1 w.sectors (omega (arith, b.some)))
    (truth_of (eqb (w.sectors % sector_count) 0) (eq-eqb (w.sectors % sector_count) 0 b.whole)) in
    let free = closing_free w (length end) b.is b.open_yet counted l in
    let z = eq-eqb (closing_refusal w (length end)) 0 free in
    let count : w.sectors ≡ w.sectors + sector_count * 0 = omega arith in
    record {
      refusals = free;
      stream = ap (λ (x : Bool). cond x (packed (closing_of (running_of w)).halves) end) z;
      next =
          ap (λ (x : Bool). cond x (after_closing w) w) z
          ∙ ap₂ (λ (p n : ℕ). record_of (closing_of (running_of w)).running p n true) (sym (max-zero w.peak)) count;
    }

run_going :
    (run : List (List ℕ)) (w : Record) (outs : ℕ → ℕ → List ℕ) (end : List ℕ) → Begins w (length run) → Blocks run → RoomFor outs (length run)
    → length end ≡ closing_size → RunGoing w run outs end
unfolding Blocks NoneRefused run_calls run_of
run_going [] w outs end b hr ho l = closing_going w outs end b l
run_going (a ∷ run) w outs end b hr ho l =
    let later : ℕ → ℕ → List ℕ = λ j. outs (suc j) in
    let written = block_written w a (outs 0) (begins_open b) hr.0.0 hr.0.1 (λ k h. ho 0 k (omega arith) h) in
    let rest = run_going run (after_block w a) later end (begins_more b written) hr.1 (λ j k h m. ho (suc j) k (omega arith) m) l in
    let next_is = written.next (omega arith) in
    let m = sectors_of (running_of w) a sector_count in
    let from : running_of (after_block w a) ≡ m.running = running_record m.running (peak_after w m sector_count) (w.sectors + sector_count) w.closed in
    let n = sector_count * length run in
    let count : w.sectors + sector_count + n ≡ w.sectors + sector_count * suc (length run) = omega arith in
    let peak-from : Running → ℕ = λ r. peak_of r (run_of r run).halves (sector_frames * n) in
    let peak : max (after_block w a).peak (peak-from m.running) ≡ (after_run w (a ∷ run)).peak =
    max_assoc w.peak (peak_of (running_of w) m.halves (sector_frames * sector_count)) (peak-from m.running)
    ∙ ap (max w.peak) (sym (run_peak (running_of w) a run (length run) hr.0.0)) in
    let closed-from : Running → Record =
    λ r. record_of (run_of r run).running (max (after_block w a).peak (peak-from r)) (w.sectors + sector_count + n) true in
    record {
      refusals = (written.sectors, subst (λ (v : Record). NoneRefused writes v run later end) (sym next_is) rest.refusals);
      stream =
          ap₂ (λ (u : List ℕ) (v : Record). u ++ (run_calls writes v run later end).bytes) written.stream next_is
          ∙ ap (λ (x : List ℕ). packed m.halves ++ x) (rest.stream ∙ ap (λ (r : Running). packed (run_of r run).halves) from)
          ∙ sym (packed-append m.halves (run_of m.running run).halves);
      next =
          ap (λ (v : Record). (run_calls writes v run later end).next) next_is
          ∙ rest.next
          ∙ ap closed-from from
          ∙ ap₂ (λ (p k : ℕ). record_of (run_of m.running run).running p k true) peak count;
    }

-- the calls for the sectors of a run and for closing: none is refused, what their buffers hold then is the stream of permitted choices, and the record is that of
-- the rule over the run, closed; its peak is the greatest at the ends of the run's frames, and the closing code does not count
pub record RunWritten (way : Way) (run : List (List ℕ)) (outs : ℕ → ℕ → List ℕ) (end : List ℕ) : Type 0 where
  pub refusals : NoneRefused way start run outs end
  pub choices : T (permitted_run run (choices_of (running_of start) run))
  pub stream : (run_calls way start run outs end).bytes ≡ run_stream run (choices_of (running_of start) run)
  pub next : (run_calls way start run outs end).next ≡ after_run start run
  pub greatest :
      Greatest (running_of start) (run_of (running_of start) run).halves (sector_frames * (sector_count * length run))
      (run_calls way start run outs end).next.peak

-- PERMITTED: from the first record the sectors of one to 1,048,576 blocks and closing are not refused, and their buffers hold a permitted stream of the run
pub run_written :
    (run : List (List ℕ)) (outs : ℕ → ℕ → List ℕ) (end : List ℕ) → 0 < length run → sector_count * length run ≤ run_sectors → Blocks run
    → RoomFor outs (length run) → length end ≡ closing_size → RunWritten writes run outs end
run_written run outs end some more hr ho l =
    let g = run_going run start outs end (begins_start (length run) some more) hr ho l in
    let hs = (run_of (running_of start) run).halves in
    let n = sector_frames * (sector_count * length run) in
    record {
      refusals = g.refusals;
      choices = run_permitted (running_of start) run refl;
      stream = g.stream ∙ run_stream_lem (running_of start) run refl;
      next = g.next;
      greatest = subst (Greatest (running_of start) hs n) (sym (ap (λ (w : Record). w.peak) g.next)) (peak_from_start hs n);
    }

-- and so are the trials and takes of its sectors
pub run_taken :
    (run : List (List ℕ)) (outs : ℕ → ℕ → List ℕ) (end : List ℕ) → 0 < length run → sector_count * length run ≤ run_sectors → Blocks run
    → RoomFor outs (length run) → length end ≡ closing_size → RunWritten takes run outs end
run_taken run outs end some more hr ho l =
    subst (λ (way : Way). RunWritten way run outs end) (sym trial_and_take) (run_written run outs end some more hr ho l)

-- the State after closing is 1
pub run_closed_state≡1 : (r : Running) (run : List (List ℕ)) → (run_of r run).running.state ≡ 1
unfolding run_of
run_closed_state≡1 r [] = closing_state r
run_closed_state≡1 r (b ∷ run) = run_closed_state≡1 (sectors_of r b sector_count).running run

-- ---- the sectors of a block in the parts of one buffer

-- the parts have the writer's length,
pub sector_room_lem : (old : List ℕ) → length old ≡ sectors_stream → (k : ℕ) → k < sector_count → length (sector_room old k) ≡ sector_stream
sector_room_lem old h k m = length-take-le sector_stream (drop (sector_stream * k) old) (omega (arith, length-drop (sector_stream * k) old))

-- so that the sixteen sectors are written
pub parts_written :
    (w : Record) (bs old : List ℕ) → Open w sector_count → length bs ≡ block_size → Bytes bs → length old ≡ sectors_stream → BlockWritten w bs (sector_room old)
parts_written w bs old o l b h = block_written w bs (sector_room old) o l b (sector_room_lem old h)

-- what `write_sectors` leaves, by its number
module _ (w : Record) (bs out : List ℕ) (no : ℕ) (e : no ≡ sectors_refusal w (length bs) (length out)) where
  pub sectors_stay : (no ≡ 0 → ⊥) → (w ≡ sectors_next w bs (length out)) × (out ≡ sectors_out w bs out)
  unfolding sectors_next sectors_out
  sectors_stay h =
      let f = ne_eqb (sectors_refusal w (length bs) (length out)) 0 (λ z. h (e ∙ z)) in
      (rw f, rw f)

  pub sectors_done :
      no ≡ 0 → Bytes bs
      → ((sector_calls writes w bs (sector_room out) sector_count).next ≡ sectors_next w bs (length out))
      × ((sector_calls writes w bs (sector_room out) sector_count).bytes ≡ sectors_out w bs out)
  unfolding sectors_next sectors_out
  sectors_done z hb =
      let f = eq-eqb (sectors_refusal w (length bs) (length out)) 0 (sym e ∙ z) in
      let opens = sectors_open w (length bs) (length out) (sym e ∙ z) in
      let written = parts_written w bs out opens.opened opens.from_is hb opens.to_is in
      (written.next (omega arith) ∙ rw f, written.stream ∙ rw f)
