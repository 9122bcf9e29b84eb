-- What specs/Formatter says in each case.
-- Assumes nothing.
use mathlib.Core.Bool.{Bool, true, false, cond}
use mathlib.Core.List.{List, [], ◌++◌, append-nil}
use mathlib.Core.Path.{◌≡◌, refl, sym, ap, ap₂, ◌∙◌}
use Prim.Native.Nat.{ℕ, zero, suc}
use native.Mathlib.Omega.{arith}
use borrow.Author.Tests.{eq-eqb, ne_eqb, eqb-true}
use lib.Dec.{eqb}
use lib.ListN.{length, take, drop, length-append, length-drop, take-append-drop}
use lib.Seq.{length-take-le, take_all, take_at, drop_at, drop-length}
use Rattle.std.specs.Prelude.{Option, None}
use Rattle.octets.specs.Halves.{packed}
use Rattle.octets.proofs.Halves.{packed-append}
use Rattle.layout.specs.Lengths.{sector_count, block_size, sectors_stream, closing_size, stream_size}
use Rattle.eccblock.specs.Block.{block}
use Rattle.eccblock.specs.Encode.{encode_refusal, encoded_buffer, Accepted}
use Rattle.eccblock.proofs.Laws.{block_length, block_bytes_lem}
use Rattle.levels.specs.declared.Running.{Running}
use Rattle.streams.specs.Frames.{sectors_of, closing_of, run_of}
use Rattle.streams.specs.Streams.{Stream}
use Rattle.writer.specs.Answers.{sound, block_refusal, sectors_refusal, sectors_next, sectors_out, closing_refusal, closing_out}
use Rattle.writer.specs.Inner.{sector_room}
use Rattle.writer.specs.Session.{NoneRefused, run_calls}
use Rattle.writer.specs.Records.{start, running_of, peak_after, after_block}
use Rattle.writer.specs.declared.Record.{Record}
use Rattle.writer.proofs.Calls.{running_record}
use Rattle.writer.proofs.Runs.{BlockWritten, parts_written, begins_start, begins_open, begins_more, closing_going}
use Rattle.formatter.specs.Formatter.{write_block_refusal, write_block_next, write_block_out, block_stream, format_refusal, formatted_buffer}
use Rattle.formatter.specs.Inner.{first_laid}

-- ---- the number

-- what is refused but for the length of the stream buffer
abbrev pub made_refusal : Record → Option ℕ → ℕ → ℕ → ℕ → ℕ
made_refusal w previous n first info =
    cond (eqb (encode_refusal previous n block_size first info) 0) (block_refusal w) (encode_refusal previous n block_size first info)

module _ (w : Record) (previous : Option ℕ) (n first info : ℕ) where
  abbrev refusal : ℕ
  refusal = encode_refusal previous n block_size first info

  pub maker_refuses : (x : ℕ) → (x ≡ 0 → ⊥) → x ≡ refusal → x ≡ made_refusal w previous n first info
  maker_refuses x h e = e ∙ rw (ne_eqb refusal 0 (λ z. h (e ∙ z)))

  pub record_refuses : (x : ℕ) → refusal ≡ 0 → x ≡ block_refusal w → x ≡ made_refusal w previous n first info
  record_refuses x h e = e ∙ rw (eq-eqb refusal 0 h)

  -- a block that is not refused is refused by neither
  pub neither_refuses : made_refusal w previous n first info ≡ 0 → (refusal ≡ 0) × (block_refusal w ≡ 0)
  neither_refuses e = by (eqb refusal 0) refl e
    where
      by : (b : Bool) → eqb refusal 0 ≡ b → cond b (block_refusal w) refusal ≡ 0 → (refusal ≡ 0) × (block_refusal w ≡ 0)
      by true p e = (eqb-true refusal 0 p, e)
      by false p e = absurd (let z : ◌≡◌ {A = ℕ} 0 1 = ap (λ (b : Bool). cond b 1 0) (sym p ∙ eq-eqb refusal 0 e) in omega arith)

-- ---- record and buffer

module _ (w : Record) (previous : Option ℕ) (main : List ℕ) (first info : ℕ) (old : List ℕ) where
  abbrev number : ℕ
  number = write_block_refusal w previous (length main) (length old) first info

  abbrev Left : Type 0
  Left = (w ≡ write_block_next w previous main first info (length old)) × (old ≡ write_block_out w previous main first info old)

  pub length_refused : (length old ≡ sectors_stream → ⊥) → (1 ≡ number) × Left
  unfolding write_block_refusal write_block_next write_block_out
  length_refused h = (rw (ne_eqb (length old) sectors_stream h), (rw (ne_eqb (length old) sectors_stream h), rw (ne_eqb (length old) sectors_stream h)))

  pub number_passed : (x : ℕ) → length old ≡ sectors_stream → x ≡ made_refusal w previous (length main) first info → x ≡ number
  unfolding write_block_refusal
  number_passed x l e = e ∙ rw (eq-eqb (length old) sectors_stream l)

  pub all_left : (x : ℕ) → (x ≡ 0 → ⊥) → x ≡ number → Left
  unfolding write_block_next write_block_out
  all_left x h e = (rw (ne_eqb number 0 (λ z. h (e ∙ z))), rw (ne_eqb number 0 (λ z. h (e ∙ z))))

  pub block_next : number ≡ 0 → after_block w (block main first info) ≡ write_block_next w previous main first info (length old)
  unfolding write_block_next
  block_next e = rw (eq-eqb number 0 e)

  pub block_out : number ≡ 0 → packed (sectors_of (running_of w) (block main first info) sector_count).halves ≡ write_block_out w previous main first info old
  unfolding write_block_out
  block_out e = rw (eq-eqb number 0 e)

-- the block maker's buffer where it refuses nothing
pub block_made :
    (previous : Option ℕ) (main : List ℕ) (first info : ℕ) (was : List ℕ) → encode_refusal previous (length main) (length was) first info ≡ 0
    → encoded_buffer previous main first info was ≡ block main first info
unfolding encoded_buffer
block_made previous main first info was e = rw (eq-eqb (encode_refusal previous (length main) (length was) first info) 0 e)

-- the writer's sectors of a block that the block maker takes
module _ (w : Record) (previous : Option ℕ) (main : List ℕ) (first info : ℕ) (old : List ℕ) (l : length old ≡ sectors_stream) (ok : Accepted previous main first info) where
  abbrev made_block : List ℕ
  made_block = block main first info

  pub sectors_number : sectors_refusal w (length made_block) (length old) ≡ write_block_refusal w previous (length main) (length old) first info
  unfolding sectors_refusal write_block_refusal
  sectors_number =
      rw (
        eq-eqb (length made_block) block_size (block_length main first info ok),
        eq-eqb (length old) sectors_stream l,
        eq-eqb (encode_refusal previous (length main) block_size first info) 0 ok.taken,
      ) refl

  pub sectors_next_lem : sectors_next w made_block (length old) ≡ write_block_next w previous main first info (length old)
  unfolding sectors_next write_block_next
  sectors_next_lem = ap (λ (n : ℕ). cond (eqb n 0) (after_block w made_block) w) sectors_number

  pub sectors_out_lem : sectors_out w made_block old ≡ write_block_out w previous main first info old
  unfolding sectors_out write_block_out
  sectors_out_lem = ap (λ (n : ℕ). cond (eqb n 0) (packed (sectors_of (running_of w) made_block sector_count).halves) old) sectors_number

-- ---- the run of one block

start_taken : block_refusal start ≡ 0
unfolding block_refusal sound
start_taken = refl

itself : (e : ℕ) → cond (eqb e 0) 0 e ≡ e
itself zero = refl
itself (suc e) = rw (ne_eqb (suc e) 0 (λ z. omega (arith, z)))

module _ (main : List ℕ) (first info : ℕ) (old : List ℕ) where
  pub format_length_refused :
      (length old ≡ stream_size → ⊥) → (1 ≡ format_refusal (length main) (length old) first info) × (old ≡ formatted_buffer main first info old)
  unfolding format_refusal formatted_buffer
  format_length_refused h = (rw (ne_eqb (length old) stream_size h), rw (ne_eqb (length old) stream_size h))

  -- from a new record and with no block before, what is refused is what the block maker refuses
  pub first_number :
      (x : ℕ) → length old ≡ stream_size → x ≡ write_block_refusal start None (length main) sectors_stream first info
      → x ≡ format_refusal (length main) (length old) first info
  unfolding write_block_refusal format_refusal
  first_number x l e = e ∙ rw (eq-eqb (length old) stream_size l, start_taken) (itself (encode_refusal None (length main) block_size first info))

  -- where nothing is refused the block maker takes the block
  pub first_taken : write_block_refusal start None (length main) sectors_stream first info ≡ 0 → encode_refusal None (length main) block_size first info ≡ 0
  unfolding write_block_refusal
  first_taken e = sym (rw start_taken (itself (encode_refusal None (length main) block_size first info))) ∙ e

  module _ (l : length old ≡ stream_size) where
    -- the part that is lent for the sectors
    abbrev part : List ℕ
    part = take sectors_stream old

    pub part_length : length part ≡ sectors_stream
    part_length = length-take-le sectors_stream old (omega arith)

    number_at : write_block_refusal start None (length main) (length part) first info ≡ write_block_refusal start None (length main) sectors_stream first info
    number_at = ap (λ (n : ℕ). write_block_refusal start None (length main) n first info) part_length

    -- a refusal leaves the stream
    pub first_left :
        (x : ℕ) (stream : List ℕ) → (x ≡ 0 → ⊥) → x ≡ write_block_refusal start None (length main) sectors_stream first info
        → stream ≡ first_laid main first info old → stream ≡ formatted_buffer main first info old
    unfolding formatted_buffer
    first_left x stream h e o =
        o
        ∙ ap (λ (xs : List ℕ). xs ++ drop sectors_stream old) (sym (all_left start None main first info part x h (e ∙ sym number_at)).1)
        ∙ take-append-drop sectors_stream old
        ∙ rw (ne_eqb (format_refusal (length main) (length old) first info) 0 (λ z. h (first_number x l e ∙ z)))

    module _ (stream : List ℕ) (next : Record) (taken : write_block_refusal start None (length main) sectors_stream first info ≡ 0) (ok : Accepted None main first info)
        (o : stream ≡ first_laid main first info old) (n : next ≡ write_block_next start None main first info sectors_stream) (same : length stream ≡ length old) where
      abbrev made : List ℕ
      made = block main first info

      abbrev sectors : Stream
      sectors = sectors_of (running_of start) made sector_count

      abbrev laid : List ℕ
      laid = packed sectors.halves

      wrote : BlockWritten start made (sector_room part)
      wrote =
          parts_written start made part (begins_open (begins_start 1 (omega arith) (omega arith))) (block_length main first info ok) (block_bytes_lem main first info ok) part_length

      next_is : next ≡ after_block start made
      next_is =
          n ∙ ap (write_block_next start None main first info) (sym part_length) ∙ sym (block_next start None main first info part (number_at ∙ taken))

      stream-is : stream ≡ laid ++ drop sectors_stream old
      stream-is = o ∙ ap (λ (xs : List ℕ). xs ++ drop sectors_stream old) (sym (block_out start None main first info part (number_at ∙ taken)))

      laid_length : length laid ≡ sectors_stream
      laid_length =
          let rest = drop sectors_stream old in
          omega (arith, ap length stream-is ∙ length-append laid rest, length-drop sectors_stream old, same)

      rest_is : drop sectors_stream stream ≡ drop sectors_stream old
      rest_is = ap (drop sectors_stream) stream-is ∙ drop_at laid (drop sectors_stream old) sectors_stream laid_length

      rest_length : length (drop sectors_stream old) ≡ closing_size
      rest_length = length-drop sectors_stream old ∙ omega arith

      end_part : take closing_size (drop sectors_stream stream) ≡ drop sectors_stream old
      end_part = ap (take closing_size) rest_is ∙ take_all closing_size (drop sectors_stream old) (omega (arith, rest_length))

      closing_is : closing_out next (take closing_size (drop sectors_stream stream)) ≡ packed (closing_of sectors.running).halves
      unfolding run_calls run_of
      closing_is =
          let rest = drop sectors_stream old in
          ap₂ closing_out next_is end_part
          ∙ (closing_going (after_block start made) (λ j k. []) rest (begins_more (begins_start 1 (omega arith) (omega arith)) wrote) rest_length).stream
          ∙ ap (λ (r : Running). packed (closing_of r).halves) (running_record sectors.running (peak_after start sectors sector_count) sector_count false)

      pub closing_taken : closing_refusal next (length (take closing_size (drop sectors_stream stream))) ≡ 0
      unfolding NoneRefused
      closing_taken =
          let rest = drop sectors_stream old in
          ap₂ (λ (w : Record) (xs : List ℕ). closing_refusal w (length xs)) next_is end_part
          ∙ (closing_going (after_block start made) (λ j k. []) rest (begins_more (begins_start 1 (omega arith) (omega arith)) wrote) rest_length).refusals

      -- the closing code after the sectors
      pub first_closed :
          (end : List ℕ) → end ≡ closing_out next (take closing_size (drop sectors_stream stream))
          → take sectors_stream stream ++ (end ++ drop closing_size (drop sectors_stream stream)) ≡ formatted_buffer main first info old
      unfolding formatted_buffer block_stream run_of
      first_closed end e =
          let nothing : drop closing_size (drop sectors_stream stream) ≡ [] =
          ap₂ drop (sym rest_length) rest_is ∙ drop-length (drop sectors_stream old) in
          let head : take sectors_stream stream ≡ laid = ap (take sectors_stream) stream-is ∙ take_at laid (drop sectors_stream old) sectors_stream laid_length in
          ap₂ (λ (x y : List ℕ). x ++ (end ++ y)) head nothing
          ∙ ap (λ (x : List ℕ). laid ++ x) (append-nil end ∙ e ∙ closing_is)
          ∙ sym (packed-append sectors.halves (closing_of sectors.running).halves)
          ∙ rw (eq-eqb (format_refusal (length main) (length old) first info) 0 (sym (first_number 0 l (sym taken))))
