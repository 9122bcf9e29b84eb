-- Calls of the writer one after the other, each with the record that the call before it handed back. The laws are about these:
--   Way: writes, takes       the two ways to write a sector: by the single write, or by a trial and then a take
--   sector_calls              sectors, as those of a block
--   run_calls, NoneRefused    the sectors of a run and closing, and that nothing is refused
--   Handed                   a record that the writer hands back
-- Assumes nothing.
use Rattle.std.specs.Prelude.{◌≡◌, cond, List, [], ◌∷◌, ◌++◌, ℕ, zero, suc, ◌*◌, ◌<◌, eqb, length, take, drop}
use Rattle.lists.specs.Bytes.{Bytes}
use Rattle.layout.specs.Lengths.{sector_count, sector_size}
use Rattle.writer.specs.Answers.{sector_refusal, sector_next, sector_out, trial_next, take_refusal, take_next, take_out, closing_refusal, closing_next, closing_out}
use Rattle.writer.specs.Records.{start}
use Rattle.writer.specs.declared.Record.{Record}

-- ---- a sector

-- a way to write a sector, from a record, the sector's bytes and what the buffer lent for it holds: the number that it is refused with, 0 where it is not, what the
-- buffer holds then, and the record handed back
pub record Way : Type 0 where
  pub number : Record → List ℕ → List ℕ → ℕ
  pub bytes : Record → List ℕ → List ℕ → List ℕ
  pub next : Record → List ℕ → List ℕ → Record

-- the single write
abbrev pub writes : Way
writes =
    record {
      number = λ w bs out. sector_refusal w (length bs) (length out);
      bytes = λ w bs out. sector_out w bs out;
      next = λ w bs out. sector_next w bs (length out);
    }

-- a trial and then a take of the same bytes, with the same buffer; the number is that of the first of the two that is refused (document 02, request 5)
abbrev pub takes : Way
takes =
    record {
      number =
          λ w bs out.
          let refusal = sector_refusal w (length bs) (length out) in
          cond (eqb refusal 0) (take_refusal (trial_next w bs (length out)) bs (length out)) refusal;
      bytes = λ w bs out. take_out (trial_next w bs (length out)) bs out;
      next = λ w bs out. take_next (trial_next w bs (length out)) bs (length out);
    }

-- ---- sectors and runs

-- the buffers at exit, one after the other, and the record handed back last
pub record Session : Type 0 where
  pub bytes : List ℕ
  pub next : Record

-- the bytes of sector k of the bytes bs
abbrev pub sector_at : List ℕ → ℕ → List ℕ
sector_at bs k = take sector_size (drop (sector_size * k) bs)

-- the first n sectors of the bytes bs, a block's or any, from the record w; outs k is what the buffer lent for sector k holds before
unfoldable pub sector_calls : Way → Record → List ℕ → (ℕ → List ℕ) → ℕ → Session
sector_calls way w bs outs zero = record { bytes = []; next = w }
sector_calls way w bs outs (suc n) =
    let s = sector_calls way w bs outs n in
    record { bytes = s.bytes ++ way.bytes s.next (sector_at bs n) (outs n); next = way.next s.next (sector_at bs n) (outs n) }

-- the sectors of a run, block after block from the record w, and then closing; outs j k is what the buffer lent for sector k of block j holds before, end what
-- that for the closing code does
unfoldable pub run_calls : Way → Record → List (List ℕ) → (ℕ → ℕ → List ℕ) → List ℕ → Session
run_calls way w [] outs end = record { bytes = closing_out w end; next = closing_next w (length end) }
run_calls way w (b ∷ run) outs end =
    let s = sector_calls way w b (outs 0) sector_count in
    let t = run_calls way s.next run (λ j. outs (suc j)) end in
    record { bytes = s.bytes ++ t.bytes; next = t.next }

-- none of these calls is refused
unfoldable pub NoneRefused : Way → Record → List (List ℕ) → (ℕ → ℕ → List ℕ) → List ℕ → Type 0
NoneRefused way w [] outs end = closing_refusal w (length end) ≡ 0
NoneRefused way w (b ∷ run) outs end =
    ((k : ℕ) → k < sector_count → way.number (sector_calls way w b (outs 0) k).next (sector_at b k) (outs 0 k) ≡ 0)
    × NoneRefused way (sector_calls way w b (outs 0) sector_count).next run (λ j. outs (suc j)) end

-- ---- the record

-- a record that the writer hands back, at its start or after any calls; the sectors of a block leave one too (`block_handed`, formatter/proofs/Runs)
pub data Handed : Record → Type 0 where
  at_start : Handed start
  after_trial : (w : Record) (bs : List ℕ) (to : ℕ) → Handed w → Handed (trial_next w bs to)
  after_take : (w : Record) (bs : List ℕ) (to : ℕ) → Bytes bs → Handed w → Handed (take_next w bs to)
  after_closing_lem : (w : Record) (to : ℕ) → Handed w → Handed (closing_next w to)
