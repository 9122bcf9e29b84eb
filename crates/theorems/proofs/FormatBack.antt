-- What is formatted has the zero runs of demand 3 and is read back, block by block, by sixteen calls of the sector reader and one of the repairer, or by the
-- whole-block reader: a run (run_back), and a run of one block in one call (format_back).
-- Assumes nothing.
use mathlib.Core.Bool.{Bool}
use mathlib.Core.List.{List, [], ◌∷◌, ◌++◌}
use mathlib.Core.Path.{◌≡◌, refl, sym, subst}
use Prim.Native.Nat.{ℕ, ◌<◌, ◌≤◌}
use Rattle.std.specs.Prelude.{None}
use borrow.Author.Tests.{eq-eqb}
use lib.Dec.{T}
use lib.ListN.{length}
use Rattle.lists.specs.Bytes.{Bytes}
use Rattle.layout.specs.Lengths.{stream_size, closing_size}
use Rattle.layout.specs.Sectors.{block_part, run_size}
use Rattle.channel.specs.Block.{permitted_run, run_stream, permitted_stream, heavy_rows, overloaded_rows}
use Rattle.eccblock.specs.Block.{block}
use Rattle.eccblock.specs.Encode.{Accepted}
use Rattle.eccblock.specs.Run.{BlockInput, AcceptedRun, run_blocks}
use Rattle.eccblock.proofs.Laws.{block_length, block_bytes_lem}
use Rattle.streams.specs.Frames.{choices_of}
use Rattle.streams.proofs.Frames.{run_permitted, run_stream_lem}
use Rattle.writer.specs.Records.{start, running_of}
use Rattle.formatter.specs.Formatter.{block_stream, format_refusal, formatted_buffer}
use Rattle.formatter.specs.Session.{block_calls, BlocksTaken}
use Rattle.formatter.proofs.Runs.{BlockRooms, accepted_blocks, run_formatted}
use Rattle.theorems.proofs.Demand.{ZeroRunsFit, HandedOut, demand3, demand3_block}
use Rattle.theorems.proofs.Undamaged.{Undamaged, run_undamaged, block_undamaged}

-- ---- a run

-- block i of the stream ys of a run, k blocks having gone before it
pub record BlockBack (i : BlockInput) (ys : List ℕ) (k n : ℕ) : Type 0 where
  -- as it is, it reads to its main data and its first number, with every tally 0
  pub whole : Undamaged i.main i.first (block_part ys k)
  -- whatever is read in place of the run reads to the same, while at most 8 of the block's rows hold more than 5 touched bytes
  pub scratched : (xs : List ℕ) → length xs ≡ run_size n → Bytes xs → heavy_rows (block_part ys k) (block_part xs k) ≤ 8
      → HandedOut i.main i.first (block_part xs k)
  -- and while at most 8 of them have 2e + f over 10
  pub scratched_farther : (xs : List ℕ) → length xs ≡ run_size n → Bytes xs → overloaded_rows (block_part ys k) (block_part xs k) ≤ 8
      → HandedOut i.main i.first (block_part xs k)

-- the stream ys that the formatter made of a run
pub record RunBack (is : List BlockInput) (ys : List ℕ) : Type 0 where
  -- it has 2 to 10 ZEROs between ONEs, apart from the 13 in each SYNC Code, and each block is read back
  pub zero_runs : ZeroRunsFit ys
  pub blocks : (before : List BlockInput) (i : BlockInput) (after : List BlockInput) → before ++ i ∷ after ≡ is
      → BlockBack i ys (length before) (length is)

permitted_back : (is : List BlockInput) → AcceptedRun None is → (cs : List Bool) → T (permitted_run (run_blocks is) cs) → RunBack is (run_stream (run_blocks is) cs)
permitted_back is ok cs p = record {
  zero_runs = demand3.zero_runs (run_blocks is) cs (accepted_blocks None is ok) p;
  blocks = λ before i after e.
      subst (λ (run : List BlockInput). BlockBack i (run_stream (run_blocks run) cs) (length before) (length run)) e
      (block_back before i after (subst (AcceptedRun None) (sym e) ok) (subst (λ (run : List BlockInput). T (permitted_run (run_blocks run) cs)) (sym e) p));
}
  where
    block_back : (before : List BlockInput) (i : BlockInput) (after : List BlockInput) → AcceptedRun None (before ++ i ∷ after)
        → T (permitted_run (run_blocks (before ++ i ∷ after)) cs)
        → BlockBack i (run_stream (run_blocks (before ++ i ∷ after)) cs) (length before) (length (before ++ i ∷ after))
    block_back before i after ok p =
        record { whole = run_undamaged before i after ok cs p; scratched = demand3.back before i after ok cs p; scratched_farther = demand3.farther before i after ok cs p }

-- A RUN FORMATTED AND READ BACK: the blocks of an accepted run and closing are not refused, whatever the buffers held before, and what they hold then is read back
pub run_back :
    (is : List BlockInput) (outs : ℕ → List ℕ) (end : List ℕ) → 0 < length is → AcceptedRun None is → BlockRooms outs (length is) → length end ≡ closing_size
    → BlocksTaken start None is outs end × RunBack is (block_calls start None is outs end).bytes
run_back is outs end some ok rooms l =
    let f = run_formatted is outs end some ok rooms l in
    (f.refusals, subst (RunBack is) (sym f.stream) (permitted_back is ok (choices_of (running_of start) (run_blocks is)) f.choices))

-- ---- one block

-- the stream ys that the formatter made of one block
pub record Back (main : List ℕ) (first : ℕ) (ys : List ℕ) : Type 0 where
  pub zero_runs : ZeroRunsFit ys
  pub whole : Undamaged main first ys
  pub scratched : (xs : List ℕ) → length xs ≡ stream_size → Bytes xs → heavy_rows ys xs ≤ 8 → HandedOut main first xs
  pub scratched_farther : (xs : List ℕ) → length xs ≡ stream_size → Bytes xs → overloaded_rows ys xs ≤ 8 → HandedOut main first xs

module _ (main : List ℕ) (first info : ℕ) (ok : Accepted None main first info) where
  abbrev made : List ℕ
  made = block main first info

  abbrev choices : List Bool
  choices = choices_of (running_of start) (made ∷ [])

  choices-permitted : T (permitted_run (made ∷ []) choices)
  choices-permitted = run_permitted (running_of start) (made ∷ []) refl

  block_stream≡permitted_stream : block_stream made ≡ permitted_stream made choices
  unfolding block_stream
  block_stream≡permitted_stream = run_stream_lem (running_of start) (made ∷ []) refl

  stream_back : Back main first (permitted_stream made choices)
  stream_back = record {
    zero_runs = demand3_block.zero_runs made choices (block_length main first info ok) (block_bytes_lem main first info ok) choices-permitted;
    whole = block_undamaged main first info ok choices choices-permitted;
    scratched = demand3_block.back main first info ok choices choices-permitted;
    scratched_farther = demand3_block.farther main first info ok choices choices-permitted;
  }

  -- FORMATTED AND READ BACK: an accepted block is not refused, whatever the stream buffer held before, and what it holds then is read back
  pub format_back : (old : List ℕ) → length old ≡ stream_size → (format_refusal (length main) (length old) first info ≡ 0) × Back main first (formatted_buffer main first info old)
  unfolding formatted_buffer format_refusal
  format_back old l = (
    rw (eq-eqb (length old) stream_size l) ok.taken,
    rw (eq-eqb (length old) stream_size l, ok.taken, block_stream≡permitted_stream) stream_back,
  )
