-- DEMAND 3 (the mission; document 01, 'Reading a word, and the repair'; document 02, request 1), one theorem from the maker's input to the repairer's answer, over a
-- run of blocks.
--   zero_runs  Before any change every permitted stream of a run, whatever bytes its blocks carry, has 2 to 10 ZEROs between ONEs, apart from the 13 in each SYNC
--              Code, seams included.
--   back       For every run of blocks that the maker accepts, each but the first with the number of the one before it, every list of permitted choices over all
--              of it, whoever makes them, every stream of its length that is read in its place, and each block of it: while at most 8 of that block's 208 rows hold
--              more than 5 touched bytes, the reader of its 77,380 bytes refuses nothing and hands out exactly its main data and its first number. What happened to
--              the other blocks does not matter, but for the SYNC Code after the block, which is in those bytes.
--   farther    The same, while at most 8 rows have 2e + f over 10, where f counts the row's unknown words as read and e its other touched bytes (document 02, request
--              2). It holds wherever back does (overloaded_heavy), and back is proved from it.
-- The theorem of one block (demand3_block) is its corollary.
-- 'The reader of demand 3 is sixteen calls of the sector reader and then one of the repairer', which gets their marks. The whole-block reader, which is one call,
-- stands beside it.
--
-- The definitions it is stated over, and the functions whose contracts cite them:
--   Accepted, block; AcceptedRun, run_blocks  eccblock/specs/Encode, Block;   eccblock::encode_block
--                                            Run
--   permitted_run, run_stream                  channel/specs/Block             the writer's are among them: run_written (writer/proofs/Runs)
--   block_part, run_size                       layout/specs/Sectors            block k of a run's stream, and how long the stream is
--   heavy_rows, overloaded_rows (touched,      channel/specs/Block             the damage, which no function knows
--   changed, unknown_at)
--   bits_bytes, block_zero_run_fits              channel/specs/Bits              the zero runs, which no call of this theorem tests
--   Buffers, Lent, call_answer, block_bytes,   reader/specs/Session            sixteen calls, by the two lines below
--   block_erasures
--   sector_answer, sector_after,               reader/specs/Sector             reader::read_sector
--   erasures_after
--   answer_number                              refusals/specs/Refusal          refusals::answer_number
--   repair_answer, main_after, tallies_of       repairer/specs/Answer, Repair   repairer::repair_block
--   block_read_answer, block_read_main,          blockreader/specs/BlockReader   blockreader::read_block
--   sector_sum (read_block, erasures_of_block,
--   unknown_tally, sync_tally)
-- Assumes nothing.
use mathlib.Core.Path.{◌≡◌, subst}
use mathlib.Core.Bool.{Bool}
use mathlib.Core.List.{List, [], ◌∷◌, ◌++◌}
use Prim.Native.Nat.{ℕ, ◌*◌, ◌<◌, ◌≤◌}
use Rattle.std.specs.Prelude.{Option, None, Ok}
use Rattle.refusals.specs.Refusal.{answer_number}
use native.Mathlib.Omega.{arith}
use borrow.Author.Tests.{eq-eqb}
use lib.Dec.{T}
use lib.ListN.{length, drop, replicate, length-append, length-drop}
use lib.Seq.{length-take-le, take_all}
use Rattle.lists.specs.Bytes.{Bytes}
use Rattle.lists.proofs.Bytes.{take-bytes, drop-bytes}
use Rattle.layout.specs.Lengths.{main_size, block_size, sectors_stream, stream_size, sector_count}
use Rattle.layout.specs.Sectors.{block_part, run_size}
use Rattle.eccblock.specs.Block.{block}
use Rattle.eccblock.specs.Encode.{Accepted}
use Rattle.eccblock.specs.Run.{BlockInput, AcceptedRun, run_blocks}
use Rattle.eccblock.proofs.Laws.{block_length, block_bytes_lem}
use Rattle.eccblock.proofs.Runs.{accepted_any}
use Rattle.channel.specs.Block.{Blocks, permitted_run, run_stream, permitted_choices, permitted_stream, heavy_rows, overloaded_rows, read_block, erasures_of_block}
use Rattle.channel.specs.Bits.{bits_bytes, block_zero_run_fits}
use Rattle.channel.proofs.Rows.{LaidBlock}
use Rattle.channel.proofs.Sectors.{overloaded_heavy}
use Rattle.channel.proofs.Runs.{run_stream-length}
use Rattle.channel.proofs.RunZeroRuns.{run_zero_runs}
use Rattle.reader.specs.Sector.{unknown_tally, sync_tally}
use Rattle.reader.specs.Session.{Buffers, Lent, call_answer, block_bytes, block_erasures}
use Rattle.reader.proofs.Calls.{call_number≡0, block_bytes≡read_block, block_erasures≡erasures_of_block}
use Rattle.repairer.specs.Repair.{tallies_of}
use Rattle.repairer.specs.Answer.{repair_answer, main_after}
use Rattle.blockreader.specs.BlockReader.{sector_sum, block_fits, block_read_answer, block_read_main}
use Rattle.blockreader.proofs.Numbers.{marks_length, marks_fit_lem}
use Rattle.theorems.proofs.ReadBytes.{read_block_length, read_block_bytes}
use Rattle.theorems.proofs.Chain.{far_rows, handed_out, main_back}
use Rattle.theorems.proofs.Rows.{far_overloaded}
use Rattle.theorems.proofs.Runs.{accepted_at, run_part}

-- ---- what is claimed

-- k ZEROs between the ONE at bit `length head` of a stream and its next ONE: 2 to 10, or the thirteen at their place in a SYNC Code
abbrev pub ZeroRunsFit : List ℕ → Type 0
ZeroRunsFit ys = (head tail : List ℕ) (k : ℕ) → bits_bytes ys ≡ head ++ 1 ∷ (replicate k 0 ++ 1 ∷ tail) → T (block_zero_run_fits (length head) k)

-- the stream xs by sixteen calls of the sector reader and then one of the repairer. b is what the buffers of the sixteen calls held before, and the main data buffer
-- held old
pub record ByCalls (main : List ℕ) (first : ℕ) (xs : List ℕ) (b : Buffers) (old : List ℕ) : Type 0 where
  -- no sector is refused,
  pub sectors : (k : ℕ) → k < sector_count → answer_number (call_answer xs b k) ≡ 0
  -- the repairer gets the sixteen buffers of bytes and of marks, refuses nothing and hands out the first number
  pub answer : repair_answer (block_bytes xs b) (block_erasures xs b) (length old)
      ≡ Ok (record { first = first; tallies = tallies_of (block_bytes xs b) (block_erasures xs b) })
  -- and the main data
  pub main_data : main_after (block_bytes xs b) (block_erasures xs b) old ≡ main

-- the main data and the first number are handed out of the stream xs
pub record HandedOut (main : List ℕ) (first : ℕ) (xs : List ℕ) : Type 0 where
  -- by the calls, whatever their buffers of the stated lengths held before,
  pub calls : (b : Buffers) (old : List ℕ) → Lent b → length old ≡ main_size → ByCalls main first xs b old
  -- and by the one call of the whole-block reader
  pub whole_answer :
      block_read_answer xs block_size block_size main_size
      ≡ Ok (record {
        first = first;
        tallies = tallies_of (read_block xs) (erasures_of_block xs);
        unknown = sector_sum unknown_tally xs 0 sector_count;
        sync = sector_sum sync_tally xs 0 sector_count;
      })
  pub whole_main_data : (old : List ℕ) → length old ≡ main_size → block_read_main xs block_size block_size old ≡ main

pub record Demand3 : Type 0 where
  -- any blocks of 37,856 bytes, laid by any permitted choices
  pub zero_runs : (run : List (List ℕ)) (cs : List Bool) → Blocks run → T (permitted_run run cs) → ZeroRunsFit (run_stream run cs)
  -- any accepted run, laid by any permitted choices, and any bytes xs read in place of its stream: block k of the run, made of the input i, with k blocks before it,
  -- while at most 8 of its rows are heavy,
  pub back : (before : List BlockInput) (i : BlockInput) (after : List BlockInput)
      → let run = before ++ i ∷ after in
      let k = length before in
      AcceptedRun None run → (cs : List Bool) → T (permitted_run (run_blocks run) cs)
      → (xs : List ℕ) → length xs ≡ run_size (length run) → Bytes xs → heavy_rows (block_part (run_stream (run_blocks run) cs) k) (block_part xs k) ≤ 8
      → HandedOut i.main i.first (block_part xs k)
  -- and farther than that, while at most 8 of its rows are overloaded
  pub farther : (before : List BlockInput) (i : BlockInput) (after : List BlockInput)
      → let run = before ++ i ∷ after in
      let k = length before in
      AcceptedRun None run → (cs : List Bool) → T (permitted_run (run_blocks run) cs)
      → (xs : List ℕ) → length xs ≡ run_size (length run) → Bytes xs → overloaded_rows (block_part (run_stream (run_blocks run) cs) k) (block_part xs k) ≤ 8
      → HandedOut i.main i.first (block_part xs k)

-- the same of one block, with the closing code after it
pub record Demand3Block : Type 0 where
  pub zero_runs : (bs : List ℕ) (cs : List Bool) → length bs ≡ block_size → Bytes bs → T (permitted_choices bs cs)
      → ZeroRunsFit (permitted_stream bs cs)
  pub back : {previous : Option ℕ} (main : List ℕ) (first info : ℕ) → Accepted previous main first info → (cs : List Bool)
      → T (permitted_choices (block main first info) cs)
      → (xs : List ℕ) → length xs ≡ stream_size → Bytes xs → heavy_rows (permitted_stream (block main first info) cs) xs ≤ 8
      → HandedOut main first xs
  pub farther : {previous : Option ℕ} (main : List ℕ) (first info : ℕ) → Accepted previous main first info → (cs : List Bool)
      → T (permitted_choices (block main first info) cs)
      → (xs : List ℕ) → length xs ≡ stream_size → Bytes xs → overloaded_rows (permitted_stream (block main first info) cs) xs ≤ 8
      → HandedOut main first xs

-- ---- and proved

module _ {previous : Option ℕ} (main : List ℕ) (first info : ℕ) (ok : Accepted previous main first info) (xs : List ℕ) (whole : length xs ≡ stream_size) where
  abbrev made : List ℕ
  made = block main first info

  -- what was read is handed out while at most 8 of its rows are far from the made block's
  pub near_handed_out : far_rows (read_block xs) (erasures_of_block xs) made ≤ 8 → HandedOut main first xs
  unfolding block_read_answer block_read_main block_fits
  near_handed_out near =
      let rs = read_block xs in
      let ms = erasures_of_block xs in
      let answers = handed_out main first info ok rs ms (read_block_length xs) (read_block_bytes xs) near (marks_length xs) (marks_fit_lem xs) in
      let gives = main_back main first info ok rs ms (read_block_length xs) (read_block_bytes xs) near (marks_length xs) (marks_fit_lem xs) in
      record {
        calls = λ b old lent l. record {
          sectors = call_number≡0 xs b whole lent;
          answer = rw (block_bytes≡read_block xs b whole lent, block_erasures≡erasures_of_block xs b whole lent, l) answers;
          main_data = rw (block_bytes≡read_block xs b whole lent, block_erasures≡erasures_of_block xs b whole lent) (gives old l);
        };
        whole_answer = rw (eq-eqb (length xs) stream_size whole, answers);
        whole_main_data = λ old l. rw (eq-eqb (length xs) stream_size whole, eq-eqb (length old) main_size l) (gives old l);
      }

  -- no more rows are far than are overloaded, wherever in a run the block was laid,
  pub laid_farther : {ys : List ℕ} → LaidBlock made ys → Bytes xs → overloaded_rows ys xs ≤ 8 → HandedOut main first xs
  laid_farther m hx few = near_handed_out (omega (arith, far_overloaded m xs hx, few))

  -- and no more are overloaded than are heavy
  pub laid_back : {ys : List ℕ} → LaidBlock made ys → Bytes xs → heavy_rows ys xs ≤ 8 → HandedOut main first xs
  laid_back m hx few = laid_farther m hx (omega (arith, overloaded_heavy m xs hx, few))

-- block k of the bytes of a run of more than k blocks is 77,380 bytes
pub part_length : (xs : List ℕ) (k n : ℕ) → k < n → length xs ≡ run_size n → length (block_part xs k) ≡ stream_size
part_length xs k n h e = length-take-le stream_size (drop (sectors_stream * k) xs) (omega (arith, length-drop (sectors_stream * k) xs))

pub part_bytes : (xs : List ℕ) (k : ℕ) → Bytes xs → Bytes (block_part xs k)
part_bytes xs k h = take-bytes stream_size (drop (sectors_stream * k) xs) (drop-bytes (sectors_stream * k) xs h)

pub in_run : (before : List BlockInput) (i : BlockInput) (after : List BlockInput) → length before < length (before ++ i ∷ after)
in_run before i after = omega (arith, length-append before (i ∷ after))

pub demand3 : Demand3
demand3 = record {
  zero_runs = run_zero_runs;
  back = λ before i after ok cs p xs size hx few.
      laid_back i.main i.first i.info (accepted_at None before i after ok) (block_part xs (length before))
      (part_length xs (length before) (length (before ++ i ∷ after)) (in_run before i after) size) (run_part before i after cs ok p)
      (part_bytes xs (length before) hx) few;
  farther = λ before i after ok cs p xs size hx few.
      laid_farther i.main i.first i.info (accepted_at None before i after ok) (block_part xs (length before))
      (part_length xs (length before) (length (before ++ i ∷ after)) (in_run before i after) size) (run_part before i after cs ok p)
      (part_bytes xs (length before) hx) few;
}

-- ---- one block

-- the only block of a run is all of its stream
part_all : (xs : List ℕ) → length xs ≡ stream_size → block_part xs 0 ≡ xs
part_all xs e = take_all stream_size xs (omega arith)

module _ (main : List ℕ) (first info : ℕ) (ok : Accepted None main first info) (cs : List Bool) (p : T (permitted_choices (block main first info) cs)) where
  abbrev laid : List ℕ
  laid = permitted_stream (block main first info) cs

  abbrev input : BlockInput
  input = record { main = main; first = first; info = info }

  laid_all : block_part laid 0 ≡ laid
  unfolding Blocks
  laid_all = part_all laid (run_stream-length (block main first info ∷ []) cs ((block_length main first info ok, block_bytes_lem main first info ok), tt) p)

  one_back : (xs : List ℕ) → length xs ≡ stream_size → Bytes xs → heavy_rows laid xs ≤ 8 → HandedOut main first xs
  unfolding AcceptedRun run_blocks
  one_back xs size hx few =
      subst (HandedOut main first) (part_all xs size) (demand3.back [] input [] (ok, tt) cs p xs size hx (rw (laid_all, part_all xs size) few))

  one_farther : (xs : List ℕ) → length xs ≡ stream_size → Bytes xs → overloaded_rows laid xs ≤ 8 → HandedOut main first xs
  unfolding AcceptedRun run_blocks
  one_farther xs size hx few =
      subst (HandedOut main first) (part_all xs size) (demand3.farther [] input [] (ok, tt) cs p xs size hx (rw (laid_all, part_all xs size) few))

pub demand3_block : Demand3Block
unfolding Blocks
demand3_block = record {
  zero_runs = λ bs cs e hb p. demand3.zero_runs (bs ∷ []) cs ((e, hb), tt) p;
  back = λ main first info ok. one_back main first info (accepted_any ok);
  farther = λ main first info ok. one_farther main first info (accepted_any ok);
}
