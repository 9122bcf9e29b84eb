-- What the whole-block reader answers and leaves: sixteen sectors are read, each with the two bytes after it, and the sixteen answers, in that order, are the
-- block buffer that the repairer gets (document 01, 'Reading a word, and the repair'), with their marks (document 02, request 2).
-- Assumes nothing.
use Rattle.std.specs.Prelude.{Bool, cond, ◌&&◌, List, ℕ, zero, suc, ◌+◌, eqb, length, Option, None, Result, Ok, Err}
use Rattle.layout.specs.Sectors.{sector_part}
use Rattle.channel.specs.Block.{read_block, erasures_of_block}
use Rattle.reader.specs.Sector.{unknown_tally, sync_tally}
use Rattle.repairer.specs.Answer.{of_block, repair_answer, block_after, main_after, repair_refusal, refused_frame}
use Rattle.repairer.specs.declared.Repair.{Repair}
use Rattle.repairer.specs.declared.BlockRefusal.{BlockRefusal}
use Rattle.refusals.specs.declared.Refusal.TheVariants.{Length}
use Rattle.layout.specs.Lengths.{main_size, block_size, stream_size, sector_count}
use Rattle.blockreader.specs.declared.BlockRead.{BlockRead}

-- the sum of a tally over n sectors from sector k on
unfoldable pub sector_sum : (List ℕ → ℕ) → List ℕ → ℕ → ℕ → ℕ
sector_sum f xs k zero = 0
sector_sum f xs k (suc n) = f (sector_part xs k) + sector_sum f xs (suc k) n

-- the repairer's answer with the sums u and s of the two sector tallies
abbrev pub with_sums : Result Repair BlockRefusal → ℕ → ℕ → Result BlockRead BlockRefusal
with_sums (Ok r) u s = Ok (record { first = r.first; tallies = r.tallies; unknown = u; sync = s })
with_sums (Err e) u s = Err e

-- the lengths that the stream, the block buffer, the buffer of marks and the main data buffer have to have
unfoldable pub block_fits : List ℕ → ℕ → ℕ → ℕ → Bool
block_fits xs b e m = eqb (length xs) stream_size && (eqb b block_size && (eqb e block_size && eqb m main_size))

-- the answer to a stream xs, with a block buffer of b bytes, a buffer of e marks and a main data buffer of m bytes: the repairer gets the bytes that were read and
-- the sector reader's marks
unfoldable pub block_read_answer : List ℕ → ℕ → ℕ → ℕ → Result BlockRead BlockRefusal
block_read_answer xs b e m =
    cond (block_fits xs b e m)
    (with_sums (repair_answer (read_block xs) (erasures_of_block xs) m) (sector_sum unknown_tally xs 0 sector_count) (sector_sum sync_tally xs 0 sector_count))
    (Err (of_block Length))

-- the block buffer after the call: what was read, after both repairs; as it was where a length is wrong
unfoldable pub block_read_block : List ℕ → List ℕ → ℕ → ℕ → List ℕ
block_read_block xs old e m = cond (block_fits xs (length old) e m) (block_after (read_block xs) (erasures_of_block xs) m) old

-- the buffer of marks after the call: the sector reader's; as it was where a length is wrong
unfoldable pub block_read_erasures : List ℕ → ℕ → List ℕ → ℕ → List ℕ
block_read_erasures xs b old m = cond (block_fits xs b (length old) m) (erasures_of_block xs) old

-- the main data buffer after the call: the main data where they are handed out, else as it was
unfoldable pub block_read_main : List ℕ → ℕ → ℕ → List ℕ → List ℕ
block_read_main xs b e old = cond (block_fits xs b e (length old)) (main_after (read_block xs) (erasures_of_block xs) old) old

-- ---- document 01's numbers

-- the number that a call is refused with: 1 where a length is wrong, else the repairer's over what was read; 0 where nothing is refused. It is never 11: the sector
-- reader's marks are 0 or 1 (proofs/Numbers, never_eleven)
unfoldable pub block_read_refusal : List ℕ → ℕ → ℕ → ℕ → ℕ
block_read_refusal xs b e m = cond (block_fits xs b e m) (repair_refusal (read_block xs) (erasures_of_block xs) m) 1

-- the frame that a call is refused for, 0 to 15, by the repairer over what was read; none where a length is wrong
unfoldable pub block_read_refused_frame : List ℕ → ℕ → ℕ → ℕ → Option ℕ
block_read_refused_frame xs b e m = cond (block_fits xs b e m) (refused_frame (read_block xs) (erasures_of_block xs) m) None
