-- The sector reader: its bytes, its marks, its tallies and what a call leaves (document 01, 'Reading a word, and the repair'; document 02, request 2).
-- Assumes nothing.
use Rattle.std.specs.Prelude.{Bool, not, cond, ◌&&◌, List, ℕ, ◌+◌, ◌*◌, eqb, length, Result, Ok, Err}
use Rattle.lists.specs.Count.{count_from}
use Rattle.annexg.specs.Sync.{is_sync}
use Rattle.layout.specs.Sectors.{code_of}
use Rattle.octets.specs.Halves.{half_at}
use Rattle.channel.specs.Block.{read_sector, unknown_at, erasures_of_sector}
use Rattle.layout.specs.Lengths.{sector_size, sector_read, frame_halves, sector_frames}
use Rattle.refusals.specs.declared.Refusal.{Refusal}
use Rattle.refusals.specs.declared.Refusal.TheVariants.{Length}
use Rattle.reader.specs.declared.SectorTally.{SectorTally}

-- the SYNC place of frame f holds none of the four codes due there; a frame is 93 half words
unfoldable pub lost_sync : List ℕ → ℕ → Bool
lost_sync xs f = not (is_sync (code_of f) (half_at xs (frame_halves * f)) (half_at xs (frame_halves * f + 1)))

-- the two tallies of a sector: of its 2,366 words the unknown ones, and of its 26 SYNC places those that hold none of the codes due there
unfoldable pub unknown_tally : List ℕ → ℕ
unknown_tally xs = count_from (unknown_at xs) 0 sector_size

unfoldable pub sync_tally : List ℕ → ℕ
sync_tally xs = count_from (lost_sync xs) 0 sector_frames

abbrev pub sector_tally : List ℕ → SectorTally
sector_tally xs = record { unknown = unknown_tally xs; sync = sync_tally xs }

-- a sector and the two bytes after it are 4,838 bytes; the buffer lent for its bytes has n, and the one for its marks m: 2,366 each
unfoldable pub sector_fits : List ℕ → ℕ → ℕ → Bool
sector_fits xs n m = eqb (length xs) sector_read && (eqb n sector_size && eqb m sector_size)

-- the answer, and the two buffers after the call: as they were where a length is wrong
unfoldable pub sector_answer : List ℕ → ℕ → ℕ → Result SectorTally Refusal
sector_answer xs n m = cond (sector_fits xs n m) (Ok (sector_tally xs)) (Err Length)

unfoldable pub sector_after : List ℕ → List ℕ → ℕ → List ℕ
sector_after xs old m = cond (sector_fits xs (length old) m) (read_sector xs) old

unfoldable pub erasures_after : List ℕ → ℕ → List ℕ → List ℕ
erasures_after xs n old = cond (sector_fits xs n (length old)) (erasures_of_sector xs) old

-- the number that a call is refused with: 1 where a length is another than stated, 0 where nothing is refused
unfoldable pub sector_read_refusal : List ℕ → ℕ → ℕ → ℕ
sector_read_refusal xs n m = cond (sector_fits xs n m) 0 1
