-- Calls of the sector reader one after the other over the stream xs of a block: 'each sector in turn is read, with the two bytes after it' (document 01, 'Reading
-- a word, and the repair'). The laws are about these:
--   Buffers, Lent               what the buffers of the sixteen calls hold before, and that they have the stated length
--   call_answer                  what the call for sector k answers,
--   call_bytes, call_erasures     and what its two buffers hold then
--   block_bytes, block_erasures   the sixteen buffers of bytes, and of marks
-- Assumes nothing.
use Rattle.std.specs.Prelude.{◌≡◌, List, [], ◌++◌, ℕ, zero, suc, ◌<◌, length, Result}
use Rattle.layout.specs.Sectors.{sector_part}
use Rattle.layout.specs.Lengths.{sector_count, sector_size}
use Rattle.reader.specs.Sector.{sector_answer, sector_after, erasures_after}
use Rattle.reader.specs.declared.SectorTally.{SectorTally}
use Rattle.refusals.specs.declared.Refusal.{Refusal}

-- what the two buffers lent for sector k hold before its call
pub record Buffers : Type 0 where
  pub bytes : ℕ → List ℕ
  pub erasures : ℕ → List ℕ

-- sixteen of each, of 2,366 bytes, whatever they hold
pub record Lent (b : Buffers) : Type 0 where
  pub bytes-sized : (k : ℕ) → k < sector_count → length (b.bytes k) ≡ sector_size
  pub erasures-sized : (k : ℕ) → k < sector_count → length (b.erasures k) ≡ sector_size

-- what the call for sector k answers, and what its buffers hold at exit
abbrev pub call_answer : List ℕ → Buffers → ℕ → Result SectorTally Refusal
call_answer xs b k = sector_answer (sector_part xs k) (length (b.bytes k)) (length (b.erasures k))

abbrev pub call_bytes : List ℕ → Buffers → ℕ → List ℕ
call_bytes xs b k = sector_after (sector_part xs k) (b.bytes k) (length (b.erasures k))

abbrev pub call_erasures : List ℕ → Buffers → ℕ → List ℕ
call_erasures xs b k = erasures_after (sector_part xs k) (length (b.bytes k)) (b.erasures k)

-- f 0, f 1 .. f (n-1), one after the other
unfoldable pub joined : (ℕ → List ℕ) → ℕ → List ℕ
joined f zero = []
joined f (suc n) = joined f n ++ f n

-- 'the sixteen answers of 2,366 bytes, in that order, are the block buffer that the repairer gets', and so are the marks (document 02, request 2)
abbrev pub block_bytes : List ℕ → Buffers → List ℕ
block_bytes xs b = joined (call_bytes xs b) sector_count

abbrev pub block_erasures : List ℕ → Buffers → List ℕ
block_erasures xs b = joined (call_erasures xs b) sector_count
