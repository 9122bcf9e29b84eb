-- The closing code of a run, judged as the SYNC places are (closing_holds).
-- Assumes nothing.
use Rattle.std.specs.Prelude.{Bool, ◌&&◌, List, ℕ, eqb, length}
use Rattle.annexg.specs.Sync.{is_sync}
use Rattle.octets.specs.Halves.{half_at}
use Rattle.layout.specs.Lengths.{closing_size}

-- 'a closing .. SY0 (4 bytes) follows' (document 01, 'Code Words and SYNC Codes'), Primary or Secondary (document 02, request 7): four bytes, whose half words
-- are one of SY0's four codes of table 4, as at every other SYNC place, since the bytes do not tell which class was due
unfoldable pub closing_holds : List ℕ → Bool
closing_holds xs = eqb (length xs) closing_size && is_sync 0 (half_at xs 0) (half_at xs 1)
