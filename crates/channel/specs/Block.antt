-- The items of a sector, a run and a block, the permitted streams (run_items, permitted_run, run_stream; of one block permitted_choices, permitted_stream), the bytes
-- and the marks that are read (read_sector, erasures_of_sector, read_block, erasures_of_block), and what damage touches (touched, heavy_rows, overloaded_rows; of two readings
-- clashing_rows). "Permitted stream", "touched", "heavy row", "overloaded row" and "clashing row" are the project's own terms.
-- Assumes nothing.
use Rattle.std.specs.Prelude.{◌≡◌, Bool, false, not, ◌&&◌, ◌||◌, List, [], ◌∷◌, ◌++◌, map, ℕ, zero, suc, ◌+◌, ◌*◌, eqb, ltb, length, take, drop, Option, is_none, unwrap_or}
use Rattle.lists.specs.Bytes.{Bytes}
use Rattle.lists.specs.Fill.{tabulate}
use Rattle.lists.specs.Count.{bit, count_from}
use Rattle.annexg.specs.Read.{read_word}
use Rattle.octets.specs.Halves.{packed, half_at, bit_at}
use Rattle.layout.specs.Lengths.{frame_bytes, sector_frames, block_frames, sector_count, sector_size, row_count, row_size, block_size}
use Rattle.layout.specs.Sectors.{code_of, half_of, sector_part}
use Rattle.channel.specs.Channel.{Item, sync, byte, stream, permitted}

-- ---- the items

-- n Sync Frames, each a SYNC Code and 91 bytes, of which the first is frame f
unfoldable pub frames : ℕ → ℕ → List ℕ → List Item
frames f zero bs = []
frames f (suc n) bs = sync (code_of f) ∷ (map byte (take frame_bytes bs) ++ frames (suc f) n (drop frame_bytes bs))

-- the 26 frames of a sector of 2,366 bytes
abbrev pub sector_items : List ℕ → List Item
sector_items bs = frames 0 sector_frames bs

-- ---- a run of blocks, and its permitted streams

-- any blocks: 37,856 bytes each, whatever they hold
unfoldable pub Blocks : List (List ℕ) → Type 0
Blocks [] = Unit {0}
Blocks (b ∷ run) = ((length b ≡ block_size) × Bytes b) × Blocks run

-- the 16 sectors of each block of a run, one block after the other, and the closing SY0 after the last (document 02, request 1)
unfoldable pub run_items : List (List ℕ) → List Item
run_items [] = sync 0 ∷ []
run_items (b ∷ run) = frames 0 block_frames b ++ run_items run

-- a list of permitted choices over a run, and the permitted stream that it takes: a run starts at State 1 with a SYNC Code, so no half word before it counts.
-- Every later block starts from the State and the half word that the one before it leaves. The last choice is the closing code's, Primary or Secondary
-- (document 02, request 7)
abbrev pub permitted_run : List (List ℕ) → List Bool → Bool
permitted_run run cs = permitted 1 0 (run_items run) cs

abbrev pub run_stream : List (List ℕ) → List Bool → List ℕ
run_stream run cs = packed (stream 1 (run_items run) cs)

-- the same of a single block, which is a run by itself
abbrev pub block_items : List ℕ → List Item
block_items b = run_items (b ∷ [])

abbrev pub permitted_choices : List ℕ → List Bool → Bool
permitted_choices b cs = permitted_run (b ∷ []) cs

abbrev pub permitted_stream : List ℕ → List Bool → List ℕ
permitted_stream b cs = run_stream (b ∷ []) cs

-- ---- reading

-- what the Code Word of byte i of a stream is read as, with the half word after it: a byte, or none where it is unknown
abbrev pub reading_at : List ℕ → ℕ → Option ℕ
reading_at xs i = read_word (half_at xs (half_of i)) (half_at xs (half_of i + 1))

-- the byte that is read: an unknown word gives byte 0
abbrev pub reading_byte : Option ℕ → ℕ
reading_byte r = unwrap_or r 0

unfoldable pub read_at : List ℕ → ℕ → ℕ
read_at xs i = reading_byte (reading_at xs i)

-- whether the word is unknown
abbrev pub is_unknown : Option ℕ → Bool
is_unknown r = is_none r

unfoldable pub unknown_at : List ℕ → ℕ → Bool
unknown_at xs i = is_unknown (reading_at xs i)

-- the sector reader's 2,366 bytes of a sector and the two bytes after it
abbrev pub read_sector : List ℕ → List ℕ
read_sector xs = tabulate (read_at xs) sector_size

-- and its 2,366 marks, '1 for an unknown word and 0 otherwise' (document 02, request 2). The field's word for a marked byte is an erasure
abbrev pub erasures_of_sector : List ℕ → List ℕ
erasures_of_sector xs = tabulate (λ i. bit (unknown_at xs i)) sector_size

-- what f gives of each of n sectors of a stream from sector k on, with the two bytes after it, one after the other
unfoldable pub each_sector : (List ℕ → List ℕ) → List ℕ → ℕ → ℕ → List ℕ
each_sector f xs k zero = []
each_sector f xs k (suc n) = f (sector_part xs k) ++ each_sector f xs (suc k) n

-- the bytes and the marks of a block: of its sixteen sectors
abbrev pub read_block : List ℕ → List ℕ
read_block xs = each_sector read_sector xs 0 sector_count

abbrev pub erasures_of_block : List ℕ → List ℕ
erasures_of_block xs = each_sector erasures_of_sector xs 0 sector_count

-- ---- damage: the stream ys was laid, and xs is read

-- bit j that is read is another than was laid
unfoldable pub changed : List ℕ → List ℕ → ℕ → Bool
changed ys xs j = not (eqb (bit_at xs j) (bit_at ys j))

-- one of the n numbers from k on passes a test
abbrev pub some_from : (ℕ → Bool) → ℕ → ℕ → Bool
some_from t k zero = false
some_from t k (suc n) = t k || some_from t (suc k) n

-- byte i is touched: one of the 16 bits of its own Code Word was changed, or bit 15 or bit 3 of the 16 bits after it, which are the first and the thirteenth
unfoldable pub touched : List ℕ → List ℕ → ℕ → Bool
touched ys xs i =
    let own = 16 * half_of i in
    some_from (changed ys xs) own 16 || (changed ys xs (own + 16) || changed ys xs (own + 28))

-- how many of the 182 bytes of row r are touched
unfoldable pub touched_in : List ℕ → List ℕ → ℕ → ℕ
touched_in ys xs r = count_from (touched ys xs) (r * row_size) row_size

-- how many rows are heavy: more than five of their bytes are touched
unfoldable pub heavy_rows : List ℕ → List ℕ → ℕ
heavy_rows ys xs = count_from (λ r. ltb 5 (touched_in ys xs r)) 0 row_count

-- f of a row: how many of its words are unknown as they are read
unfoldable pub unknown_in : List ℕ → ℕ → ℕ
unknown_in xs r = count_from (unknown_at xs) (r * row_size) row_size

-- e of a row: how many of its other bytes are touched
unfoldable pub touched_known_in : List ℕ → List ℕ → ℕ → ℕ
touched_known_in ys xs r = count_from (λ i. not (unknown_at xs i) && touched ys xs i) (r * row_size) row_size

-- row r is overloaded: 2e + f is over the ten of the row repair's rule (document 02, request 2)
abbrev pub overloaded : List ℕ → List ℕ → ℕ → Bool
overloaded ys xs r = ltb 10 (2 * touched_known_in ys xs r + unknown_in xs r)

-- how many rows are overloaded
unfoldable pub overloaded_rows : List ℕ → List ℕ → ℕ
overloaded_rows ys xs = count_from (overloaded ys xs) 0 row_count

-- ---- damage of two readings: the stream ys was laid, and xs and zs are read in its place (document 02, request 8)

-- row r clashes: a byte of it is touched in both, or both together have more than ten touched bytes whose word is known as it is read
unfoldable pub clashes : List ℕ → List ℕ → List ℕ → ℕ → Bool
clashes ys xs zs r =
    some_from (λ i. touched ys xs i && touched ys zs i) (r * row_size) row_size || ltb 10 (touched_known_in ys xs r + touched_known_in ys zs r)

-- how many rows clash
unfoldable pub clashing_rows : List ℕ → List ℕ → List ℕ → ℕ
clashing_rows ys xs zs = count_from (clashes ys xs zs) 0 row_count
