-- Sectors and Sync Frames on the channel (ECMA-268, clause 21): which SYNC Code opens a frame, and where a byte's Code Word stands.
--   frame_codes, code_of    the SYNC Codes of a sector's frames, and of frame f
--   half_of                the half word of byte i
--   sector_part            sector k of a block's stream
--   block_part, run_size    block k of a run's stream, and how long the stream of n blocks is
-- Assumes nothing.
use Rattle.std.specs.Prelude.{List, [], ◌∷◌, ℕ, ◌+◌, ◌*◌, ◌/◌, ◌%◌, get_or, take, drop}
use Rattle.layout.specs.Lengths.{frame_bytes, frame_halves, sector_frames, sector_stream, sector_read, sectors_stream, closing_size, stream_size}

-- the SYNC Codes of the 13 rows of a sector: in each row that of the first frame, then that of the second
unfoldable pub frame_codes : List ℕ
frame_codes =
    0 ∷ 5 ∷ 1 ∷ 5 ∷ 2 ∷ 5 ∷ 3 ∷ 5 ∷ 4 ∷ 5 ∷
    1 ∷ 6 ∷ 2 ∷ 6 ∷ 3 ∷ 6 ∷ 4 ∷ 6 ∷
    1 ∷ 7 ∷ 2 ∷ 7 ∷ 3 ∷ 7 ∷ 4 ∷ 7 ∷
    []

-- the SYNC Code of frame f, where 26 frames are a sector
unfoldable pub code_of : ℕ → ℕ
code_of f = get_or frame_codes (f % sector_frames) 0

-- the half word of byte i: 93 half words are a frame, of which the first two are its SYNC Code
abbrev pub half_of : ℕ → ℕ
half_of i = i / frame_bytes * frame_halves + 2 + i % frame_bytes

-- sector k of a block's stream, with the two bytes after it
abbrev pub sector_part : List ℕ → ℕ → List ℕ
sector_part xs k = take sector_read (drop (sector_stream * k) xs)

-- block k of a run's stream: its sixteen sectors and the four bytes after them, which are the next block's SYNC Code or the closing code
abbrev pub block_part : List ℕ → ℕ → List ℕ
block_part xs k = take stream_size (drop (sectors_stream * k) xs)

-- the stream of a run of n blocks, in bytes: their sectors, and the closing code
abbrev pub run_size : ℕ → ℕ
run_size n = sectors_stream * n + closing_size
