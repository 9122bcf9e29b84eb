-- Frames, sectors, blocks and runs of blocks by the two-stream rule: each frame starts from the running record that the one before it left. The DSV is set to 0
-- at the beginning of the modulation only (clause 22), and never again.
-- Assumes nothing.
use Rattle.std.specs.Prelude.{Bool, List, [], ◌∷◌, ◌++◌, ℕ, zero, suc, ◌*◌, take, drop}
use Rattle.layout.specs.Sectors.{code_of}
use Rattle.levels.specs.declared.Running.{Running}
use Rattle.layout.specs.Lengths.{sector_count, sector_size, frame_bytes, sector_frames}
use Rattle.streams.specs.Streams.{Stream, fresh, lower, opened, sync_frame_of}

-- a stream after another
abbrev pub joined : Stream → Stream → Stream
joined m k = record { choices = m.choices ++ k.choices; halves = m.halves ++ k.halves; last = k.last; running = k.running }

-- the first n frames of a sector of the bytes bs, 91 bytes a frame
unfoldable pub frames_of : Running → List ℕ → ℕ → Stream
frames_of r bs zero = fresh r
frames_of r bs (suc n) =
    let m = frames_of r bs n in
    joined m (sync_frame_of m.running (code_of n) (take frame_bytes (drop (frame_bytes * n) bs)))

-- a sector is 26 frames
abbrev pub sector_of : Running → List ℕ → Stream
sector_of r bs = frames_of r bs sector_frames

-- the first n sectors of the bytes bs, a block's or any, 2,366 bytes a sector
unfoldable pub sectors_of : Running → List ℕ → ℕ → Stream
sectors_of r bs zero = fresh r
sectors_of r bs (suc n) =
    let m = sectors_of r bs n in
    joined m (sector_of m.running (take sector_size (drop (sector_size * n) bs)))

-- the closing code: of the two streams that lay SY0's codes of the class that the State selects, the lower after the 32 bits, on equality that of the Primary
-- (document 02, request 7)
abbrev pub closing_of : Running → Stream
closing_of r = lower (opened r 0)

-- a run of blocks: the sixteen sectors of each, and the closing code after the last. A later block starts from the running record that the one before it left
unfoldable pub run_of : Running → List (List ℕ) → Stream
run_of r [] = closing_of r
run_of r (b ∷ run) = let m = sectors_of r b sector_count in joined m (run_of m.running run)

-- the choices that the rule takes over a run, the closing code's last
abbrev pub choices_of : Running → List (List ℕ) → List Bool
choices_of r run = (run_of r run).choices
