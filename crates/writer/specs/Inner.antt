-- Vocabulary of inner contracts: what the functions of src/sector.rt ask of each other, and the parts of a block's stream that src/write.rt lends. None of them is
-- public, and no public contract cites it.
-- Assumes nothing.
use Rattle.std.specs.Prelude.{List, ℕ, ◌*◌, ◌<◌, take, drop}
use Rattle.annexg.specs.Read.{State}
use Rattle.layout.specs.Lengths.{frame_bits, frame_bytes, sector_frames, sector_stream, sector_bits}
use Rattle.layout.specs.Sectors.{code_of}
use Rattle.levels.specs.Inner.{Room}
use Rattle.levels.specs.declared.Running.{Running}
use Rattle.streams.specs.Streams.{Stream, sync_frame_of}

-- frame k of a sector of the bytes bs, from the running record r
abbrev pub frame_at : Running → List ℕ → ℕ → Stream
frame_at r bs k = sync_frame_of r (code_of k) (take frame_bytes (drop (frame_bytes * k) bs))

-- it may begin
pub record FrameBegins (r : Running) (k : ℕ) : Type 0 where
  pub number : k < sector_frames
  pub state : State r.state
  pub room : Room r frame_bits

-- a sector may begin
pub record SectorBegins (r : Running) : Type 0 where
  pub state : State r.state
  pub room : Room r sector_bits

-- the part of a block's stream buffer that is lent for sector k
abbrev pub sector_room : List ℕ → ℕ → List ℕ
sector_room old k = take sector_stream (drop (sector_stream * k) old)
