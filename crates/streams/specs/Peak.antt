-- The peak of a stream: the greatest absolute DSV at the end of a Sync Frame (document 02, request 4).
--   swing_at    the absolute DSV at the end of one frame
--   peak_of     the greatest over the first frames
-- The stream is the one written, so after each change of a SYNC Code. Only frames are counted: a closing code ends none.
-- Assumes nothing.
use Rattle.std.specs.Prelude.{List, ℕ, zero, suc, ◌*◌, max, take}
use Rattle.channel.specs.Bits.{bits_all}
use Rattle.layout.specs.Lengths.{frame_halves}
use Rattle.levels.specs.Level.{magnitude, dsv_after}
use Rattle.levels.specs.declared.Running.{Running}

-- the absolute DSV at the end of Sync Frame k of the half words hs, which start from the running record r: after the 1,488 bits of each frame up to it
abbrev pub swing_at : Running → List ℕ → ℕ → ℕ
swing_at r hs k = magnitude (dsv_after r.level r.dsv (bits_all (take (frame_halves * suc k) hs)))

-- the greatest at the ends of the first n Sync Frames; 0 before the first
unfoldable pub peak_of : Running → List ℕ → ℕ → ℕ
peak_of r hs zero = 0
peak_of r hs (suc n) = max (peak_of r hs n) (swing_at r hs n)
