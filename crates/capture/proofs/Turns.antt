-- A pass from frame to frame: what is left before a frame and after it, of the bytes (bytes_turn) and of the stretches (between_turn), and past the last frame
-- (bytes_end, between_end). Where a frame that is taken ends (found_end). A gap by its bits (gap-some, gap-none).
-- Assumes nothing.
use mathlib.Core.Path.{◌≡◌, ap}
use mathlib.Core.Bool.{Bool, cond}
use mathlib.Core.List.{List, [], ◌∷◌, ◌++◌}
use Prim.Native.Nat.{ℕ, ◌+◌, ◌-◌, ◌<◌, ◌≤◌}
use borrow.Author.Tests.{lt-ltb, le-ltb}
use Rattle.layout.specs.Lengths.{frame_bits, sync_bits}
use Rattle.framing.specs.Frames.{bit_count, frames_from, bytes_of_frame, bytes_of}
use Rattle.framing.specs.Stretches.{gap, between, stretches_from}
use Rattle.framing.specs.Inner.{NextFrame}
use Rattle.framing.proofs.Frames.{frame_end}

module _ (xs : List ℕ) where
  -- a frame was found
  module _ {start frame : ℕ} (next : NextFrame xs start frame) where
    pub found_end : frame + frame_bits + sync_bits ≤ bit_count xs
    found_end = frame_end xs frame next.found

    pub bytes_turn : bytes_of xs (frames_from xs start) ≡ bytes_of_frame xs frame ++ bytes_of xs (frames_from xs (frame + frame_bits))
    unfolding bytes_of
    bytes_turn = ap (bytes_of xs) next.taken

    pub between_turn : stretches_from xs start ≡ gap start frame ++ stretches_from xs (frame + frame_bits)
    unfolding between
    between_turn = ap (λ (ps : List ℕ). between start ps (bit_count xs)) next.taken

  -- no frame was found
  module _ (start : ℕ) (none : frames_from xs start ≡ []) where
    pub bytes_end : bytes_of xs (frames_from xs start) ≡ []
    unfolding bytes_of
    bytes_end = ap (bytes_of xs) none

    pub between_end : stretches_from xs start ≡ gap start (bit_count xs)
    unfolding between
    between_end = ap (λ (ps : List ℕ). between start ps (bit_count xs)) none

-- ---- a gap between two bits

pub gap-some : (a b : ℕ) → a < b → gap a b ≡ record { start = a; bits = b - a } ∷ []
gap-some a b h = ap (λ (t : Bool). cond t (record { start = a; bits = b - a } ∷ []) []) (lt-ltb a b h)

pub gap-none : (a b : ℕ) → b ≤ a → gap a b ≡ []
gap-none a b h = ap (λ (t : Bool). cond t (record { start = a; bits = b - a } ∷ []) []) (le-ltb a b h)
