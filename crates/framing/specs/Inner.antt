-- Vocabulary of inner contracts: where the look finds its next frame. No theorem and no contract of an entry point cites it.
-- Assumes nothing.
use Rattle.std.specs.Prelude.{◌≡◌, true, List, ◌∷◌, ℕ, ◌+◌, ◌≤◌}
use Rattle.layout.specs.Lengths.{frame_bits}
use Rattle.framing.specs.Frames.{frame_at, frames_from}

-- from bit p on the look finds its next frame at bit q, and goes on after it
pub record NextFrame (xs : List ℕ) (p q : ℕ) : Type 0 where
  pub forward : p ≤ q
  pub found : frame_at xs q ≡ true
  pub taken : frames_from xs p ≡ q ∷ frames_from xs (q + frame_bits)
