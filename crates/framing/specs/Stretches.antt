-- The stretches of a capture (document 02, request 6): 'Bits in no taken frame are reported as stretches, each a start and a length in bits and each as long as it
-- can be'.
--   Stretch                    a start and a length
--   gap, between               what lies between two bits, and beside frames
--   stretches_from              the stretches of a capture
--   in_frame, in_stretch         whether a bit is in one of them
-- That this is what the request says is the law `Laid out` of proofs/Cover.
-- Assumes nothing.
use Rattle.std.specs.Prelude.{Bool, false, cond, ◌&&◌, ◌||◌, List, [], ◌∷◌, ◌++◌, ℕ, ◌+◌, ◌-◌, leb, ltb}
use Rattle.layout.specs.Lengths.{frame_bits}
use Rattle.framing.specs.Frames.{bit_count, frames_from}

-- a start and a length, both in bits
pub record Stretch : Type 0 where
  pub start : ℕ
  pub bits : ℕ

-- the bits from bit a up to bit b, where there are any
abbrev pub gap : ℕ → ℕ → List Stretch
gap a b = cond (ltb a b) (record { start = a; bits = b - a } ∷ []) []

-- the bits from bit a up to bit `end` that are in none of the frames which start at ps
unfoldable pub between : ℕ → List ℕ → ℕ → List Stretch
between a [] end = gap a end
between a (p ∷ ps) end = gap a p ++ between (p + frame_bits) ps end

-- the stretches of a capture where the look starts at bit p, from that bit on
abbrev pub stretches_from : List ℕ → ℕ → List Stretch
stretches_from xs p = between p (frames_from xs p) (bit_count xs)

-- bit j is one of the n bits from bit a on
abbrev pub within : ℕ → ℕ → ℕ → Bool
within a n j = leb a j && ltb j (a + n)

-- bit j is in one of the frames that start at ps, and in one of the stretches
unfoldable pub in_frame : List ℕ → ℕ → Bool
in_frame [] j = false
in_frame (p ∷ ps) j = within p frame_bits j || in_frame ps j

unfoldable pub in_stretch : List Stretch → ℕ → Bool
in_stretch [] j = false
in_stretch (s ∷ ss) j = within s.start s.bits j || in_stretch ss j
