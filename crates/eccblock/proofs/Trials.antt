-- The starred trials 1 to 5 of document 01.
-- Assumes nothing.
use mathlib.Core.Path.{◌≡◌, refl, ap, ◌∙◌}
use mathlib.Core.List.{List, [], ◌∷◌, ◌++◌}
use Prim.Native.Nat.{ℕ, zero, suc}
use lib.ListN.{replicate}
use Rattle.field.specs.Field.{add, double, mul_bits, mul, square, pow_halves, pow}
use Rattle.codes.specs.Parity.{add_words, times_root, generator, shift_in, remainder, parity}
use Rattle.edc.specs.Edc.{edc_bit, edc_bits, edc_from, four_bytes, edc_of}
use Rattle.scrambling.specs.Scrambling.{shifted, register, scrambling_byte}
use Rattle.dataframe.specs.Frame.{id_of, ied_of}

pub record BlockTrials : Type 0 where
  -- 1, 2, 3: ID 00000001, 00000100 and 00030000
  pub trial1 : ied_of (0x00 ∷ 0x00 ∷ 0x00 ∷ 0x01 ∷ []) ≡ 0x03 ∷ 0x02 ∷ []
  pub trial2 : ied_of (0x00 ∷ 0x00 ∷ 0x01 ∷ 0x00 ∷ []) ≡ 0x07 ∷ 0x06 ∷ []
  pub trial3 : ied_of (0x00 ∷ 0x03 ∷ 0x00 ∷ 0x00 ∷ []) ≡ 0x11 ∷ 0x12 ∷ []
  -- the same IDs by Sector Information and number
  pub id1 : id_of 0x00 0x000001 ≡ 0x00 ∷ 0x00 ∷ 0x00 ∷ 0x01 ∷ []
  pub id2 : id_of 0x00 0x000100 ≡ 0x00 ∷ 0x00 ∷ 0x01 ∷ 0x00 ∷ []
  pub id3 : id_of 0x00 0x030000 ≡ 0x00 ∷ 0x03 ∷ 0x00 ∷ 0x00 ∷ []
  -- 4: 2,060 bytes, all zero but a last 01
  pub trial4 : edc_of (replicate 2059 0x00 ++ (0x01 ∷ [])) ≡ 0x80 ∷ 0x00 ∷ 0x00 ∷ 0x11 ∷ []
  -- 5: the first three scrambling bytes from the start value (0001)
  pub trial5 : scrambling_byte 0x0001 0 ∷ scrambling_byte 0x0001 1 ∷ scrambling_byte 0x0001 2 ∷ [] ≡ 0x01 ∷ 0x00 ∷ 0x22 ∷ []

zero-byte : edc_bits 0 0 8 ≡ 0
unfolding edc_bit edc_bits
zero-byte = refl

-- zeros in front change nothing
zeros : (n : ℕ) (xs : List ℕ) → edc_from 0 (replicate n 0 ++ xs) ≡ edc_from 0 xs
unfolding edc_from
zeros zero xs = refl
zeros (suc n) xs = ap (λ (r : ℕ). edc_from r (replicate n 0 ++ xs)) zero-byte ∙ zeros n xs

last_one : four_bytes (edc_from 0 (0x01 ∷ [])) ≡ 0x80 ∷ 0x00 ∷ 0x00 ∷ 0x11 ∷ []
unfolding edc_bit edc_bits edc_from four_bytes
last_one = refl

edc_trial : edc_of (replicate 2059 0x00 ++ (0x01 ∷ [])) ≡ 0x80 ∷ 0x00 ∷ 0x00 ∷ 0x11 ∷ []
unfolding edc_of
edc_trial = ap four_bytes (zeros 2059 (0x01 ∷ [])) ∙ last_one

pub block_trials : BlockTrials
unfolding add double mul_bits mul square pow_halves pow add_words times_root generator shift_in remainder parity id_of shifted register scrambling_byte
block_trials = record { trial1 = refl; trial2 = refl; trial3 = refl; id1 = refl; id2 = refl; id3 = refl; trial4 = edc_trial; trial5 = refl }
