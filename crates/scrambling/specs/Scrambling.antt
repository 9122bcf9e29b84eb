-- Scrambled Frames (ECMA-268, clause 17; document 01, 'The block'): after EDC is set, each main data byte has a scrambling byte added to it.
-- Assumes nothing.
use Rattle.std.specs.Prelude.{◌&&◌, cond, List, [], ◌∷◌, ℕ, zero, suc, ◌+◌, ◌*◌, ◌-◌, ◌^◌, ◌/◌, ◌%◌, leb, ltb, get_or}
use Rattle.lists.specs.Fill.{tabulate}
use Rattle.field.specs.Field.{add}
use Rattle.layout.specs.Lengths.{head_size, frame_size, edc_place}

-- table 3: the value to which the register is pre-set, by the pre-set number 0 to 15
unfoldable pub presets : List ℕ
presets =
    0x0001 ∷ 0x5500 ∷ 0x0002 ∷ 0x2A00 ∷ 0x0004 ∷ 0x5400 ∷ 0x0008 ∷ 0x2800 ∷
    0x0010 ∷ 0x5000 ∷ 0x0020 ∷ 0x2001 ∷ 0x0040 ∷ 0x4002 ∷ 0x0080 ∷ 0x0005 ∷
    []

-- the pre-set number is bits 7 to 4 of the sector number
unfoldable pub preset_of : ℕ → ℕ
preset_of n = get_or presets (n / 16 % 16) 0

-- figure 19, one shift: the 15 bits move up by one, and r14 xor r10 enters at r0
unfoldable pub shifted : ℕ → ℕ
shifted r = r * 2 % 0x8000 + (r / 2 ^ 14 + r / 2 ^ 10) % 2

-- the register after n shifts
unfoldable pub register : ℕ → ℕ → ℕ
register r zero = r
register r (suc n) = shifted (register r n)

-- scrambling byte i from the pre-set value r: bits r7 to r0 after eight shifts for each byte before it
unfoldable pub scrambling_byte : ℕ → ℕ → ℕ
scrambling_byte r i = register r (8 * i) % 256

-- byte q of a frame: the bytes between the head and EDC, 12 to 2,059, are main data
unfoldable pub scrambled_at : ℕ → List ℕ → ℕ → ℕ
scrambled_at n f q = cond (leb head_size q && ltb q edc_place) (add (get_or f q 0) (scrambling_byte (preset_of n) (q - head_size))) (get_or f q 0)

-- the frame of the sector n with its main data bytes scrambled. Scrambled twice it is as it was (proofs/Scrambled)
abbrev pub scrambled : ℕ → List ℕ → List ℕ
scrambled n f = tabulate (scrambled_at n f) frame_size
