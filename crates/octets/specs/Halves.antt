-- Half words and bits of a stream of bytes. A half word is 16 bits of the channel, the first bit highest: a Code Word is one half word, a SYNC Code two.
--   packed           half words to bytes
--   half_at, bit_at    half word k, and bit j, of a stream of bytes
--   bits_at           n bits from any bit on, as a number
--   put_half          a buffer after a half word was put into it
-- Assumes nothing.
use Rattle.std.specs.Prelude.{List, [], ◌∷◌, ℕ, zero, suc, ◌+◌, ◌*◌, ◌-◌, ◌^◌, ◌/◌, ◌%◌, get_or, set}

-- half words packed eight bits to a byte, first bit highest
unfoldable pub packed : List ℕ → List ℕ
packed [] = []
packed (h ∷ hs) = h / 256 ∷ h % 256 ∷ packed hs

-- half word k of a stream of bytes
unfoldable pub half_at : List ℕ → ℕ → ℕ
half_at xs k = get_or xs (2 * k) 0 * 256 + get_or xs (2 * k + 1) 0

-- bit j of a stream of bytes, first bit highest
unfoldable pub bit_at : List ℕ → ℕ → ℕ
bit_at xs j = get_or xs (j / 8) 0 / 2 ^ (7 - j % 8) % 2

-- the n bits from bit p on as a number, first bit highest
unfoldable pub bits_at : List ℕ → ℕ → ℕ → ℕ
bits_at xs p zero = 0
bits_at xs p (suc n) = bits_at xs p n * 2 + bit_at xs (p + n)

-- a buffer with the two bytes of a half word put at the byte `at`
abbrev pub put_half : List ℕ → ℕ → ℕ → List ℕ
put_half xs at w = set (set xs at (w / 256)) (at + 1) (w % 256)
