-- EDC, the code that finds errors in a Data Frame (ECMA-268, 16.4; document 01, 'The block'). The most significant byte comes first.
-- Assumes nothing.
use Rattle.std.specs.Prelude.{List, [], ◌∷◌, ℕ, zero, suc, ◌+◌, ◌*◌, ◌^◌, ◌/◌, ◌%◌}
use Rattle.std.specs.Int.Bits.{bit_xor}

-- 16.4, EDC: a bit string times x^32, modulo x^32 + x^31 + x^4 + 1, by long division. One bit b more: the remainder r of 32 bits moves up by one place, and
-- where the bit that leaves it at x^32 differs from b, x^31 + x^4 + 1 comes in
unfoldable pub edc_bit : ℕ → ℕ → ℕ
edc_bit r b = bit_xor (r * 2 % 0x100000000) ((r / 0x80000000 + b) % 2 * 0x80000011)

-- the n lowest bits of a byte, the highest of them first
unfoldable pub edc_bits : ℕ → ℕ → ℕ → ℕ
edc_bits r x zero = r
edc_bits r x (suc n) = edc_bits (edc_bit r (x / 2 ^ n % 2)) x n

-- the bits of all bytes in their order, from a remainder r
unfoldable pub edc_from : ℕ → List ℕ → ℕ
edc_from r [] = r
edc_from r (x ∷ xs) = edc_from (edc_bits r x 8) xs

-- a number of 32 bits as four bytes
unfoldable pub four_bytes : ℕ → List ℕ
four_bytes r = r / 0x1000000 % 256 ∷ r / 0x10000 % 256 ∷ r / 0x100 % 256 ∷ r % 256 ∷ []

-- the four bytes of EDC: these and no other four make the bytes with them a multiple of x^32 + x^31 + x^4 + 1 (`edc_multiple`, `edc_unique`)
unfoldable pub edc_of : List ℕ → List ℕ
edc_of xs = four_bytes (edc_from 0 xs)
