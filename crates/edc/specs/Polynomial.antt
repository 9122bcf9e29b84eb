-- EDC as ECMA-268 says it (16.4), by polynomials: bit_field (bytes as one bit string), times_generator (a product with x^32 + x^31 + x^4 + 1), Multiple (what is such
-- a product). A polynomial over the field of two elements is a number: bit k is the coefficient of x^k, a shift up by k places is a product with x^k, and a sum is
-- bit by bit, with no carry.
-- Assumes nothing.
use Rattle.std.specs.Prelude.{◌≡◌, List, [], ◌∷◌, ℕ, ◌+◌, ◌*◌, ◌^◌}
use Rattle.std.specs.Int.Bits.{bit_xor}

-- bytes after a bit string n as one bit string with it, the most significant bit of each byte first
unfoldable pub bit_field_from : ℕ → List ℕ → ℕ
bit_field_from n [] = n
bit_field_from n (x ∷ xs) = bit_field_from (n * 256 + x) xs

-- bytes as one bit string: the last bit of the last byte is the coefficient of x^0
unfoldable pub bit_field : List ℕ → ℕ
bit_field xs = bit_field_from 0 xs

-- q times x^32 + x^31 + x^4 + 1
unfoldable pub times_generator : ℕ → ℕ
times_generator q = bit_xor (q * 2 ^ 32) (bit_xor (q * 2 ^ 31) (bit_xor (q * 2 ^ 4) q))

-- a bit string is a multiple of x^32 + x^31 + x^4 + 1
unfoldable pub Multiple : ℕ → Type 0
Multiple n = (q : ℕ) × (n ≡ times_generator q)
