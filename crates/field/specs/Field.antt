-- The field of 256 elements over x^8 + x^4 + x^3 + x^2 + 1 (ECMA-268, 16.2 and clause 18; document 01, 'The block'). An element is a byte: bit i is the coefficient of
-- x^i, and α is the element x, the byte 2.
-- Assumes nothing.
use Rattle.std.specs.Prelude.{ℕ, zero, suc, ◌*◌, ◌/◌, ◌%◌, eqb}
use Rattle.std.specs.Int.Bits.{bit_xor}
use Rattle.lists.specs.Test.{last_below}

-- the sum, and the difference, of two elements
unfoldable pub add : ℕ → ℕ → ℕ
add a b = bit_xor a b

-- x^8: x^4 + x^3 + x^2 + 1
abbrev pub eighth_power : ℕ
eighth_power = 0x1D

-- x times an element: shifted up by one, and where x^8 comes up, what it is stands in its place
unfoldable pub double : ℕ → ℕ
double a = add (a * 2 % 256) (a / 128 % 2 * eighth_power)

-- the sum of x^i times a over the n lowest bits i of b that are ONE
unfoldable pub mul_bits : ℕ → ℕ → ℕ → ℕ
mul_bits zero a b = 0
mul_bits (suc n) a b = add (b % 2 * a) (mul_bits n (double a) (b / 2))

-- the product of two elements, by shift and add
unfoldable pub mul : ℕ → ℕ → ℕ
mul a b = mul_bits 8 (a % 256) (b % 256)

unfoldable pub square : ℕ → ℕ
square a = mul a a

-- a where the exponent's last bit is ONE, and 1 where it is ZERO
abbrev pub odd_factor : ℕ → ℕ → ℕ
odd_factor zero a = 1
odd_factor (suc d) a = a

-- a to the power n by halves of n, at most d of them: the square of the half's power, and once more a where n is odd
unfoldable pub pow_halves : ℕ → ℕ → ℕ → ℕ
pow_halves zero a n = 1
pow_halves (suc d) a zero = 1
pow_halves (suc d) a (suc n) = mul (square (pow_halves d a (suc n / 2))) (odd_factor (suc n % 2) a)

-- a to the power n, by recursion on halves of the exponent (document 01); n has no more than n halves
unfoldable pub pow : ℕ → ℕ → ℕ
pow a n = pow_halves n a n

-- the inverse of an element: the one whose product with it is 1, and 0 where there is none
unfoldable pub inverse : ℕ → ℕ
inverse a = last_below (λ b. eqb (mul a b) 1) 256
