-- The vocabulary of the inner contracts of long division: a register in two numbers, and the rule of its two tables (`multiples`). No contract of an entry point
-- cites it.
-- A register of at most 16 bytes stands in two numbers of 64 bits, its first byte highest. The generators of the inner and the outer code have 10 and 16 bytes
-- after their first coefficient, so that one piece of code divides by both: with 10, the last six places stay ZERO.
-- Assumes nothing.
use Rattle.std.specs.Prelude.{List, map, ℕ, zero, suc, ◌+◌, ◌*◌, ◌/◌, ◌%◌, get_or}
use Rattle.lists.specs.Fill.{tabulate}
use Rattle.field.specs.Field.{mul}
use Rattle.codes.specs.Parity.{generator_tail}

-- 2^56: a number of eight bytes by it is its first byte
abbrev pub top : ℕ
top = 0x100000000000000

-- n bytes f k, f (k + 1), .. as one number, the first byte highest
unfoldable pub bytes_as_number : (ℕ → ℕ) → ℕ → ℕ → ℕ
bytes_as_number f k zero = 0
bytes_as_number f k (suc n) = bytes_as_number f k n * 256 + f (k + n)

-- the places 0 to 7 of a register, and the places 8 to 15; a place past its end is 0
unfoldable pub high : List ℕ → ℕ
high r = bytes_as_number (λ i. get_or r i 0) 0 8

unfoldable pub low : List ℕ → ℕ
low r = bytes_as_number (λ i. get_or r i 0) 8 8

-- the first of the two numbers, or the second
unfoldable pub half : ℕ → List ℕ → ℕ
half zero r = high r
half (suc i) r = low r

-- the multiples of the generator with p roots, without its first coefficient: entries 2 h and 2 h + 1 are h times it
unfoldable pub multiples : ℕ → List ℕ
multiples p = tabulate (λ i. half (i % 2) (map (mul (i / 2)) (generator_tail p))) 512
