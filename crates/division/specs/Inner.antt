-- Vocabulary of inner contracts: packed (a register in its two numbers), number_byte, unpacked (its bytes), Packed (two numbers are a register), register_at,
-- beside (registers side by side), remainder_of (what is left of a received word). No contract of an entry point cites it.
-- Assumes nothing.
use Rattle.std.specs.Prelude.{List, map, ◌++◌, ℕ, ◌/◌, ◌%◌, ◌^◌, ◌-◌, ◌≡◌, length, get_or, take, drop}
use Rattle.std.specs.List.{range_with_len}
use Rattle.lists.specs.Fill.{tabulate}
use Rattle.lists.specs.Bytes.{Bytes}
use Rattle.codes.specs.Parity.{add_words, parity}
use Rattle.multiples.specs.Inner.{high, low}
use Rattle.division.specs.declared.register.Remainder.{Remainder}

-- a register of at most sixteen bytes in its two numbers
abbrev pub packed : List ℕ → Remainder
packed x = record { high = high x; low = low x }

-- byte i of a number of eight bytes, the first highest
unfoldable pub number_byte : ℕ → ℕ → ℕ
number_byte x i = x / 256 ^ (7 - i) % 256

-- the sixteen bytes of a register
unfoldable pub unpacked : Remainder → List ℕ
unpacked r = tabulate (number_byte r.high) 8 ++ tabulate (number_byte r.low) 8

-- r is a register x of p bytes
pub record Packed (p : ℕ) (x : List ℕ) (r : Remainder) : Type 0 where
  pub size : length x ≡ p
  pub bytes : Bytes x
  pub numbers : r ≡ packed x

-- a register of zeros
abbrev pub empty : Remainder
empty = record { high = 0; low = 0 }

-- the sixteen bytes of register j, whatever stands there
abbrev pub register_at : List Remainder → ℕ → List ℕ
register_at registers j = unpacked (get_or registers j empty)

-- n registers side by side
unfoldable pub beside : (ℕ → List ℕ) → ℕ → List Remainder
beside R n = map (λ j. packed (R j)) (range_with_len 0 n)

-- what is left of a received word when its last p bytes are taken from its parity
unfoldable pub remainder_of : ℕ → List ℕ → List ℕ
remainder_of p w = add_words (parity p (take (length w - p) w)) (drop (length w - p) w)
