-- A Data Frame (ECMA-268, clause 16; document 01, 'The block'): ID, IED, CPR_MAI, 2,048 main data bytes and EDC, 2,064 bytes in all. In each field the most
-- significant byte comes first.
-- Assumes nothing.
use Rattle.std.specs.Prelude.{Bool, List, [], ◌∷◌, ◌++◌, ℕ, ◌/◌, ◌%◌, eqb, replicate}
use Rattle.std.specs.Int.Bits.{bit_and}
use Rattle.codes.specs.Parity.{parity}
use Rattle.edc.specs.Edc.{edc_of}

-- 16.1: in the Sector Information byte only the bits of (2D) may be ONE; (D2) has all the others
abbrev pub is_permitted : ℕ → Bool
is_permitted info = eqb (bit_and info 0xD2) 0

-- 16.1, ID: the Sector Information byte, then the sector number in 24 bits
unfoldable pub id_of : ℕ → ℕ → List ℕ
id_of info n = info ∷ n / 65536 % 256 ∷ n / 256 % 256 ∷ n % 256 ∷ []

-- 16.2, IED: ID times x^2 modulo (x + 1)(x + α)
abbrev pub ied_of : List ℕ → List ℕ
ied_of id = parity 2 id

-- 16.3, CPR_MAI: no application sets it here, so its 6 bytes are ZERO
abbrev pub cpr_mai : List ℕ
cpr_mai = replicate 6 0

-- ID, IED and CPR_MAI: the 12 bytes before the main data
unfoldable pub head_of : ℕ → ℕ → List ℕ
head_of info n = id_of info n ++ (ied_of (id_of info n) ++ cpr_mai)

-- the Data Frame of the sector n over its main data d: EDC is over the 2,060 bytes before it
unfoldable pub data_frame : List ℕ → ℕ → ℕ → List ℕ
data_frame d info n = (head_of info n ++ d) ++ edc_of (head_of info n ++ d)
