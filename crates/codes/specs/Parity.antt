-- The parity bytes of a word: the remainder of the word times x^p by the generator (x + α^0) .. (x + α^(p-1)). ECMA-268, 16.2 (IED, p = 2) and clause 18
-- (outer parity, p = 16; inner parity, p = 10).
-- Assumes nothing.
use Rattle.std.specs.Prelude.{List, [], ◌∷◌, ◌++◌, map, ℕ, zero, suc, drop, replicate}
use Rattle.field.specs.Field.{add, mul, pow}

-- byte by byte, the sum of two words
unfoldable pub add_words : List ℕ → List ℕ → List ℕ
add_words [] s = []
add_words (a ∷ r) [] = []
add_words (a ∷ r) (b ∷ s) = add a b ∷ add_words r s

-- a word times x + a
unfoldable pub times_root : ℕ → List ℕ → List ℕ
times_root a r = add_words (r ++ (0 ∷ [])) (0 ∷ map (mul a) r)

-- the generator with the roots α^0 .. α^(p-1); its first coefficient is 1
unfoldable pub generator : ℕ → List ℕ
generator zero = 1 ∷ []
generator (suc p) = times_root (pow 2 p) (generator p)

-- long division, one byte more: the remainder moves up by one place, and what falls out of it, with the byte, takes the generator along. g is the generator
-- without its first coefficient
unfoldable pub shift_in : List ℕ → List ℕ → ℕ → List ℕ
shift_in g [] b = []
shift_in g (h ∷ r) b = add_words (r ++ (0 ∷ [])) (map (mul (add b h)) g)

unfoldable pub remainder : List ℕ → List ℕ → List ℕ → List ℕ
remainder g r [] = r
remainder g r (b ∷ d) = remainder g (shift_in g r b) d

-- the generator without its first coefficient
abbrev pub generator_tail : ℕ → List ℕ
generator_tail p = drop 1 (generator p)

-- the p parity bytes of a word
unfoldable pub parity : ℕ → List ℕ → List ℕ
parity p d = remainder (generator_tail p) (replicate p 0) d
