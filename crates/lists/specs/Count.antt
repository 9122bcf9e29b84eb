-- Sums over numbers that follow one another, counts of those that pass a test, and of places at which two lists differ.
-- Assumes nothing.
use Rattle.std.specs.Prelude.{Bool, true, false, not, List, [], ◌∷◌, ℕ, zero, suc, ◌+◌, eqb}

-- a test as a digit: 1 where it passes
abbrev pub bit : Bool → ℕ
bit false = 0
bit true = 1

-- the sum of f over the n numbers from k on
abbrev pub sum_from : (ℕ → ℕ) → ℕ → ℕ → ℕ
sum_from f k zero = 0
sum_from f k (suc n) = f k + sum_from f (suc k) n

-- how many of the n numbers from k on pass a test
abbrev pub count_from : (ℕ → Bool) → ℕ → ℕ → ℕ
count_from f k n = sum_from (λ i. bit (f i)) k n

-- in how many places two lists of one length differ (the Hamming distance)
unfoldable pub distance : List ℕ → List ℕ → ℕ
distance [] ys = 0
distance (x ∷ xs) [] = 0
distance (x ∷ xs) (y ∷ ys) = bit (not (eqb x y)) + distance xs ys
