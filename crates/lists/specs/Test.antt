-- Tests over all numbers below a bound, and over all entries of a table.
-- Assumes nothing.
use Rattle.std.specs.Prelude.{Bool, true, false, ◌&&◌, List, [], ◌∷◌, ℕ, zero, suc}

-- f passes at each number below n
abbrev pub below : ℕ → (ℕ → Bool) → Bool
below zero f = true
below (suc n) f = f n && below n f

-- f passes at each entry of a list and its index, where the first entry has index i
abbrev pub every_from : (ℕ → ℕ → Bool) → ℕ → List ℕ → Bool
every_from f i [] = true
every_from f i (x ∷ xs) = f i x && every_from f (suc i) xs

-- f passes at each entry of a list and its index
abbrev pub every : (ℕ → ℕ → Bool) → List ℕ → Bool
every f xs = every_from f 0 xs

-- the largest number below n that passes a test, or 0 where none does
unfoldable pub last_below : (ℕ → Bool) → ℕ → ℕ
last_below f zero = 0
last_below f (suc n) = elim (f n) [ true ↦ n | false ↦ last_below f n ]
