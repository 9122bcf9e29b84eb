-- Lists given by a function of the index.
-- Assumes nothing.
use Rattle.std.specs.Prelude.{List, [], ◌∷◌, ℕ, zero, suc}

-- f k, f (k + 1), .. : n entries
unfoldable pub tabulate_from : (ℕ → ℕ) → ℕ → ℕ → List ℕ
tabulate_from f k zero = []
tabulate_from f k (suc n) = f k ∷ tabulate_from f (suc k) n

-- f 0, f 1, .. : n entries
abbrev pub tabulate : (ℕ → ℕ) → ℕ → List ℕ
tabulate f n = tabulate_from f 0 n
