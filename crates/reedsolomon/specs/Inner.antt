-- The vocabulary of the inner contracts. No public contract cites it, and nobody needs to believe it.
-- Assumes nothing.
use Rattle.std.specs.Prelude.{◌≡◌, ◌⊎◌, ℕ}
use Rattle.layout.specs.Lengths.{row_size, row_count, inner_size, outer_size}

-- words of n bytes with p roots are the rows of an ECC Block, or its columns (clause 18)
abbrev pub Sizes : ℕ → ℕ → Type 0
Sizes n p = ((n ≡ row_size) × (p ≡ inner_size)) ⊎ ((n ≡ row_count) × (p ≡ outer_size))
