-- Vocabulary of inner contracts: Stored, bytes at given places of a buffer. Where the places follow one another the contracts say it with the kit's `sets`
-- (proofs/Copies.antt has one from the other). No theorem and no contract of an entry point cites it.
-- Assumes nothing.
use Rattle.std.specs.Prelude.{List, ◌≡◌, ◌≢◌, ℕ, ◌+◌, ◌<◌, length, get_or}

-- the first n bytes of v are stored at the places at 0, at 1, .., and every other place is as it was
pub record Stored (at : ℕ → ℕ) (v old new : List ℕ) (n : ℕ) : Type 0 where
  pub size : length new ≡ length old
  pub done : (i : ℕ) → i < n → get_or new (at i) 0 ≡ get_or v i 0
  pub left : (p : ℕ) → ((i : ℕ) → i < n → p ≢ at i) → get_or new p 0 ≡ get_or old p 0

-- places that follow one another, from a place on
abbrev pub following : ℕ → ℕ → ℕ
following at j = at + j
