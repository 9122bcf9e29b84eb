-- Vocabulary of inner contracts: the levels over a byte, and the table of them by which the code takes eight bits at a time (at_one, byte_levels, level_table); how
-- far a DSV can move (Room). No contract of an entry point cites it.
-- Assumes nothing.
use Rattle.std.specs.Prelude.{List, [], ◌∷◌, ℕ, ◌+◌, ◌*◌, ◌<◌, ◌≤◌}
use Rattle.lists.specs.Fill.{tabulate}
use Rattle.annexg.specs.ZeroRuns.{bits_of}
use Rattle.levels.specs.Level.{zero_at, flipped, level_after}
use Rattle.levels.specs.declared.Running.{Running}

-- how many of these bits are at level ONE, from level l
unfoldable pub at_one : ℕ → List ℕ → ℕ
at_one l [] = 0
at_one l (b ∷ bs) = flipped l b + at_one (flipped l b) bs

-- byte x from level l: twice its bits at level ONE, and the level after it
unfoldable pub byte_levels : ℕ → ℕ → ℕ
byte_levels l x = 2 * at_one l (bits_of 8 x) + level_after l (bits_of 8 x)

-- each byte from level ZERO
unfoldable pub level_table : List ℕ
level_table = tabulate (byte_levels 0) 256

-- ---- room

-- a record's level is a level, and its DSV can move by n either way; the writer's DSV stays far inside (refusal 9)
pub record Room (r : Running) (n : ℕ) : Type 0 where
  pub level : r.level < 2
  pub low : n ≤ r.dsv
  pub high : r.dsv + n ≤ 2 * zero_at
