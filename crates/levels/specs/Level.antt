-- NRZI level and Digital Sum Value over code bits (clause 22 of ECMA-268; document 01, "The choice between two streams"), and the running record.
-- Assumes nothing.
use Rattle.std.specs.Prelude.{List, [], ◌∷◌, ℕ, zero, suc, ◌+◌, ◌*◌, ◌-◌}
use Rattle.channel.specs.Bits.{bits_all}
use Rattle.levels.specs.declared.Running.{Running}

-- the DSV is held as an unsigned number, with 0 at 2^40
abbrev pub zero_at : ℕ
zero_at = 1099511627776

-- its absolute value
abbrev pub magnitude : ℕ → ℕ
magnitude d = (d - zero_at) + (zero_at - d)

-- the level from a bit on: a ONE flips it
abbrev pub flipped : ℕ → ℕ → ℕ
flipped l zero = l
flipped l (suc x) = 1 - l

-- the level after bits
unfoldable pub level_after : ℕ → List ℕ → ℕ
level_after l [] = l
level_after l (b ∷ bs) = level_after (flipped l b) bs

-- the DSV after bits, from level l and DSV d: 1 more for each at level ONE, 1 less for each at level ZERO; a ONE flips the level first
unfoldable pub dsv_after : ℕ → ℕ → List ℕ → ℕ
dsv_after l d [] = d
dsv_after l d (b ∷ bs) = dsv_after (flipped l b) (d + 2 * flipped l b - 1) bs

-- the running record after half words, where State s is prescribed next
abbrev pub running_after : Running → ℕ → List ℕ → Running
running_after r s hs =
    record {
      state = s;
      level = level_after r.level (bits_all hs);
      dsv = dsv_after r.level r.dsv (bits_all hs);
    }
