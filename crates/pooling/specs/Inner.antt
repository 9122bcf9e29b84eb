-- Vocabulary of inner contracts: what readings know of a place, a byte or nothing. No theorem and no contract of an entry point cites it.
-- Assumes nothing.
use Rattle.std.specs.Prelude.{cond, ℕ, eqb, Option, None, Some}

-- what a reading knows of a place with the byte x and the mark m
abbrev pub known : ℕ → ℕ → Option ℕ
known x m = cond (eqb m 1) None (Some x)

-- what two readings know together, of which one knows a and the other b
abbrev pub both_know : Option ℕ → Option ℕ → Option ℕ
both_know None b = b
both_know (Some x) None = Some x
both_know (Some x) (Some y) = cond (eqb x y) (Some x) None
