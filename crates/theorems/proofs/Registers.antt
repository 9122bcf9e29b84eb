-- What the register of long division holds once a word has passed through it: its parity, as many bytes as the code has roots, in its two numbers. It stands here and
-- not beside the laws of division, which say of it only the two numbers.
-- Assumes nothing.
use Rattle.std.proofs.Common.{subst, ◌≤◌, ℕ, List, length, replicate}
use lib.Seq.{take_all}
use Rattle.codes.specs.Parity.{generator_tail, remainder, parity}
use Rattle.division.specs.Inner.{Packed}
use Rattle.division.specs.declared.register.Remainder.{Remainder}
use Rattle.division.proofs.Division.{Divided}

pub divided_whole : (p : ℕ) (d : List ℕ) (i : ℕ) (r : Remainder) → length d ≤ i → Divided p d i r → Packed p (parity p d) r
unfolding parity
divided_whole p d i r le w = subst (λ (x : List ℕ). Packed p (remainder (generator_tail p) (replicate p 0) x) r) (take_all i d le) w
