-- `received::eight` meets its contract. Assumes nothing.
use mathlib.Core.Path.{◌≡◌}
use lib.ListN.{get_or}
use Rattle.multiples.specs.Inner.{bytes_as_number}
use Rattle.division.proofs.received.eight.Given as goal

abbrev pub invariant-loop-i : goal.invariant-loop-i
invariant-loop-i l = l.x ≡ bytes_as_number (λ k. get_or l.bytes k 0) l.a l.i
