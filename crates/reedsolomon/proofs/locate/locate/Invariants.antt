-- `locate::locate` meets its contract: some power of x becomes a locator, since there are fewer equations than powers. Assumes nothing.
use mathlib.Core.Path.{◌≡◌}
use Prim.Native.Nat.{◌-◌}
use lib.ListN.{length}
use Rattle.codes.specs.Inner.{at, Pivots}
use Rattle.reedsolomon.proofs.locate.locate.Given as goal

abbrev pub invariant-loop-k : goal.invariant-loop-k
invariant-loop-k l = (length l.locator ≡ length l.initial.locator) × Pivots (at l.syndromes) (length l.initial.locator - 1) (length l.initial.locator) l.k l.pivots
