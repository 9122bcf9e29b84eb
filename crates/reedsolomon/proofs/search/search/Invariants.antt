-- `search::search` meets its contract. Assumes nothing.
use mathlib.Core.Path.{◌≡◌}
use mathlib.Core.List.{◌++◌}
use Prim.Native.Nat.{◌-◌, ◌≤◌}
use lib.ListN.{length, take}
use Rattle.codes.specs.Inner.{is_suspect, places_where}
use Rattle.reedsolomon.proofs.search.search.Given as goal

abbrev pub invariant-loop-i : goal.invariant-loop-i
invariant-loop-i l = (l.count ≤ length l.initial.places) × (length l.places ≡ length l.initial.places)
    × (take l.count l.places ++ places_where (is_suspect l.erasures l.locator) (length l.erasures - l.i) ≡ places_where (is_suspect l.erasures l.locator) (length l.erasures))
