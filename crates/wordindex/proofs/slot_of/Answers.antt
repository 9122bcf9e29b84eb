-- `wordindex::slot_of` meets its contract. Assumes nothing.
use mathlib.Core.Path.{◌≡◌, refl}
use mathlib.Core.Bool.{Bool, true, false}
use native.Mathlib.Omega.{arith}
use mir.Val.{bool_byte}
use Rattle.lists.specs.Count.{bit}
use Rattle.lists.proofs.Count.{bit_le}
use Rattle.wordindex.specs.Inner.{place_of}
use Rattle.wordindex.proofs.slot_of.Goals as goal

digit : (z : Bool) → bool_byte z ≡ bit z
digit true = refl
digit false = refl

pub returns : goal.returns
unfolding place_of
returns c = record {
  value = omega (arith, c.from.ensures, digit c.args.zero);
  upper_bound = omega (arith, c.from.ensures, digit c.args.zero, bit_le c.args.zero);
}
