-- A word that was read, as code tells it: whether it is unknown (mark_is), as a digit (mark_digit). Its byte is `unwrap_or` of the reading, as `reading_byte` says.
-- Assumes nothing.
use mathlib.Core.Path.{◌≡◌, refl, sym, ap, ◌∙◌}
use mathlib.Core.Bool.{Bool, true, false, not}
use Prim.Native.Nat.{ℕ}
use mir.Val.{bool_byte}
use Rattle.std.specs.Prelude.{Option, is_some}
use Rattle.lists.specs.Count.{bit}
use Rattle.channel.specs.Block.{is_unknown}

twice : (b : Bool) → b ≡ not (not b)
twice true = refl
twice false = refl

-- what `Option::is_none` ensures of its result m
pub mark_is : (r : Option ℕ) (m : Bool) → is_some r ≡ not m → m ≡ is_unknown r
mark_is r m e = twice m ∙ ap not (sym e)

digit : (b : Bool) → bool_byte b ≡ bit b
digit true = refl
digit false = refl

pub mark_digit : (r : Option ℕ) (m : Bool) → is_some r ≡ not m → bool_byte m ≡ bit (is_unknown r)
mark_digit r m e = digit m ∙ ap bit (mark_is r m e)
