-- `row::without_errors` meets its contract, case by case. Assumes nothing.
use mathlib.Core.Path.{◌≡◌, sym, ap, subst, ◌∙◌}
use mathlib.Core.List.{List}
use Prim.Native.Nat.{ℕ}
use Rattle.codes.specs.Inner.{change, Inside, without_wrong}
use Rattle.layout.specs.Lengths.{row_size}
use Rattle.lightrepair.specs.Inner.{wrong_bytes}
use Rattle.lightrepair.specs.declared.formulas.Errors.{Errors}
use Rattle.lightrepair.proofs.row.without_errors.Goals as goal

-- the wrong bytes stand in the row, case by case
told : (d e : Errors) → d ≡ e → Inside row_size (wrong_bytes d) → Inside row_size (wrong_bytes e)
told d e is h = subst (λ (e : Errors). Inside row_size (wrong_bytes e)) is h

pub without_error-requires : goal.without_error-requires
unfolding Inside
without_error-requires c = (told _ _ c.in-One.is c.requires).0

pub without_error-requires-in-Two : goal.without_error-requires-in-Two
unfolding Inside
without_error-requires-in-Two c = (told _ _ c.in-Two.is c.requires).0

pub without_error-requires-in-Two-2 : goal.without_error-requires-in-Two-2
unfolding Inside
without_error-requires-in-Two-2 c = (told _ _ c.in-Two.is c.requires).2.0

pub returns-in-None : goal.returns-in-None
unfolding without_wrong
returns-in-None c = sym (ap (λ (e : Errors). without_wrong (wrong_bytes e) c.args.bytes) c.in-None.is)

pub returns-in-One : goal.returns-in-One
unfolding without_wrong
returns-in-One c = c.without_error.ensures ∙ sym (ap (λ (e : Errors). without_wrong (wrong_bytes e) c.args.bytes) c.in-One.is)

pub returns-in-Two : goal.returns-in-Two
unfolding without_wrong
returns-in-Two c =
    c.without_error-in-Two-2.ensures ∙ ap (λ (w : List ℕ). change w c.in-Two.second.place c.in-Two.second.value) c.without_error-in-Two.ensures
    ∙ sym (ap (λ (e : Errors). without_wrong (wrong_bytes e) c.args.bytes) c.in-Two.is)
