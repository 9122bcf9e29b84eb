-- `received::remainder_of` meets its contract. Assumes nothing.
use Rattle.std.proofs.Common.{◌≡◌, ap, ap₂, ◌∙◌, List, ℕ, ◌-◌, arith, length, take, drop, length-drop}
use lib.Seq.{take_all}
use Rattle.lists.specs.Bytes.{Bytes}
use Rattle.lists.proofs.Bytes.{bytes_of}
use Rattle.field.specs.Field.{add}
use Rattle.multiples.specs.Inner.{high, low}
use Rattle.division.proofs.Words.{left_packed}
use Rattle.division.proofs.received.remainder_of.Goals as goal

pub returns : goal.returns
returns g c =
    let w : List ℕ = c.args.word.now in
    let p : ℕ = g.row.P in
    let n : ℕ = length w - p in
    let bytes : Bytes w = bytes_of w (λ i l. omega (arith, c.type_inv.word i)) in
    let last : take (length w - n) (drop n w) ≡ drop n w = take_all (length w - n) (drop n w) (omega (arith, length-drop n w)) in
    left_packed p w bytes c.requires c.plus_last.result
    (c.plus_last.ensures.high_value ∙ ap₂ add (ap (λ r. r.high) c.divide.ensures) (ap high last))
    (c.plus_last.ensures.low_value ∙ ap₂ add (ap (λ r. r.low) c.divide.ensures) (ap low last))
