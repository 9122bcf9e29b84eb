-- `row::without_error` meets its contract. Assumes nothing.
use mathlib.Core.Path.{◌≡◌, ap}
use Prim.Native.Nat.{ℕ, suc, ◌-◌}
use native.Mathlib.Omega.{arith}
use lib.ListN.{length, get_or, set}
use borrow.Author.Rules.{rules}
use Rattle.field.specs.Field.{add}
use Rattle.codes.specs.Inner.{change}
use Rattle.layout.specs.Lengths.{row_size}
use Rattle.lightrepair.proofs.row.without_error.Goals as goal

pub returns : goal.returns
unfolding change add
returns c =
    let w = c.args.bytes in
    let size : length w ≡ row_size = search rules in
    let same : 181 - c.from.result ≡ length w - suc c.args.wrong.place = omega (arith, size, c.from.ensures) in
    ap (λ (i : ℕ). set w i (add (get_or w i 0) c.args.wrong.value)) same
