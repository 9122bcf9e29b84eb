-- `search::poly_value` meets its contract: Horner's rule from the highest coefficient on. Assumes nothing.
use mathlib.Core.Path.{◌≡◌, ◌∙◌}
use Prim.Native.Nat.{ℕ}
use borrow.Author.Rules.{rules}
use Rattle.std.proofs.Common.{reverse}
use Rattle.std.specs.List.{fold}
use Rattle.field.specs.Field.{add, mul}
use Rattle.reedsolomon.proofs.Loops.{poly-fold}
use Rattle.reedsolomon.proofs.search.poly_value.Goals as goal

pub returns : goal.returns
unfolding add
returns c =
    let e : c.fold.result ≡ fold (λ (v p : ℕ). add p (mul c.args.x v)) 0 (reverse c.args.polynomial.now) = search rules in
    e ∙ poly-fold c.args.x c.args.polynomial.now
