-- `mend::mend` meets its contract. Assumes nothing.
use mathlib.Core.Path.{◌≡◌, sym, ap, ap₂, ◌∙◌}
use mathlib.Core.List.{List}
use Prim.Native.Nat.{ℕ, suc, ◌+◌, ◌-◌, ◌<◌}
use lib.ListN.{length, get_or, set, length-set}
use Rattle.field.specs.Field.{add}
use Rattle.codes.specs.Inner.{at, change, mend_from, mended}
use Rattle.reedsolomon.proofs.Loops.{mend_next, mend_end}
use native.Mathlib.Omega.{arith}
use borrow.Author.Rules.{rules}
use Rattle.reedsolomon.proofs.mend.mend.Goals as goal

pub loop-j-init : goal.loop-j-init
unfolding mended
loop-j-init g c = (search rules, ap (λ (n : ℕ). mend_from (at c.args.syndromes) c.args.places.now 0 n c.args.bytes) (omega arith))

pub loop-j-preserved : goal.loop-j-preserved
unfolding add change
loop-j-preserved g c =
    let S : ℕ → ℕ = at c.args.syndromes in
    let ks : List ℕ = c.args.places.now in
    let w : List ℕ = c.loop-j.bytes in
    let h : c.loop-j.j < length ks = omega arith in
    let i : g.row.N - 1 - c.from.result ≡ length w - suc (get_or ks c.loop-j.j 0) = omega (arith, c.from.ensures, c.requires.1 c.loop-j.j h, c.loop-j.invariant.0) in (
      length-set w _ _ ∙ c.loop-j.invariant.0,
      ap (mend_from S ks (c.loop-j.j + 1) (length ks - (c.loop-j.j + 1))) (ap₂ (λ (i v : ℕ). set w i (add (get_or w i 0) v)) i c.error_value.ensures)
          ∙ mend_next S ks w c.loop-j.j h ∙ c.loop-j.invariant.1,
    )

pub returns : goal.returns
returns g c = sym (mend_end (at c.args.syndromes) c.args.places.now c.loop-j.bytes c.loop-j.j (omega arith)) ∙ c.loop-j.invariant.1
