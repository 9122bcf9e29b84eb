-- `locate::clear_equation` meets its contract. Assumes nothing.
use mathlib.Core.Path.{refl, sym, ap₂, ◌∙◌, subst}
use mathlib.Core.List.{List}
use Prim.Native.Nat.{ℕ, ◌+◌, ◌*◌, ◌-◌}
use native.Mathlib.Omega.{arith}
use lib.ListN.{length}
use Rattle.std.proofs.lemmas.Slice.{put_mid-paste}
use Rattle.field.specs.Field.{mul, inverse}
use Rattle.octets.proofs.Copies.{paste_sets}
use mathlib.Core.Bool.{true}
use Rattle.codes.specs.Inner.{at, Cleared}
use Rattle.codes.proofs.Elimination.{cleared_holds, cleared_kept, cleared_mixed}
use Rattle.reedsolomon.proofs.locate.clear_equation.Goals as goal

pub returns-then-d-eq0 : goal.returns-then-d-eq0
returns-then-d-eq0 c =
    λ e k l p q.
    cleared_holds (at c.args.syndromes.now) e k c.args.pivots.now c.args.candidate.now c.args.i (c.args.i * length c.args.candidate.now) l refl p q (sym c.equation-d.ensures ∙ c.if-d-eq0.true)

pub returns-then-e-eq0 : goal.returns-then-e-eq0
returns-then-e-eq0 c =
    let v : List ℕ = c.args.candidate.now in
    let a : ℕ = c.args.i * length v in
    λ e k l p q.
    cleared_kept (at c.args.syndromes.now) e k c.args.pivots.now v c.args.i a l refl p q _ _
    (put_mid-paste a (a + length v - a) c.args.pivots.now c.copy_from_slice.new.self v (length v) c.copy_from_slice.ensures.after (omega arith) refl ∙ paste_sets c.args.pivots.now a v c.requires.0)
    (sym c.equation-e.ensures ∙ c.if-e-eq0.true) (λ z. c.if-d-eq0.false (c.equation-d.ensures ∙ z))

pub returns : goal.returns
returns c =
    λ e k l p q.
    subst (λ (x : List ℕ). Cleared (at c.args.syndromes.now) e (length c.args.candidate.now) k (c.args.i + 1) c.args.pivots.now c.args.pivots.now x true) (sym c.add_multiple.ensures)
    (cleared_mixed (at c.args.syndromes.now) e k c.args.pivots.now c.args.candidate.now c.args.i (c.args.i * length c.args.candidate.now) l refl p q c.quotient-f.result
    (λ z. c.if-e-eq0.false (c.equation-e.ensures ∙ z))
    (c.quotient-f.ensures ∙ ap₂ (λ (x y : ℕ). mul x (inverse y)) c.equation-d.ensures c.equation-e.ensures))
