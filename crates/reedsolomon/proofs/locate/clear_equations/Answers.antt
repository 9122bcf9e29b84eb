-- `locate::clear_equations` meets its contract. Assumes nothing.
use mathlib.Core.Path.{◌≡◌, refl, ◌∙◌, subst}
use Prim.Native.Nat.{ℕ, ◌-◌, ◌<◌}
use lib.ListN.{length}
use mathlib.Core.Bool.{true≢false, false≢true}
use Rattle.codes.specs.Inner.{at, Candidate}
use Rattle.codes.proofs.Elimination.{fits_part, cleared_next}
use native.Mathlib.Omega.{arith}
use Rattle.reedsolomon.proofs.locate.clear_equations.Goals as goal

pub loop-i-init : goal.loop-i-init
loop-i-init c = (refl, refl, λ k p q. (refl, q))

pub clear_equation-requires : goal.clear_equation-requires
clear_equation-requires c =
    let w : ℕ = length c.args.candidate.now in
    let h : c.loop-i.i < w - 1 = omega arith in
    let e = c.loop-i.invariant.0 in
    (rw e (omega (arith, fits_part c.loop-i.i (w - 1) w h, c.loop-i.invariant.1, c.requires.1)), omega (arith, e, c.requires.2))

pub returns-then-not-clear_equation : goal.returns-then-not-clear_equation
returns-then-not-clear_equation c =
    λ k p q.
    record {
      goes = λ z. absurd (false≢true z);
      stops = λ z. (cleared_next (at c.args.syndromes.now) (length c.args.candidate.now - 1) (length c.args.candidate.now) k c.loop-i.i c.args.pivots.now c.loop-i.pivots _ c.loop-i.candidate _ _ c.loop-i.invariant.0
          c.clear_equation.ensures (omega arith) (c.loop-i.invariant.2 k p q) p).stops c.if-not-clear_equation.true;
    }

pub loop-i-preserved : goal.loop-i-preserved
loop-i-preserved c = (
  c.clear_equation.auto.candidate ∙ c.loop-i.invariant.0,
  c.clear_equation.auto.pivots ∙ c.loop-i.invariant.1,
  λ k p q. (cleared_next (at c.args.syndromes.now) (length c.args.candidate.now - 1) (length c.args.candidate.now) k c.loop-i.i c.args.pivots.now c.loop-i.pivots _ c.loop-i.candidate _ _ c.loop-i.invariant.0
      c.clear_equation.ensures (omega arith) (c.loop-i.invariant.2 k p q) p).goes c.if-not-clear_equation.false,
)

pub returns : goal.returns
returns c =
    λ k p q.
    let e : c.loop-i.i ≡ length c.args.candidate.now - 1 = omega arith in
    record {
      goes = λ z. ((c.loop-i.invariant.2 k p q).0, subst (λ (i : ℕ). Candidate (at c.args.syndromes.now) (length c.args.candidate.now) k i c.loop-i.candidate) e (c.loop-i.invariant.2 k p q).1);
      stops = λ z. absurd (true≢false z);
    }
