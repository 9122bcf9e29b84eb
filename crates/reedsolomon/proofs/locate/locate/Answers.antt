-- `locate::locate` meets its contract: some power of x becomes a locator, since there are fewer equations than powers. Assumes nothing.
use mathlib.Core.Path.{refl, sym, ap, ◌∙◌}
use Prim.Native.Nat.{ℕ, ◌-◌, ◌*◌, ◌<◌}
use lib.ListN.{length}
use Rattle.lists.proofs.Bytes.{bytes_of}
use Rattle.codes.specs.Inner.{at, unit}
use Rattle.codes.proofs.Elimination.{pivots_none, pivots_few, reduced, locates}
use native.Mathlib.Omega.{arith}
use Rattle.reedsolomon.proofs.locate.locate.Goals as goal

pub loop-k-init : goal.loop-k-init
loop-k-init c = (refl, pivots_none (at c.args.syndromes.now) (length c.args.locator.now - 1) (length c.args.locator.now) 0 c.args.pivots.now refl c.requires.1)

pub clear_equations-requires : goal.clear_equations-requires
clear_equations-requires c =
    let e = c.set_unit.auto.candidate ∙ c.loop-k.invariant.0 in
    (omega (arith, e, c.requires.0), c.loop-k.invariant.1.size ∙ ap (λ (n : ℕ). (n - 1) * n) (sym e), omega (arith, e, c.requires.2))

pub returns-then-clear_equations : goal.returns-then-clear_equations
returns-then-clear_equations c =
    let below : c.loop-k.k < length c.args.locator.now = omega arith in
    record {
      upper_bound = below;
      bytes = bytes_of c.clear_equations.new.candidate (λ i l. omega (arith, c.type_inv.locator i));
      locator = locates (at c.args.syndromes.now) (length c.args.locator.now) c.loop-k.k _ below
          ((reduced (at c.args.syndromes.now) (length c.args.locator.now) c.loop-k.k c.loop-k.pivots _ _ _ _ (c.set_unit.ensures ∙ ap (λ (n : ℕ). unit n c.loop-k.k) c.loop-k.invariant.0) (omega arith)
          c.clear_equations.ensures c.loop-k.invariant.1).goes c.if-clear_equations.true).1;
    }

pub loop-k-preserved : goal.loop-k-preserved
loop-k-preserved c = (
  c.clear_equations.auto.candidate ∙ c.set_unit.auto.candidate ∙ c.loop-k.invariant.0,
  (reduced (at c.args.syndromes.now) (length c.args.locator.now) c.loop-k.k c.loop-k.pivots _ _ _ _ (c.set_unit.ensures ∙ ap (λ (n : ℕ). unit n c.loop-k.k) c.loop-k.invariant.0) (omega arith)
      c.clear_equations.ensures c.loop-k.invariant.1).stops c.if-clear_equations.false,
)

pub returns : goal.returns
returns c =
    absurd (omega (
      arith,
      c.requires.0,
      pivots_few (at c.args.syndromes.now) (length c.args.locator.now - 1) (length c.args.locator.now) c.loop-k.k c.loop-k.pivots c.loop-k.invariant.1,
    ))
