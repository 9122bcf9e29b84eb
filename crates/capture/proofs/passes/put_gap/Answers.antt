-- `capture::passes::put_gap` meets its contract. Assumes nothing.
use mathlib.Core.Path.{refl, sym, ap, ◌∙◌}
use mathlib.Core.List.{List}
use Prim.Native.Nat.{ℕ, ◌-◌}
use native.Mathlib.Omega.{arith}
use native.Mathlib.Numerals.{add-one}
use lib.ListN.{length, set, length-set}
use lib.Seq.{sets}
use Rattle.framing.specs.Stretches.{Stretch}
use Rattle.capture.specs.Answer.{laid_out}
use Rattle.capture.proofs.Turns.{gap-some, gap-none}
use Rattle.capture.proofs.passes.put_gap.Goals as goal

pub returns-then-b-a : goal.returns-then-b-a
returns-then-b-a c =
    let args = c.args in
    let none = gap-none args.a args.b c.if-b-a.true in
    record {
      list_after = sym (ap (λ (ss : List Stretch). sets args.list.now args.place (laid_out ss)) none ∙ unfold laid_out in refl);
      value = omega (arith, ap length none);
    }

pub bounds-list-place : goal.bounds-list-place
bounds-list-place c =
    let args = c.args in
    omega (arith, ap length (gap-some args.a args.b (omega (arith, c.if-b-a.false))), c.requires)

pub bounds-list-place-2 : goal.bounds-list-place-2
bounds-list-place-2 c =
    let args = c.args in
    omega (arith, ap length (gap-some args.a args.b (omega (arith, c.if-b-a.false))), c.requires, length-set args.list.now args.place args.a)

pub returns : goal.returns
returns c =
    let args = c.args in
    let some = gap-some args.a args.b (omega (arith, c.if-b-a.false)) in
    record {
      list_after = sym (ap (λ (ss : List Stretch). sets args.list.now args.place (laid_out ss)) some ∙ unfold laid_out in ap (λ (n : ℕ). set (set args.list.now args.place args.a) n (args.b - args.a)) (sym (add-one args.place)));
      value = omega (arith, ap length some);
    }
