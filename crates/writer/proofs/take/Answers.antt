-- `writer::take` meets its contract: another length is refused, the single write refuses, the mark refuses, or the sector is taken.
-- Assumes nothing.
use mathlib.Core.Path.{◌≡◌, refl, sym, ap, ◌∙◌}
use native.Mathlib.Omega.{arith}
use lib.ListN.{length}
use mir.Syntax.{w64}
use mir.Val.{to_z, of_z}
use borrow.Author.Rules.{rules}
use Rattle.writer.specs.Answers.{sector_refusal, mark_refusal}
use Rattle.writer.specs.declared.Record.{Record}
use Rattle.writer.proofs.Answered.{refused, kept, numbered}
use Rattle.writer.proofs.Calls.{sector_next_lem}
use Rattle.writer.proofs.Sound.{to_length}
use Rattle.writer.proofs.Takes.{sector_after_lem, take_stays, mark_stays, take_done}
use Rattle.writer.proofs.take.Goals as goal

pub returns-in_default-clause-number : goal.returns-in_default-clause-number
returns-in_default-clause-number c =
    let number = to_length c.args.current _ _ c.in_default.ensures.cases in
    (take_stays c.args.current c.args.bytes.now c.args.out.now 1 number (λ z. omega arith)).0

pub returns-in_default-clause-next : goal.returns-in_default-clause-next
returns-in_default-clause-next c =
    let number = to_length c.args.current _ _ c.in_default.ensures.cases in
    (take_stays c.args.current c.args.bytes.now c.args.out.now 1 number (λ z. omega arith)).1.0

pub returns-in_default-clause-out_after : goal.returns-in_default-clause-out_after
returns-in_default-clause-out_after c =
    let number = to_length c.args.current _ _ c.in_default.ensures.cases in
    (take_stays c.args.current c.args.bytes.now c.args.out.now 1 number (λ z. omega arith)).1.1

pub returns-in_err-after-clause-number : goal.returns-in_err-after-clause-number
returns-in_err-after-clause-number c =
    let a = c.args in
    let free = c.in_err-after.ensures.number ∙ ap (sector_refusal a.current (length a.bytes.now)) (sym c.in-Some.ensures.cases.long) in
    numbered _ _ c.from_residual.ensures.1 ∙ (take_stays a.current a.bytes.now a.out.now _ free (refused _)).0

pub returns-in_err-after-clause-next : goal.returns-in_err-after-clause-next
returns-in_err-after-clause-next c =
    let a = c.args in
    let free = c.in_err-after.ensures.number ∙ ap (sector_refusal a.current (length a.bytes.now)) (sym c.in-Some.ensures.cases.long) in
    kept a.current _ c.from_residual.ensures.0 ∙ (take_stays a.current a.bytes.now a.out.now _ free (refused _)).1.0

pub returns-in_err-after-clause-out_after : goal.returns-in_err-after-clause-out_after
returns-in_err-after-clause-out_after c =
    let a = c.args in
    let free = c.in_err-after.ensures.number ∙ ap (sector_refusal a.current (length a.bytes.now)) (sym c.in-Some.ensures.cases.long) in
    c.in-Some.ensures.cases.same ∙ (take_stays a.current a.bytes.now a.out.now _ free (refused _)).1.1

pub returns-in_err-mark_refusal : goal.returns-in_err-mark_refusal
returns-in_err-mark_refusal c =
    let a = c.args in
    let e = c.in_ok-after.ensures in
    let free = ap (sector_refusal a.current (length a.bytes.now)) c.in-Some.ensures.cases.long ∙ sym e.number in
    let after = e.next ∙ sector_after_lem a.current a.bytes.now _ (sym e.number) in
    let same : to_z w64 (of_z w64 c.in_ok-after.after.dsv) ≡ c.in_ok-after.after.dsv = search rules in
    let by-mark = c.in_err-mark_refusal.ensures ∙ ap (mark_refusal a.current) (same ∙ ap (λ (v : Record). v.dsv) after) in
    let left = mark_stays a.current a.bytes.now a.out.now free _ by-mark (refused _) in
    record {
      number = numbered _ _ c.from_residual-in_err-mark_refusal.ensures.1 ∙ left.0;
      next = kept a.current _ c.from_residual-in_err-mark_refusal.ensures.0 ∙ left.1.0;
      out_after = c.in-Some.ensures.cases.same ∙ left.1.1;
    }

pub returns : goal.returns
returns c =
    let a = c.args in
    let e = c.in_ok-after.ensures in
    let long = c.in-Some.ensures.cases.long in
    let free = ap (sector_refusal a.current (length a.bytes.now)) long ∙ sym e.number in
    let after = e.next ∙ sector_after_lem a.current a.bytes.now _ (sym e.number) in
    let same : to_z w64 (of_z w64 c.in_ok-after.after.dsv) ≡ c.in_ok-after.after.dsv = search rules in
    let by-mark = c.in_ok-mark_refusal.ensures ∙ ap (mark_refusal a.current) (same ∙ ap (λ (v : Record). v.dsv) after) in
    let taken = take_done a.current a.bytes.now a.out.now free _ by-mark refl in
    record {
      number = taken.0;
      next = after ∙ taken.1.0;
      out_after = e.out_after ∙ sym (sector_next_lem a.current a.bytes.now _ (sym e.number)).1 ∙ taken.1.1;
    }
