-- `writer::trial` meets its contract: another length is refused, the single write refuses, or the record is marked.
-- Assumes nothing.
use mathlib.Core.Path.{◌≡◌, sym, ap, ◌∙◌}
use native.Mathlib.Omega.{arith}
use lib.ListN.{length}
use mir.Syntax.{w64}
use mir.Val.{to_z, of_z}
use borrow.Author.Rules.{rules}
use Rattle.writer.specs.Answers.{sector_refusal}
use Rattle.writer.specs.Records.{marked_with}
use Rattle.writer.specs.declared.Record.{Record}
use Rattle.writer.proofs.Answered.{refused, kept}
use Rattle.writer.proofs.Sound.{to_length}
use Rattle.writer.proofs.Takes.{sector_after_lem, trial_stays, trial_marks}
use Rattle.writer.proofs.trial.Goals as goal

pub returns-then-out-ne-SECTOR_STREAM-clause-number : goal.returns-then-out-ne-SECTOR_STREAM-clause-number
returns-then-out-ne-SECTOR_STREAM-clause-number c = to_length c.args.current _ _ c.if-out-ne-SECTOR_STREAM.true

pub returns-then-out-ne-SECTOR_STREAM-clause-next : goal.returns-then-out-ne-SECTOR_STREAM-clause-next
returns-then-out-ne-SECTOR_STREAM-clause-next c =
    trial_stays c.args.current c.args.bytes.now c.args.out.now 1 (to_length c.args.current _ _ c.if-out-ne-SECTOR_STREAM.true) (λ z. omega arith)

pub returns-in_err-after-clause-next : goal.returns-in_err-after-clause-next
returns-in_err-after-clause-next c =
    let w = c.args.current in
    let bs = c.args.bytes.now in
    let number = (c.in_err-after.ensures).number ∙ ap (sector_refusal w (length bs)) (sym c.if-out-ne-SECTOR_STREAM.false) in
    kept w c.from_residual.result c.from_residual.ensures.0 ∙ trial_stays w bs c.args.out.now _ number (refused _)

pub returns-clause-next : goal.returns-clause-next
returns-clause-next c =
    let w = c.args.current in
    let bs = c.args.bytes.now in
    let e = c.in_ok-after.ensures in
    let free = e.number ∙ ap (sector_refusal w (length bs)) (sym c.if-out-ne-SECTOR_STREAM.false) in
    let after = e.next ∙ sector_after_lem w bs _ (sym e.number) in
    let same : to_z w64 (of_z w64 c.in_ok-after.after.dsv) ≡ c.in_ok-after.after.dsv = search rules in
    c.marked_with.ensures ∙ ap (marked_with w) (same ∙ ap (λ (v : Record). v.dsv) after) ∙ sym (trial_marks w bs (length c.args.out.now) (sym free))
