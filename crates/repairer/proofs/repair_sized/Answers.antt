-- `repair_sized` meets its contract, case by case. Assumes nothing.
use mathlib.Core.Path.{◌≡◌, sym, ap, ◌∙◌}
use Rattle.std.proofs.Common.{rules}
use Rattle.std.specs.Prelude.{Result, Err}
use Rattle.repairer.specs.declared.Repair.{Repair}
use Rattle.repairer.specs.declared.BlockRefusal.{BlockRefusal}
use Rattle.repairer.proofs.Answers.{mark_refused, stages, frame_refused, handed_out}
use Rattle.repairer.proofs.repair_sized.Goals as goal

pub returns-then-not-marks_fit : goal.returns-then-not-marks_fit
returns-then-not-marks_fit c =
    let a = c.args in
    let met = mark_refused a.block.now a.erasures.now a.main.now c.told-block c.told-erasures c.told-main _ c.marks_fit.ensures c.if-not-marks_fit.true in
    let refused : BlockRefusal → Result Repair BlockRefusal = λ e. Err e in
    record { value = ap refused c.into.ensures ∙ met.value; block_after = met.block; main_after = met.main }

pub returns-in_err-repair : goal.returns-in_err-repair
returns-in_err-repair c =
    let a = c.args in
    let r : c.judge_frames.result ≡ c.from_residual.result = search rules in
    let v = stages a.block.now a.erasures.now _ _ _ _ _ (c.repair_words-rows.ensures.value, c.repair_words-rows.ensures.block_after) (c.repair_words-columns.ensures.value, c.repair_words-columns.ensures.block_after) c.judge_frames.ensures in
    let met = frame_refused a.block.now a.erasures.now a.main.now c.told-block c.told-erasures c.told-main _ c.marks_fit.ensures c.if-not-marks_fit.false _ _ v _ c.in_err-repair.was in
    record { value = sym r ∙ met.value; block_after = met.block; main_after = met.main }

pub returns : goal.returns
returns c =
    let a = c.args in
    let v = stages a.block.now a.erasures.now _ _ _ _ _ (c.repair_words-rows.ensures.value, c.repair_words-rows.ensures.block_after) (c.repair_words-columns.ensures.value, c.repair_words-columns.ensures.block_after) c.judge_frames.ensures in
    let met = handed_out a.block.now a.erasures.now a.main.now c.told-block c.told-erasures c.told-main _ c.marks_fit.ensures c.if-not-marks_fit.false _ _ v _ _ c.in_ok-repair.was c.hand_out.ensures in
    record { value = met.value; block_after = met.block; main_after = met.main }
