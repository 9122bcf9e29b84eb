-- `repair_block` meets its contract, case by case: a buffer has another length, or the three go to `repair_sized`. Assumes nothing.
use mathlib.Core.Path.{◌≡◌, ap, ◌∙◌}
use lib.ListN.{length}
use Rattle.std.specs.Prelude.{Result, Err}
use Rattle.repairer.specs.Answer.{repair_answer, block_after, main_after}
use Rattle.repairer.specs.declared.Repair.{Repair}
use Rattle.repairer.specs.declared.BlockRefusal.{BlockRefusal}
use Rattle.repairer.proofs.Answers.{meets, length_refused, block_unfit, marks_unfit, main_unfit}
use Rattle.repairer.proofs.repair_block.Goals as goal

abbrev refused : BlockRefusal → Result Repair BlockRefusal
refused e = Err e

pub returns-in_default : goal.returns-in_default
returns-in_default c =
    let a = c.args in
    let done = length_refused a.block.now a.erasures.now a.main.now (block_unfit a.block.now a.erasures.now a.main.now c.in_default.ensures.cases) in
    let met = meets a.block.now a.erasures.now a.main.now _ _ _ (ap refused c.into.ensures ∙ done.value) done.block done.main in
    record { value = met.value; result_value = met.number; result_value_2 = met.frame; block_after = met.block; main_after = met.main }

pub returns-in_default-as_array : goal.returns-in_default-as_array
returns-in_default-as_array c =
    let a = c.args in
    let block = c.in-Some.ensures.cases in
    let done = length_refused a.block.now a.erasures.now a.main.now (marks_unfit a.block.now a.erasures.now a.main.now block.long c.in_default-as_array.ensures.cases) in
    let met = meets a.block.now a.erasures.now a.main.now _ _ _ (ap refused c.into-in_default-as_array.ensures ∙ done.value) (block.same ∙ done.block) done.main in
    record { value = met.value; result_value = met.number; result_value_2 = met.frame; block_after = met.block; main_after = met.main }

pub returns-in_default-as_mut_array : goal.returns-in_default-as_mut_array
returns-in_default-as_mut_array c =
    let a = c.args in
    let block = c.in-Some.ensures.cases in
    let erasures = c.in-Some-as_array.ensures.cases in
    let done = length_refused a.block.now a.erasures.now a.main.now (main_unfit a.block.now a.erasures.now a.main.now block.long erasures.long c.in_default-as_mut_array.ensures.cases) in
    let met = meets a.block.now a.erasures.now a.main.now _ _ _ (ap refused c.into-in_default-as_mut_array.ensures ∙ done.value) (block.same ∙ done.block) done.main in
    record { value = met.value; result_value = met.number; result_value_2 = met.frame; block_after = met.block; main_after = met.main }

pub returns : goal.returns
returns c =
    let a = c.args in
    let block : c.in-Some.block.now ≡ a.block.now = c.in-Some.ensures.cases.same in
    let erasures : c.in-Some-as_array.erasures.now ≡ a.erasures.now = c.in-Some-as_array.ensures.cases.same in
    let main : c.in-Some-as_mut_array.main.now ≡ a.main.now = c.in-Some-as_mut_array.ensures.cases.same in
    let value : c.repair_sized.result ≡ repair_answer a.block.now a.erasures.now (length a.main.now) = cc in
    let left : c.repair_sized.new.block ≡ block_after a.block.now a.erasures.now (length a.main.now) = cc in
    let given : c.repair_sized.new.main ≡ main_after a.block.now a.erasures.now a.main.now = cc in
    let met = meets a.block.now a.erasures.now a.main.now _ _ _ value left given in
    record { value = met.value; result_value = met.number; result_value_2 = met.frame; block_after = met.block; main_after = met.main }
