-- `pool` meets its contract, case by case. Assumes nothing.
use mathlib.Core.Path.{◌≡◌, sym, ap, ap₂, ◌∙◌}
use mathlib.Core.Bool.{◌&&◌}
use Rattle.repairer.specs.Answer.{marks_fit}
use Rattle.pooling.specs.Pool.{with_marks, pooled}
use Rattle.pooling.proofs.Answers.{first_fails, second_tells, length_refused, bytes_unfit, erasures_unfit, second_unfit, marks_unfit, mark_refused, pooled_both}
use Rattle.pooling.proofs.pool.Goals as goal
use Rattle.pooling.proofs.pool.Goals.{then-marks_fit, else-marks_fit}

pub returns-in_default : goal.returns-in_default
returns-in_default c =
    let a = with_marks c.args.bytes.now c.args.erasures.now in
    let b = with_marks c.args.second.now c.args.marks.now in
    let met = length_refused a b (bytes_unfit a b c.in_default.ensures.cases) in
    record { value = met.value; result_value = met.number; bytes_after = met.bytes; erasures_after = met.erasures }

pub returns-in_default-as_mut_array : goal.returns-in_default-as_mut_array
returns-in_default-as_mut_array c =
    let a = with_marks c.args.bytes.now c.args.erasures.now in
    let b = with_marks c.args.second.now c.args.marks.now in
    let x = c.in-Some.ensures.cases in
    let met = length_refused a b (erasures_unfit a b x.long c.in_default-as_mut_array.ensures.cases) in
    record { value = met.value; result_value = met.number; bytes_after = x.same ∙ met.bytes; erasures_after = met.erasures }

pub returns-in_default-as_array : goal.returns-in_default-as_array
returns-in_default-as_array c =
    let a = with_marks c.args.bytes.now c.args.erasures.now in
    let b = with_marks c.args.second.now c.args.marks.now in
    let x = c.in-Some.ensures.cases in
    let m = c.in-Some-as_mut_array.ensures.cases in
    let met = length_refused a b (second_unfit a b x.long m.long c.in_default-as_array.ensures.cases) in
    record { value = met.value; result_value = met.number; bytes_after = x.same ∙ met.bytes; erasures_after = m.same ∙ met.erasures }

pub returns-in_default-as_array-2 : goal.returns-in_default-as_array-2
returns-in_default-as_array-2 c =
    let a = with_marks c.args.bytes.now c.args.erasures.now in
    let b = with_marks c.args.second.now c.args.marks.now in
    let x = c.in-Some.ensures.cases in
    let m = c.in-Some-as_mut_array.ensures.cases in
    let y = c.in-Some-as_array.ensures.cases in
    let met = length_refused a b (marks_unfit a b x.long m.long y.long c.in_default-as_array-2.ensures.cases) in
    record { value = met.value; result_value = met.number; bytes_after = x.same ∙ met.bytes; erasures_after = m.same ∙ met.erasures }

pub returns-then-not-marks_fit : goal.returns-then-not-marks_fit
returns-then-not-marks_fit c =
    let a = with_marks c.args.bytes.now c.args.erasures.now in
    let b = with_marks c.args.second.now c.args.marks.now in
    let x = c.in-Some.ensures.cases in
    let m = c.in-Some-as_mut_array.ensures.cases in
    let y = c.in-Some-as_array.ensures.cases in
    let n = c.in-Some-as_array-2.ensures.cases in
    let first : c.marks_fit.result ≡ marks_fit a.erasures = c.marks_fit.ensures ∙ ap marks_fit m.same in
    let both : c.if-marks_fit.value ≡ (marks_fit a.erasures && marks_fit b.erasures) =
    elim c.if-marks_fit.branch [
      | then-marks_fit w ↦ w.value-is ∙ second_tells _ _ _ _ first w.if-marks_fit.true (w.marks_fit-then-marks_fit.ensures ∙ ap marks_fit n.same)
      | else-marks_fit w ↦ w.value-is ∙ first_fails _ _ _ first w.if-marks_fit.false
    ] in
    let met = mark_refused a b x.long m.long y.long n.long (sym both ∙ c.if-not-marks_fit.true) in
    record { value = met.value; result_value = met.number; bytes_after = x.same ∙ met.bytes; erasures_after = m.same ∙ met.erasures }

pub returns : goal.returns
returns c =
    let a = with_marks c.args.bytes.now c.args.erasures.now in
    let b = with_marks c.args.second.now c.args.marks.now in
    let x = c.in-Some.ensures.cases in
    let m = c.in-Some-as_mut_array.ensures.cases in
    let y = c.in-Some-as_array.ensures.cases in
    let n = c.in-Some-as_array-2.ensures.cases in
    let first : c.marks_fit.result ≡ marks_fit a.erasures = c.marks_fit.ensures ∙ ap marks_fit m.same in
    let both : c.if-marks_fit.value ≡ (marks_fit a.erasures && marks_fit b.erasures) =
    elim c.if-marks_fit.branch [
      | then-marks_fit w ↦ w.value-is ∙ second_tells _ _ _ _ first w.if-marks_fit.true (w.marks_fit-then-marks_fit.ensures ∙ ap marks_fit n.same)
      | else-marks_fit w ↦ w.value-is ∙ first_fails _ _ _ first w.if-marks_fit.false
    ] in
    let one : with_marks c.in-Some.bytes.now c.in-Some-as_mut_array.erasures.now ≡ a = ap₂ with_marks x.same m.same in
    let other : with_marks c.in-Some-as_array.second.now c.in-Some-as_array-2.marks.now ≡ b = ap₂ with_marks y.same n.same in
    let bytes : c.pool_places.new.bytes ≡ (pooled a b).bytes = c.pool_places.ensures.bytes_after ∙ ap₂ (λ p q. (pooled p q).bytes) one other in
    let erasures : c.pool_places.new.erasures ≡ (pooled a b).erasures = c.pool_places.ensures.erasures_after ∙ ap₂ (λ p q. (pooled p q).erasures) one other in
    let met = pooled_both a b x.long m.long y.long n.long (sym both ∙ c.if-not-marks_fit.false) c.pool_places.new.bytes c.pool_places.new.erasures bytes erasures in
    record { value = met.value; result_value = met.number; bytes_after = met.bytes; erasures_after = met.erasures }
