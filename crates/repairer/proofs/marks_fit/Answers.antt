-- `marks_fit` meets its contract: the marks before the next all fit, or one does not. Assumes nothing.
use mathlib.Core.Path.{sym, ap, ◌∙◌}
use mathlib.Core.Bool.{Bool, ◌&&◌}
use Prim.Native.Nat.{ℕ}
use native.Mathlib.Omega.{arith}
use lib.Dec.{leb}
use lib.ListN.{get_or}
use Rattle.std.specs.List.{list_all}
use Rattle.std.proofs.lemmas.List.{take_all}
use Rattle.std.proofs.lemmas.List.Folds.{list_all_more}
use Rattle.repairer.specs.Answer.{marks_fit}
use Rattle.repairer.proofs.marks_fit.Goals as goal

pub loop-mark-preserved : goal.loop-mark-preserved
loop-mark-preserved c =
    let m = c.args.erasures.now in
    let i = c.loop-mark.mark-index in
    let test : ℕ → Bool = λ mark. leb mark 1 in
    ap (λ (t : Bool). t && test (get_or m i 0)) c.loop-mark.invariant ∙ sym (list_all_more test m i 0 (omega arith))

pub returns : goal.returns
unfolding marks_fit
returns c =
    let m = c.args.erasures.now in
    c.loop-mark.invariant ∙ ap (list_all (λ mark. leb mark 1)) (take_all c.loop-mark.mark-index m (omega arith))
