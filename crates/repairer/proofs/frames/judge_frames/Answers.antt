-- `frames::judge_frames` meets its contract: each turn judges one frame. Assumes nothing.
use mathlib.Core.Path.{◌≡◌, refl, sym, ap, ◌∙◌}
use Prim.Native.Nat.{ℕ, ◌-◌}
use native.Mathlib.Omega.{arith}
use Rattle.std.specs.Prelude.{Result, Ok}
use Rattle.dataframe.specs.Checks.{number_of}
use Rattle.repairer.specs.declared.Repair.{Repair}
use Rattle.repairer.specs.declared.BlockRefusal.{BlockRefusal}
use Rattle.repairer.specs.Answer.{frame_answer, repair_of}
use Rattle.repairer.proofs.FrameLaws.{answer_of, frame_passes, frame_fails, judged-none}
use Rattle.repairer.proofs.frames.judge_frames.Goals as goal

pub returns-in-Err : goal.returns-in-Err
returns-in-Err c =
    let ys = c.args.block.now in
    let k = c.loop-k.k in
    let r : c.check_frame.result ≡ frame_answer ys k =
    answer_of ys k _ _ c.frame_at-frame0.result c.frame_at-frame.result c.sector_number-first.result _ _ c.frame_at-frame0.ensures
    c.sector_number-first.ensures refl c.frame_at-frame.ensures c.check_frame.ensures c.from.ensures c.from-in-loop-k.ensures in
    sym (c.loop-k.invariant ∙ frame_fails ys k (Ok (repair_of ys c.args.tallies)) (omega arith) _ r _ c.in-Err.is)

pub loop-k-preserved : goal.loop-k-preserved
loop-k-preserved c =
    let ys = c.args.block.now in
    let k = c.loop-k.k in
    let r : c.check_frame.result ≡ frame_answer ys k =
    answer_of ys k _ _ c.frame_at-frame0.result c.frame_at-frame.result c.sector_number-first.result _ _ c.frame_at-frame0.ensures
    c.sector_number-first.ensures refl c.frame_at-frame.ensures c.check_frame.ensures c.from.ensures c.from-in-loop-k.ensures in
    c.loop-k.invariant ∙ frame_passes ys k (Ok (repair_of ys c.args.tallies)) (omega arith) _ r _ c.in_default.is

pub returns : goal.returns
returns c =
    let ys = c.args.block.now in
    let made : ℕ → Result Repair BlockRefusal = λ x. Ok (record { first = x; tallies = c.args.tallies }) in
    let e : 16 - c.loop-k.k ≡ 0 = omega arith in
    ap made (c.sector_number-first.ensures ∙ ap number_of c.frame_at-frame0.ensures)
    ∙ sym (c.loop-k.invariant ∙ judged-none ys c.loop-k.k (16 - c.loop-k.k) (Ok (repair_of ys c.args.tallies)) e)
