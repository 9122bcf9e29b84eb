-- `frames::hand_out` meets its contract: each turn writes the main data of one frame. Assumes nothing.
use mathlib.Core.Path.{◌≡◌, ap, ◌∙◌}
use native.Mathlib.Omega.{arith}
use lib.ListN.{length}
use borrow.Author.Rules.{rules}
use Rattle.dataframe.specs.Checks.{unscrambled}
use Rattle.repairer.proofs.FrameLaws.{main_more, main_all}
use Rattle.repairer.proofs.frames.hand_out.Goals as goal

pub loop-k-preserved : goal.loop-k-preserved
loop-k-preserved c =
    let f = c.unscramble-frame.result in
    let e = c.unscramble-frame.ensures ∙ ap unscrambled c.frame_at.ensures in
    let size : length f ≡ 2064 = search rules in
    main_more c.args.block.now c.args.main.now c.loop-k.main _ f c.loop-k.k e size (omega (arith, c.told-main)) c.put.ensures c.loop-k.invariant

pub returns : goal.returns
returns c =
    let e : c.loop-k.k ≡ 16 = omega arith in
    main_all c.args.block.now _ c.loop-k.main c.told-main (rw e at c.loop-k.invariant)
