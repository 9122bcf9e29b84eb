-- `frames::Pair::filled` meets its contract.
-- Assumes nothing.
use mathlib.Core.Bool.{true, false}
use native.Mathlib.Omega.{arith}
use Rattle.frames.proofs.Words.{synced}
use Rattle.frames.proofs.Filling.{shows-opened, stepped_whole}
use Rattle.frames.proofs.Pair.filled.Goals as goal

pub steps-requires : goal.steps-requires
steps-requires c =
    let r = c.args.running in
    let n = c.args.code in
    let one = synced r n false c.args.stream1.now (omega arith) (c.sync-one.ensures.value, c.sync-one.ensures.buffer_after) in
    let two = synced r n true c.args.stream2.now (omega arith) (c.sync-two.ensures.value, c.sync-two.ensures.buffer_after) in
    record { start = r; code = n; begins = c.requires; shows = shows-opened r n one two }

pub returns : goal.returns
returns c =
    let r = c.args.running in
    let n = c.args.code in
    let one = synced r n false c.args.stream1.now (omega arith) (c.sync-one.ensures.value, c.sync-one.ensures.buffer_after) in
    let two = synced r n true c.args.stream2.now (omega arith) (c.sync-two.ensures.value, c.sync-two.ensures.buffer_after) in
    let whole = stepped_whole r n c.steps.ensures (shows-opened r n one two) c.told-bytes (omega arith) (omega arith) in
    record { one = whole.0; two = whole.1 }
