-- `framing::frame_at` meets its contract. Assumes nothing.
use mathlib.Core.Path.{◌≡◌, sym, ap, ◌∙◌}
use mathlib.Core.Bool.{true, false}
use native.Mathlib.Omega.{arith}
use Rattle.framing.specs.Frames.{sync_at, frame_at}
use Rattle.framing.proofs.frame_at.Goals as goal

pub returns-then-sync_at : goal.returns-then-sync_at
unfolding frame_at
returns-then-sync_at c =
    let xs = c.args.stream.now in
    let first : sync_at xs c.args.at ≡ true = ap (sync_at xs) (omega arith) ∙ sym c.sync_at.ensures ∙ c.if-sync_at.true in
    rw first (c.sync_at-then-sync_at.ensures ∙ ap (sync_at xs) (omega arith))

pub returns-else-sync_at : goal.returns-else-sync_at
unfolding frame_at
returns-else-sync_at c =
    let xs = c.args.stream.now in
    let first : sync_at xs c.args.at ≡ false = ap (sync_at xs) (omega arith) ∙ sym c.sync_at.ensures ∙ c.if-sync_at.false in
    rw first c.if-sync_at.false
