-- `laying::Side::sync` meets its contract.
-- Assumes nothing.
use mathlib.Core.Path.{ap, ◌∙◌}
use mathlib.Core.List.{List}
use Prim.Native.Nat.{ℕ}
use Rattle.annexg.specs.Sync.{sync_end}
use Rattle.octets.specs.Halves.{put_half}
use Rattle.laying.proofs.Words.{sync_side}
use Rattle.laying.proofs.Side.sync.Goals as goal

pub returns : goal.returns
returns c =
    let a = c.args in
    let first = c.code-first.ensures in
    let front = c.put_half.ensures ∙ ap (put_half a.buffer.now 0) first in
    record {
      value = sync_side a.running a.code _ a.choice _ first c.sync.ensures;
      buffer_after = c.put_half-2.ensures ∙ ap (λ (x : List ℕ). put_half x 2 sync_end) front;
    }
