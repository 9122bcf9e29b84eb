-- `writer::sector::closing_choice` meets its contract.
-- Assumes nothing.
use mathlib.Core.Path.{ap, ap₂, ◌∙◌}
use mathlib.Core.Bool.{not}
use mathlib.Core.List.{[], ◌∷◌}
use Prim.Native.Nat.{ℕ}
use lib.Dec.{leb}
use Rattle.annexg.specs.Sync.{sync_end}
use Rattle.levels.specs.Level.{magnitude, running_after}
use Rattle.levels.specs.declared.Running.{Running}
use Rattle.streams.specs.Streams.{lay, opened}
use Rattle.writer.proofs.sector.closing_choice.Goals as goal

pub returns : goal.returns
unfolding opened lay
returns c =
    let start = c.args.start in
    let after : ℕ → Running = λ h. running_after start 1 (h ∷ sync_end ∷ []) in
    let one = c.sync-primary.ensures ∙ ap after c.code.ensures in
    let two = c.sync-secondary.ensures ∙ ap after c.code-2.ensures in
    ap not (c.lower.ensures ∙ ap₂ (λ (p q : Running). leb (magnitude p.dsv) (magnitude q.dsv)) one two)
