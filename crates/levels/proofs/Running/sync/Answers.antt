-- `levels::Running::sync` meets its contract. Two half words one after the other are one list of two.
-- Assumes nothing.
use mathlib.Core.Path.{ap, subst, sym, ◌∙◌}
use mathlib.Core.List.{[], ◌∷◌}
use Rattle.annexg.specs.Sync.{sync_end}
use Rattle.levels.specs.Inner.{Room}
use Rattle.levels.specs.Level.{running_after}
use Rattle.levels.specs.declared.Running.{Running}
use Rattle.levels.proofs.Steps.{running-append, room_after}
use Rattle.levels.proofs.Running.sync.Goals as goal

pub word-requires : goal.word-requires
word-requires c =
    subst (λ (r : Running). Room r 16) (sym c.half.ensures) (room_after _ _ 16 (_ ∷ []) c.requires)

pub returns : goal.returns
returns c =
    let a = c.args in
    c.word.ensures ∙ ap (λ (r : Running). running_after r 1 (sync_end ∷ [])) c.half.ensures
    ∙ running-append a.self a.self.state 1 (a.first ∷ []) (sync_end ∷ [])
