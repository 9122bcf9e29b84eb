-- `frames::Pair::plan` meets its contract.
-- Assumes nothing.
use mathlib.Core.Path.{◌≡◌, ap, ap₂, ◌∙◌}
use mathlib.Core.Bool.{Bool, cond}
use Rattle.laying.specs.declared.Side.{Side}
use Rattle.streams.specs.Streams.{swap_possible}
use Rattle.frames.specs.Inner.{plan_of, plan_for}
use Rattle.frames.proofs.Pair.plan.Goals as goal
use Rattle.frames.proofs.Pair.plan.Goals.{then-first, else-first}

pub returns : goal.returns
unfolding plan_for
returns c =
    let a = c.args in
    let first = c.lower-first.ensures in
    let picked : c.if-first.low ≡ cond c.lower-first.result a.self.one a.self.two = elim c.if-first.branch [
      | then-first w ↦ rw w.if-first.true w.low-is
      | else-first w ↦ rw w.if-first.false w.low-is
    ] in
    let low = picked ∙ ap (λ (f : Bool). cond f a.self.one a.self.two) first in
    let b = a.byte in
    let state = c.if-first.low.running.state in
    c.of.ensures
    ∙ ap (plan_of c.lower-first.result state b) c.can_swap.ensures
    ∙ ap₂ (λ (f : Bool) (d : Side). plan_of f d.running.state b (swap_possible d.running.state d.tail b))
    first low
