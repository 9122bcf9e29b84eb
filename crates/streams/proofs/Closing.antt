-- The closing code (document 02, request 7): it is SY0 laid by one choice (closing_by_choice), neither code of the class leaves a lower absolute DSV
-- (closing_lowest), and where both leave the same it is the Primary (closing_primary). The State after it is 1 (closing_state).
-- Assumes nothing.
use mathlib.Core.Path.{◌≡◌, refl, ap, ◌∙◌}
use mathlib.Core.Bool.{Bool, true, false, not, cond}
use Prim.Native.Nat.{◌≤◌}
use native.Mathlib.Omega.{arith}
use borrow.Author.Tests.{le-leb}
use Rattle.channel.specs.Channel.{sync}
use Rattle.levels.specs.Level.{magnitude}
use Rattle.levels.specs.declared.Running.{Running}
use Rattle.streams.specs.Frames.{closing_of}
use Rattle.streams.specs.Streams.{Stream, fresh, lay, one_lower, lower, opened}
use Rattle.streams.proofs.Shown.{lower_lowest}

module _ (r : Running) where
  -- SY0 by a choice, in the class that the State selects
  abbrev pub coded : Bool → Stream
  coded c = lay (fresh r) (sync 0) c

  -- Secondary just where the Primary's stream is not the lower
  pub closing_by_choice : closing_of r ≡ coded (not (one_lower (opened r 0)))
  unfolding lower opened
  closing_by_choice = by (one_lower (opened r 0))
    where
      by : (b : Bool) → cond b (coded false) (coded true) ≡ coded (not b)
      by true = refl
      by false = refl

  pub closing_lowest : (c : Bool) → magnitude (closing_of r).running.dsv ≤ magnitude (coded c).running.dsv
  unfolding opened
  closing_lowest false = lower_lowest true (opened r 0)
  closing_lowest true = lower_lowest false (opened r 0)

  pub closing_primary : magnitude (coded false).running.dsv ≡ magnitude (coded true).running.dsv → closing_of r ≡ coded false
  unfolding opened
  closing_primary e =
      let first = le-leb (magnitude (coded false).running.dsv) (magnitude (coded true).running.dsv) (omega arith) in
      closing_by_choice ∙ ap (λ (b : Bool). coded (not b)) first

  pub closing_state : (closing_of r).running.state ≡ 1
  unfolding lay
  closing_state = ap (λ (m : Stream). m.running.state) closing_by_choice
