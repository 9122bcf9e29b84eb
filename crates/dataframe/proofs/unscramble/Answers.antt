-- `dataframe::unscramble` meets its contract. Assumes nothing.
use mathlib.Core.Path.{ap, ◌∙◌}
use Prim.Native.Nat.{ℕ}
use Rattle.scrambling.specs.Scrambling.{scrambled}
use Rattle.dataframe.specs.Checks.{unscrambled}
use Rattle.dataframe.proofs.unscramble.Goals as goal

pub returns : goal.returns
unfolding unscrambled
returns c = c.scramble.ensures ∙ ap (λ (x : ℕ). scrambled x c.args.frame) c.sector_number-number.ensures
