-- `scrambling::preset` meets its contract. Assumes nothing.
use mathlib.Core.Path.{refl}
use Rattle.scrambling.specs.Scrambling.{presets, preset_of}
use Rattle.scrambling.proofs.Scrambled.{preset_lt}
use Rattle.scrambling.proofs.preset.Goals as goal

pub returns : goal.returns
unfolding preset_of presets
returns c = record { value = refl; upper_bound = preset_lt c.args.number }
