-- `field::Logs::alpha_power` meets its contract: an entry of the table. Assumes nothing.
use mathlib.Core.Path.{ap, ◌∙◌}
use Prim.Native.Nat.{ℕ, ◌+◌}
use lib.ListN.{get_or}
use native.Mathlib.Omega.{arith}
use Rattle.field.proofs.Logs.alpha_power.Goals as goal

pub returns : goal.returns
returns c = ap (λ (x : ℕ). get_or c.args.self.now.table (256 + x) 0) c.from.ensures ∙ c.args.self.now.sound.exp c.args.k (omega arith)
