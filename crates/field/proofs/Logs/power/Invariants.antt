-- `field::Logs::power` meets its contract: at the head of each turn the accumulator times base^left is the power asked for. Assumes nothing.
use mathlib.Core.Path.{◌≡◌}
use Prim.Native.Nat.{◌<◌}
use Rattle.field.specs.Field.{mul, pow}
use Rattle.field.proofs.Logs.power.Given as goal

abbrev pub invariant-loop-left : goal.invariant-loop-left
invariant-loop-left l = (l.accumulator < 256) × (l.base < 256) × (mul l.accumulator (pow l.base l.left) ≡ pow l.a l.n)

abbrev pub decreases-loop-left : goal.decreases-loop-left
decreases-loop-left l = l.left
