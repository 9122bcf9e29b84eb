-- `scrambling::eight_shifts` meets its contract. Assumes nothing.
use mathlib.Core.Path.{sym}
use native.Mathlib.Omega.{arith}
use Rattle.scrambling.proofs.Register.{eight_shifts}
use Rattle.scrambling.proofs.eight_shifts.Goals as goal

pub returns : goal.returns
returns c = record {
  value = sym (eight_shifts c.args.r c.requires);
  upper_bound = omega arith;
}
