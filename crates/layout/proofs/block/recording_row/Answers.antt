-- `block::recording_row` meets its contract. Assumes nothing.
use mathlib.Core.Path.{sym}
use native.Mathlib.Omega.{arith}
use Rattle.layout.proofs.Order.{recording_low, recording_high}
use Rattle.layout.proofs.block.recording_row.Goals as goal

pub returns-then-i-lt-DATA_ROWS : goal.returns-then-i-lt-DATA_ROWS
returns-then-i-lt-DATA_ROWS c = let i = c.args.i in record {
  value = sym (recording_low i (omega arith));
  upper_bound = omega arith;
}

pub returns : goal.returns
returns c = let i = c.args.i in record {
  value = sym (recording_high i (omega arith));
  upper_bound = omega arith;
}
