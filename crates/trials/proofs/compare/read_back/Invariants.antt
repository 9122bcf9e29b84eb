-- No more than one for each byte so far.
use Rattle.std.proofs.Common.{◌≤◌}
use Rattle.trials.proofs.compare.read_back.Given as goal

abbrev pub invariant-loop-i : goal.invariant-loop-i
invariant-loop-i l = l.n ≤ l.i
