-- `octets::half_at` meets its contract. Assumes nothing.
use Rattle.std.proofs.Common.{rules}
use Rattle.octets.specs.Halves.{half_at}
use Rattle.octets.proofs.half_at.Goals as goal

pub returns : goal.returns
unfolding half_at
returns c = search rules
