-- `octets::bit_at` meets its contract.
-- Assumes nothing.
use Rattle.octets.specs.Halves.{bit_at}
use Rattle.octets.proofs.Halves.{odd_bit}
use Rattle.octets.proofs.bit_at.Goals as goal

pub returns : goal.returns
unfolding bit_at
returns c = odd_bit _
