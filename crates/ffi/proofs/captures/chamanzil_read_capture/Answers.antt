-- `captures::chamanzil_read_capture` meets its contract: at a report of another length the list of stretches is as it was. Assumes nothing.
use Rattle.std.proofs.Common.{arith}
use Rattle.std.proofs.lemmas.Grind.{common_steps}
use Rattle.capture.specs.Answer.{ListAfter}
use Rattle.ffi.proofs.captures.chamanzil_read_capture.Goals as goal

pub returns-in_default-clause-list_after : goal.returns-in_default-clause-list_after
unfolding ListAfter
returns-in_default-clause-list_after c = grind (arith, common_steps)
