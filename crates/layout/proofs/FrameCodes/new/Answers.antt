-- `layout::FrameCodes::new` meets its contract, by computing. Assumes nothing.
use Rattle.std.proofs.Common.{refl}
use Rattle.layout.specs.Sectors.{frame_codes}
use Rattle.layout.proofs.FrameCodes.new.Goals as goal

pub invariant_of-result : goal.invariant_of-result
unfolding frame_codes
invariant_of-result c = record { sound = refl }
