-- `octets::put` meets its contract. Assumes nothing.
use Rattle.std.proofs.Common.{arith, refl, ◌∙◌, ◌+◌, ◌-◌, length}
use Rattle.std.proofs.lemmas.Slice.{put_mid-paste}
use Rattle.octets.proofs.Copies.{paste_sets}
use Rattle.octets.proofs.put.Goals as goal

pub returns : goal.returns
returns c = let a = c.args in
    put_mid-paste a.at (a.at + length a.from.now - a.at) a.to.now c.copy_from_slice.new.self a.from.now (length a.from.now) c.copy_from_slice.ensures.after (omega arith) refl
    ∙ paste_sets a.to.now a.at a.from.now c.requires
