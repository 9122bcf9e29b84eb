-- `rows::Rows::syndromes` meets its contract: the sums of what is left of the row are its own. Assumes nothing.
use mathlib.Core.Path.{◌≡◌, ap, ◌∙◌}
use Prim.Native.Nat.{ℕ, ◌+◌, ◌*◌, ◌-◌, ◌<◌}
use native.Mathlib.Omega.{arith}
use lib.ListN.{get_or, take, drop}
use Rattle.division.specs.Inner.{packed, remainder_of}
use Rattle.repairer.specs.Inner.{Rows}
use Rattle.repairer.proofs.Along.{left_syndromes}
use Rattle.repairer.proofs.rows.Rows.syndromes.Goals as goal

pub returns : goal.returns
returns c =
    let xs = c.args.block.now in
    let q = c.args.q in
    let small : (i : ℕ) → get_or xs i 0 < 256 = λ i. c.fits-block i in
    let n : q * 182 + 182 - q * 182 ≡ 182 = omega arith in
    left_syndromes Rows xs q c.told-block small c.requires _ _
    (c.remainder_of.ensures ∙ ap (λ (m : ℕ). packed (remainder_of 10 (take m (drop (q * 182) xs)))) n) c.syndromes.ensures
