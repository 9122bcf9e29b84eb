-- `bytes::parity` meets its contract. Assumes nothing.
use Rattle.std.proofs.Common.{ap, ◌∙◌, ℕ, take}
use Rattle.division.specs.Inner.{unpacked}
use Rattle.division.proofs.Division.{parity-size, parity_small}
use Rattle.division.proofs.Unpacked.{unpacked-register}
use Rattle.codes.specs.Parity.{parity}
use Rattle.parity.proofs.bytes.parity.Goals as goal

pub returns : goal.returns
returns g c =
    let p : ℕ = g.row.P in
    let d = c.args.d.now in
    c.unpack.ensures ∙ ap (λ r. take p (unpacked r)) c.divide-left.ensures ∙ unpacked-register p (parity p d) (parity_small p d) (parity-size p d) c.args.table.now.fits
