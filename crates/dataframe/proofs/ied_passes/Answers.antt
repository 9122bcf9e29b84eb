-- `dataframe::ied_passes` meets its contract. Assumes nothing.
use mathlib.Core.Path.{◌≡◌, ap, sym, ◌∙◌}
use lib.ListN.{length, take, drop, length-drop}
use lib.Seq.{length-take-le}
use native.Mathlib.Omega.{arith}
use Rattle.dataframe.specs.Frame.{ied_of}
use Rattle.dataframe.specs.Checks.{agree, ied_passes}
use Rattle.dataframe.proofs.Framed.{ied_length}
use Rattle.dataframe.proofs.Checked.{agree_pointwise}
use Rattle.dataframe.proofs.ied_passes.Goals as goal

pub returns : goal.returns
unfolding ied_passes
returns c =
    let f = c.args.frame.now in
    let ied : c.as_slice.result.now ≡ ied_of (take 4 f) = c.as_slice.ensures ∙ c.parity2_with.ensures in
    c.eq.ensures
    ∙ agree_pointwise (take 2 (drop 4 f)) c.as_slice.result.now (length-take-le 2 (drop 4 f) (omega (arith, length-drop 4 f)) ∙ sym (ap length ied ∙ ied_length (take 4 f)))
    ∙ ap (agree (take 2 (drop 4 f))) ied
