-- `dataframe::edc_passes` meets its contract. Assumes nothing.
use mathlib.Core.Path.{◌≡◌, ap, ap₂, sym, ◌∙◌}
use mathlib.Core.List.{List}
use Prim.Native.Nat.{ℕ}
use lib.ListN.{length, take, drop, length-drop}
use lib.Seq.{take_all}
use Rattle.layout.specs.Lengths.{edc_place, frame_size}
use Rattle.edc.specs.Edc.{edc_of}
use Rattle.edc.proofs.Steps.{edc_length}
use Rattle.dataframe.specs.Checks.{unscrambled, agree, edc_passes}
use Rattle.dataframe.proofs.Checked.{agree_pointwise}
use native.Mathlib.Omega.{arith}
use borrow.Author.Rules.{rules}
use Rattle.dataframe.proofs.edc_passes.Goals as goal

pub returns : goal.returns
unfolding edc_passes
returns c =
    let f = c.args.frame in
    let len : length f ≡ frame_size = search rules in
    let end : length (drop edc_place f) ≡ 4 = omega (arith, length-drop edc_place f) in
    let last : take 4 (drop edc_place f) ≡ drop edc_place f = take_all 4 (drop edc_place f) (omega arith) in
    let e : c.as_slice.result.now ≡ edc_of (take edc_place (unscrambled f)) =
    c.as_slice.ensures ∙ c.edc-e.ensures ∙ ap (λ (x : List ℕ). edc_of (take edc_place x)) c.unscramble-plain.ensures in
    c.eq.ensures
    ∙ agree_pointwise (take 4 (drop edc_place f)) c.as_slice.result.now
    (ap length last ∙ end ∙ sym (ap length e ∙ edc_length (take edc_place (unscrambled f))))
    ∙ ap₂ agree last e
