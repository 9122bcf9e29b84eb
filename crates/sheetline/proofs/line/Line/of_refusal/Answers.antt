-- `Line::of_refusal` meets its contract. Assumes nothing.
use mathlib.Core.List.{List, ◌++◌, append-nil}
use mathlib.Core.Path.{◌≡◌, sym, ap, ◌∙◌}
use Prim.Native.Nat.{ℕ}
use Rattle.std.specs.Prelude.{decimal}
use Rattle.refusals.specs.Refusal.{refusal_number}
use Rattle.sheetline.specs.Line.{written, sheet_line, refused_text, frame_part, frame_text}
use Rattle.sheetline.proofs.Laying.{then}
use Rattle.sheetline.proofs.line.Line.of_refusal.Goals as goal
use Rattle.sheetline.proofs.line.Line.of_refusal.Goals.{in-Some, in_default}

pub returns : goal.returns
unfolding sheet_line
returns c =
    let e = c.args.refused in
    let opening : List ℕ = refused_text ++ decimal (refusal_number e.refusal) in
    let number : written c.number-2.new.self ≡ opening =
    then _ c.new-line.ensures.text c.number-2.ensures.text ∙ ap (λ (n : ℕ). refused_text ++ decimal n) (c.from.ensures ∙ c.number.ensures) in
    let frame : written c.match-refused.line ≡ opening ++ frame_part e.frame = elim c.match-refused.branch [
      | in-Some w ↦ rw (w.in-Some.is, w.line-is)
          (then _ number w.number-in-Some.ensures.text ∙ ap (λ (n : ℕ). opening ++ (frame_text ++ decimal n)) w.from-in-Some.ensures)
      | in_default w ↦ rw (w.in_default.is, w.line-is) (number ∙ sym (append-nil opening))
    ] in
    then _ frame c.end.ensures
