-- `writer::close` meets its contract: it is refused, or the closing code is laid.
-- Assumes nothing.
use mathlib.Core.Path.{refl, sym, ap, subst, ◌∙◌}
use native.Mathlib.Omega.{arith}
use Rattle.levels.specs.Inner.{Room}
use Rattle.levels.specs.declared.Running.{Running}
use Rattle.streams.specs.Frames.{closing_of}
use Rattle.writer.specs.Answers.{closing_refusal}
use Rattle.writer.proofs.Answered.{refused, kept, numbered}
use Rattle.writer.proofs.Sound.{closing_opens, closing_length, closing_refused, closing_done, closing_small, near, sound-room}
use Rattle.writer.proofs.close.Goals as goal

pub returns-in_default : goal.returns-in_default
returns-in_default c =
    let number = closing_length c.args.current _ c.in_default.ensures.cases in
    let left = closing_refused c.args.current c.args.out.now 1 number (λ z. omega arith) in
    record { number = number; next = left.0; out_after = left.1 }

pub returns-in_err-closes : goal.returns-in_err-closes
returns-in_err-closes c =
    let w = c.args.current in
    let long = c.in-Some.ensures.cases.long in
    let number = c.in_err-closes.ensures ∙ ap (closing_refusal w) (sym long) in
    let left = closing_refused w c.args.out.now _ number (refused _) in
    record {
      number = numbered _ _ c.from_residual.ensures.1 ∙ number;
      next = kept w _ c.from_residual.ensures.0 ∙ left.0;
      out_after = c.in-Some.ensures.cases.same ∙ left.1;
    }

pub running-requires : goal.running-requires
running-requires c = near c.args.current (closing_opens c.args.current _ (sym c.in_ok-closes.ensures)).is

pub closing-running-requires : goal.closing-running-requires
closing-running-requires c =
    let opens = closing_opens c.args.current _ (sym c.in_ok-closes.ensures) in
    subst (λ (z : Running). Room z 32) (sym c.running.ensures) (sound-room c.args.current opens.is 32 (omega arith))

pub of-requires : goal.of-requires
of-requires c =
    let opens = closing_opens c.args.current _ (sym c.in_ok-closes.ensures) in
    closing_small c.args.current _ opens.is (c.closing-running.ensures.running ∙ ap (λ (z : Running). (closing_of z).running) c.running.ensures)

pub returns : goal.returns
returns c =
    let w = c.args.current in
    let number = c.in_ok-closes.ensures ∙ ap (closing_refusal w) (sym c.in-Some.ensures.cases.long) in
    let left = closing_done w c.args.out.now _ number refl _ c.running.ensures _ _ (c.closing-running.ensures.running, c.closing-running.ensures.laid) in
    record { number = number; next = c.of.ensures ∙ left.0; out_after = left.1 }
