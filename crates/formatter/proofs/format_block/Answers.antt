-- `format_block` meets its contract: it is refused, or the block's sectors and the closing code are written.
-- Assumes nothing.
use mathlib.Core.Path.{sym, ◌∙◌}
use native.Mathlib.Omega.{arith}
use Rattle.std.specs.Prelude.{None}
use Rattle.lists.proofs.Bytes.{bytes_of}
use Rattle.eccblock.specs.Encode.{Accepted}
use Rattle.writer.proofs.Answered.{refused, numbered}
use Rattle.formatter.proofs.Answers.{format_length_refused, first_number, first_taken, first_left, first_closed, closing_taken}
use Rattle.formatter.proofs.format_block.Goals as goal

pub returns-then-out-ne-STREAM_SIZE : goal.returns-then-out-ne-STREAM_SIZE
returns-then-out-ne-STREAM_SIZE c =
    let a = c.args in
    let all = format_length_refused a.main.now a.first a.info a.out.now c.if-out-ne-STREAM_SIZE.true in
    record { result_value = all.0; out_after = all.1 }

pub returns-in_err-next : goal.returns-in_err-next
returns-in_err-next c =
    let a = c.args in
    let e = c.in_err-next.ensures in
    record {
      result_value = numbered _ _ c.from_residual.ensures.1 ∙ first_number a.main.now a.first a.info a.out.now _ c.if-out-ne-STREAM_SIZE.false e.answer_value;
      out_after = first_left a.main.now a.first a.info a.out.now c.if-out-ne-STREAM_SIZE.false _ _ (refused _) e.answer_value e.out_after;
    }

pub returns-in_err-close : goal.returns-in_err-close
returns-in_err-close c =
    let a = c.args in
    let main = a.main.now in
    let e = c.in_ok-next.ensures in
    let ok : Accepted None main a.first a.info =
    record {
      bytes = bytes_of main (λ i h. omega (arith, c.type_inv.main i));
      byte = omega arith;
      taken = first_taken main a.first a.info a.out.now (sym e.answer_value);
    } in
    let free = closing_taken main a.first a.info a.out.now c.if-out-ne-STREAM_SIZE.false c.write_first.new.out c.in_ok-next.next (sym e.answer_value) ok
    e.out_after e.next_value c.write_first.auto.out in
    absurd (refused _ (c.in_err-close.ensures.number ∙ free))

pub returns : goal.returns
returns c =
    let a = c.args in
    let main = a.main.now in
    let e = c.in_ok-next.ensures in
    let ok : Accepted None main a.first a.info =
    record {
      bytes = bytes_of main (λ i h. omega (arith, c.type_inv.main i));
      byte = omega arith;
      taken = first_taken main a.first a.info a.out.now (sym e.answer_value);
    } in
    record {
      result_value = first_number main a.first a.info a.out.now _ c.if-out-ne-STREAM_SIZE.false e.answer_value;
      out_after = first_closed main a.first a.info a.out.now c.if-out-ne-STREAM_SIZE.false c.write_first.new.out c.in_ok-next.next (sym e.answer_value) ok
          e.out_after e.next_value c.write_first.auto.out c.close.new.out c.in_ok-close.ensures.out_after;
    }
