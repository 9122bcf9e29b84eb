-- `write_block` meets its contract: another length is refused, the block maker refuses, or the writer answers over the block that is made.
-- Assumes nothing.
use mathlib.Core.List.{List}
use mathlib.Core.Path.{sym, ap, ◌∙◌}
use Prim.Native.Nat.{ℕ}
use native.Mathlib.Omega.{arith}
use lib.ListN.{length}
use Rattle.lists.proofs.Bytes.{bytes_of}
use Rattle.eccblock.specs.Encode.{Accepted}
use Rattle.writer.specs.Answers.{sectors_refusal, sectors_next, sectors_out}
use Rattle.writer.proofs.Answered.{refused, kept, numbered}
use Rattle.formatter.proofs.Answers.{length_refused, maker_refuses, number_passed, all_left, block_made, sectors_number, sectors_next_lem, sectors_out_lem}
use Rattle.formatter.proofs.write_block.Goals as goal

pub returns-then-out-ne-SECTORS_STREAM : goal.returns-then-out-ne-SECTORS_STREAM
returns-then-out-ne-SECTORS_STREAM c =
    let a = c.args in
    let all = length_refused a.current a.previous a.main.now a.first a.info a.out.now c.if-out-ne-SECTORS_STREAM.true in
    record { answer_value = all.0; next_value = all.1.0; out_after = all.1.1 }

pub returns-in_err-encode_block : goal.returns-in_err-encode_block
returns-in_err-encode_block c =
    let a = c.args in
    let e = c.in_err-encode_block.ensures.result_value in
    let number =
    number_passed a.current a.previous a.main.now a.first a.info a.out.now _ c.if-out-ne-SECTORS_STREAM.false
    (maker_refuses a.current a.previous (length a.main.now) a.first a.info _ (refused _) e) in
    let left = all_left a.current a.previous a.main.now a.first a.info a.out.now _ (refused _) number in
    record {
      answer_value = numbered _ _ c.from_residual.ensures.1 ∙ number;
      next_value = kept a.current _ c.from_residual.ensures.0 ∙ left.0;
      out_after = left.1;
    }

pub returns : goal.returns
returns c =
    let a = c.args in
    let w = a.current in
    let main = a.main.now in
    let taken = sym c.in_ok-encode_block.ensures.result_value in
    let ok : Accepted a.previous main a.first a.info =
    record { bytes = bytes_of main (λ i h. omega (arith, c.type_inv.main i)); byte = omega arith; taken = taken } in
    let made = c.in_ok-encode_block.ensures.out_after ∙ block_made a.previous main a.first a.info _ taken in
    let l = c.if-out-ne-SECTORS_STREAM.false in
    let e = c.write_sectors.ensures in
    record {
      answer_value = e.number
          ∙ ap (λ (xs : List ℕ). sectors_refusal w (length xs) (length a.out.now)) made
          ∙ sectors_number w a.previous main a.first a.info a.out.now l ok;
      next_value = e.next
          ∙ ap (λ (xs : List ℕ). sectors_next w xs (length a.out.now)) made
          ∙ sectors_next_lem w a.previous main a.first a.info a.out.now l ok;
      out_after = e.out_after
          ∙ ap (λ (xs : List ℕ). sectors_out w xs a.out.now) made
          ∙ sectors_out_lem w a.previous main a.first a.info a.out.now l ok;
    }
