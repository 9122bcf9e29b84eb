-- `capture::read_from` meets its contract. Assumes nothing.
use mathlib.Core.Bool.{true}
use native.Mathlib.Omega.{arith}
use lib.ListN.{length}
use Rattle.capture.proofs.Answers.{sized_by, sized_capture, sized_buffer, too_many, few_enough, length_refused, stretches_refused, read_through}
use Rattle.capture.proofs.read_from.Goals as goal

pub returns-then-not-is_sized : goal.returns-then-not-is_sized
returns-then-not-is_sized c =
    let args = c.args in
    let xs = args.stream.now in
    let out = args.out.now in
    let refused = sized_by xs (length out) _ _ c.is_sized.ensures c.if-not-is_sized.true in
    let answered = length_refused xs args.at out args.stretches.now refused in
    record {
      value = answered.answer;
      result_value = answered.number;
      out_after = answered.buffer;
      list_after = answered.listed;
    }

pub count-captured-requires : goal.count-captured-requires
count-captured-requires c =
    let args = c.args in
    let sized = sized_by args.stream.now (length args.out.now) _ true c.is_sized.ensures c.if-not-is_sized.false in
    sized_capture args.stream.now (length args.out.now) sized

pub returns-then-stretches-captured : goal.returns-then-stretches-captured
returns-then-stretches-captured c =
    let args = c.args in
    let xs = args.stream.now in
    let list = args.stretches.now in
    let sized = sized_by xs (length args.out.now) _ true c.is_sized.ensures c.if-not-is_sized.false in
    let refused = too_many xs args.at (length list) _ c.count-captured.ensures.stretches_value c.if-stretches-captured.true in
    let answered = stretches_refused xs args.at args.out.now list sized refused in
    record {
      value = answered.answer;
      result_value = answered.number;
      out_after = answered.buffer;
      list_after = answered.listed;
    }

pub write_frames-requires : goal.write_frames-requires
write_frames-requires c =
    let args = c.args in
    let xs = args.stream.now in
    let n = length args.out.now in
    let sized = sized_by xs n _ true c.is_sized.ensures c.if-not-is_sized.false in
    record {
      stream_len_bound = sized_capture xs n sized;
      out_len = sized_buffer xs n sized;
    }

pub write_stretches-requires : goal.write_stretches-requires
write_stretches-requires c =
    let args = c.args in
    let xs = args.stream.now in
    let n = length args.out.now in
    let sized = sized_by xs n _ true c.is_sized.ensures c.if-not-is_sized.false in
    record {
      stream_len_bound = sized_capture xs n sized;
      at_in_bounds = omega (arith, c.count-captured.ensures.stretches_value, c.if-stretches-captured.false);
    }

pub returns : goal.returns
returns c =
    let args = c.args in
    let xs = args.stream.now in
    let out = args.out.now in
    let list = args.stretches.now in
    let sized = sized_by xs (length out) _ true c.is_sized.ensures c.if-not-is_sized.false in
    let fits = few_enough xs args.at (length list) _ c.count-captured.ensures.stretches_value c.if-stretches-captured.false in
    let answered = read_through xs args.at out list sized fits _ _ _ c.count-captured.ensures.frames_value c.count-captured.ensures.stretches_value c.write_frames.ensures c.write_stretches.ensures in
    record {
      value = answered.answer;
      result_value = answered.number;
      out_after = answered.buffer;
      list_after = answered.listed;
    }
