-- `writer::sector::frame` meets its contract.
-- Assumes nothing.
use mathlib.Core.Path.{◌∙◌}
use native.Mathlib.Omega.{arith}
use Rattle.writer.proofs.Sectors.{some_same, lent_is, selected_length, made_frame}
use Rattle.writer.proofs.sector.frame.Goals as goal

pub put-requires : goal.put-requires
put-requires c =
    let long = selected_length c.frame-shown.result.first _ _ c.select.ensures c.frame-shown.array_long c.frame-shown.array_long2 in
    omega (arith, long, c.requires.number, c.told-out)

pub returns : goal.returns
returns c =
    let whole = made_frame
    (record {
      code = c.of.ensures.value;
      lent = some_same _ _ c.unwrap-part.ensures c.as_array.ensures.cases ∙ lent_is c.args.bytes.now c.args.k;
      framed = (c.frame-shown.ensures.shown, (c.frame-shown.ensures.one, (c.frame-shown.ensures.two, c.frame-shown.ensures.running)));
      one = c.frame-shown.array_long;
      two = c.frame-shown.array_long2;
      shown = c.select.ensures;
      put = c.put.ensures;
      fits = omega (arith, c.requires.number, c.told-out);
    }) in
    record { running = whole.0; laid = whole.1 }
