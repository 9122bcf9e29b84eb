-- `writer::sector::closing` meets its contract.
-- Assumes nothing.
use mathlib.Core.Path.{◌≡◌, sym, ap, ◌∙◌}
use native.Mathlib.Omega.{arith}
use lib.Seq.{take_all}
use Rattle.octets.specs.Halves.{packed}
use Rattle.frames.proofs.Words.{synced}
use Rattle.layout.specs.Lengths.{closing_size}
use Rattle.streams.specs.Frames.{closing_of}
use Rattle.streams.specs.Streams.{Stream}
use Rattle.streams.proofs.Closing.{coded, closing_by_choice}
use Rattle.writer.proofs.sector.closing.Goals as goal

pub returns : goal.returns
returns c =
    let a = c.args in
    let choice = c.closing_choice-choice.result in
    let part = synced a.start 0 choice a.out.now (omega arith) (c.sync.ensures.value, c.sync.ensures.buffer_after) in
    let written : coded a.start choice ≡ closing_of a.start =
    ap (coded a.start) c.closing_choice-choice.ensures ∙ sym (closing_by_choice a.start) in
    record {
      running = part.running ∙ ap (λ (m : Stream). m.running) written;
      laid = sym (take_all closing_size _ (omega arith)) ∙ part.bytes ∙ ap (λ (m : Stream). packed m.halves) written;
    }
