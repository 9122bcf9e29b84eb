-- `writer::sector::frames` meets its contract: each turn lays one frame more.
-- Assumes nothing.
use mathlib.Core.Path.{ap, ◌∙◌}
use Prim.Native.Nat.{max}
use native.Mathlib.Omega.{arith}
use Rattle.lists.proofs.Bytes.{bytes_of}
use Rattle.writer.proofs.Sectors.{laying_none, laying_more, laying_all, frame_begins}
use Rattle.writer.proofs.sector.frames.Goals as goal

pub loop-k-init : goal.loop-k-init
loop-k-init c = (omega arith, omega arith, omega arith, laying_none)

pub frame-running-requires : goal.frame-running-requires
frame-running-requires c =
    let bytes = bytes_of c.args.bytes.now (λ j h. c.fits-bytes j) in
    frame_begins c.requires c.loop-k.invariant.3 (omega arith) c.told-bytes bytes

pub loop-k-preserved : goal.loop-k-preserved
loop-k-preserved c =
    let k = c.loop-k-test.true in
    let peak = c.max-peak.ensures ∙ ap (max c.loop-k.peak) c.absolute.ensures in (
      c.frame-running.array_long,
      c.frame-running.array_long2,
      c.frame-running.array_long3,
      laying_more c.loop-k.invariant.3 (c.frame-running.ensures.running, c.frame-running.ensures.laid) peak (omega (arith, k, c.told-bytes)),
    )

pub returns : goal.returns
returns c =
    let v = c.loop-k.invariant in
    let whole = laying_all (omega arith) v.2 v.3 in
    record { running = whole.0; peak = whole.1.0; laid = whole.1.1 }
