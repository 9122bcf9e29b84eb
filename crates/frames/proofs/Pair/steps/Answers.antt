-- `frames::Pair::steps` meets its contract: each turn makes the step over one byte more.
-- Assumes nothing.
use mathlib.Core.Path.{◌≡◌}
use native.Mathlib.Omega.{arith}
use Rattle.lists.proofs.Bytes.{bytes_of}
use Rattle.layout.specs.Lengths.{frame_bytes}
use Rattle.frames.proofs.Filling.{stepped_none, stepped_more, stepped_ready}
use Rattle.frames.proofs.Pair.steps.Goals as goal

pub loop-i-init : goal.loop-i-init
loop-i-init c = (omega arith, omega arith, stepped_none)

pub step-ends-requires : goal.step-ends-requires
step-ends-requires c =
    let v = c.loop-i.invariant in
    let bytes = bytes_of c.args.bytes.now (λ j h. c.fits-bytes j) in
    stepped_ready c.requires bytes (omega arith) v.0 v.1 v.2

pub loop-i-preserved : goal.loop-i-preserved
loop-i-preserved c =
    let more = stepped_more (omega (arith, c.told-bytes)) c.loop-i.invariant.2 c.step-ends.ensures in
    (c.step-ends.array_long, c.step-ends.array_long2, more)

pub returns : goal.returns
returns c =
    let all : c.loop-i.i ≡ frame_bytes = omega arith in
    rw (← all) c.loop-i.invariant.2
