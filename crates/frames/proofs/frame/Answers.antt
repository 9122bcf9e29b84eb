-- `frames::frame` meets its contract: the lower stream is ended and shown, the other keeps its buffer.
-- Assumes nothing.
use mathlib.Core.Path.{sym, ap}
use mathlib.Core.Bool.{true, false, not}
use Rattle.frames.proofs.Filling.{lower-is, buffer_keeps, buffer_shows, running_shown}
use Rattle.frames.proofs.frame.Goals as goal

pub returns-then-first : goal.returns-then-first
returns-then-first c =
    let r = c.args.running in
    let n = c.args.code in
    let bs = c.args.bytes.now in
    let one = c.filled-pair.ensures.one in
    let two = c.filled-pair.ensures.two in
    let lower = lower-is r n bs true one two c.lower-first.ensures c.if-first.true in
    let closes = c.change-running.ensures in
    record {
      shown = rw c.if-first.true (sym lower);
      one = buffer_shows r n bs true one lower closes;
      two = buffer_keeps r n bs false two (ap not lower);
      running = running_shown r n bs true one lower closes;
    }

pub returns-else-first : goal.returns-else-first
returns-else-first c =
    let r = c.args.running in
    let n = c.args.code in
    let bs = c.args.bytes.now in
    let one = c.filled-pair.ensures.one in
    let two = c.filled-pair.ensures.two in
    let higher = lower-is r n bs false one two c.lower-first.ensures c.if-first.false in
    let closes = c.change-running-else-first.ensures in
    record {
      shown = rw c.if-first.false (sym higher);
      one = buffer_keeps r n bs true one higher;
      two = buffer_shows r n bs false two (ap not higher) closes;
      running = running_shown r n bs false two (ap not higher) closes;
    }
