-- `frames::Plan::of` meets its contract.
-- Assumes nothing.
use mathlib.Core.Path.{refl}
use borrow.Author.Tests.{lt-ltb}
use Rattle.frames.proofs.Plan.of.Goals as goal

pub returns-then-byte-lt88 : goal.returns-then-byte-lt88
returns-then-byte-lt88 c = rw (lt-ltb _ _ c.if-byte-lt88.true) refl
