-- `laying::entry_for` meets its contract: a case of `entry_for` for each of its three lookups.
-- Assumes nothing.
use borrow.Author.Tests.{lt-ltb, le-ltb}
use Rattle.laying.proofs.entry_for.Goals as goal

pub returns-then-not-choice : goal.returns-then-not-choice
returns-then-not-choice c = rw (c.if-not-choice.true) c.entry.ensures

pub returns-then-byte-lt88 : goal.returns-then-byte-lt88
returns-then-byte-lt88 c =
    let choice = c.if-not-choice.false in
    rw (choice, lt-ltb _ _ c.if-byte-lt88.true) c.entry-then-byte-lt88.ensures

pub returns-else-byte-lt88 : goal.returns-else-byte-lt88
returns-else-byte-lt88 c =
    let choice = c.if-not-choice.false in
    rw (choice, le-ltb _ _ c.if-byte-lt88.false) c.entry-else-byte-lt88.ensures
