-- `frames::end::change` meets its contract: the DSV is not beyond; or the other code makes the absolute DSV smaller, or not.
-- Assumes nothing.
use mathlib.Core.Path.{sym, ◌∙◌}
use Rattle.frames.proofs.Ended.{closes_near, closes-same, closes_new}
use Rattle.frames.proofs.end.change.Goals as goal

pub returns-then-not-is_beyond : goal.returns-then-not-is_beyond
returns-then-not-is_beyond c = closes_near (sym c.is_beyond.ensures ∙ c.if-not-is_beyond.true)

pub returns-then-absolute : goal.returns-then-absolute
returns-then-absolute c =
    closes_new
    (record {
      state = c.requires.state;
      code = c.requires.code;
      out = sym c.is_beyond.ensures ∙ c.if-not-is_beyond.false;
      h_is = c.other_code-first.ensures;
      o_is = c.recount-other.ensures;
    })
    (rw (← c.absolute.ensures, ← c.absolute-2.ensures) c.if-absolute.true) c.put_half.ensures

pub returns : goal.returns
returns c =
    closes-same
    (record {
      state = c.requires.state;
      code = c.requires.code;
      out = sym c.is_beyond.ensures ∙ c.if-not-is_beyond.false;
      h_is = c.other_code-first.ensures;
      o_is = c.recount-other.ensures;
    })
    (rw (← c.absolute.ensures, ← c.absolute-2.ensures) c.if-absolute.false)
