-- `writer::Record::closes` meets its contract: a case for each test.
-- Assumes nothing.
use mathlib.Core.Path.{refl, sym}
use mathlib.Core.Bool.{true, false}
use Rattle.layout.specs.Lengths.{closing_size}
use Rattle.writer.proofs.Sound.{closing_by}
use Rattle.writer.proofs.Record.closes.Goals as goal

pub returns-then-not-is_sound : goal.returns-then-not-is_sound
returns-then-not-is_sound c =
    closing_by c.args.self closing_size true false _ _ refl (sym (c.if-not-is_sound.ensures)) refl refl

pub returns-then-self : goal.returns-then-self
returns-then-self c =
    closing_by c.args.self closing_size true true true _ refl (sym (c.if-not-is_sound.ensures)) c.if-self.true refl

pub returns-then-not-is_whole : goal.returns-then-not-is_whole
returns-then-not-is_whole c =
    closing_by c.args.self closing_size true true false false refl (sym (c.if-not-is_sound.ensures)) c.if-self.false
    (sym (c.if-not-is_whole.ensures))

pub returns : goal.returns
returns c =
    closing_by c.args.self closing_size true true false true refl (sym (c.if-not-is_sound.ensures)) c.if-self.false
    (sym (c.if-not-is_whole.ensures))
