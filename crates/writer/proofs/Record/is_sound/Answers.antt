-- `writer::Record::is_sound` meets its contract: a case for each test.
-- Assumes nothing.
use mathlib.Core.Path.{◌≡◌, refl, sym, ◌∙◌}
use mathlib.Core.Bool.{true, false, not, ◌||◌}
use Rattle.writer.specs.Answers.{closes}
use Rattle.writer.proofs.Sound.{unsound, sound_rest}
use Rattle.writer.proofs.Record.is_sound.Goals as goal
use Rattle.writer.proofs.Record.is_sound.Goals.{then-not-self, else-not-self}

pub returns-then-self-lt1 : goal.returns-then-self-lt1
returns-then-self-lt1 c = unsound c.args.self c.then-self-lt1.either

pub returns-then-is_whole : goal.returns-then-is_whole
returns-then-is_whole c =
    let w = c.args.self in
    let whole : not w.closed || closes w.sectors ≡ c.if-not-self.value = elim c.if-not-self.branch [
      | then-not-self t ↦ rw t.if-not-self.true (sym (t.value-is ∙ t.if-not-self.true))
      | else-not-self t ↦ rw t.if-not-self.false (sym (t.value-is ∙ t.is_whole.ensures))
    ] in
    sound_rest w c.if-self-lt1.false c.if-self-gt4.false c.if-self-gt1.false c.if-self-gt-RUN_SECTORS.false true _ (whole ∙ c.if-is_whole.true)
    (sym c.is_in_range.ensures)

pub returns-else-is_whole : goal.returns-else-is_whole
returns-else-is_whole c =
    let w = c.args.self in
    let whole : not w.closed || closes w.sectors ≡ c.if-not-self.value = elim c.if-not-self.branch [
      | then-not-self t ↦ rw t.if-not-self.true (sym (t.value-is ∙ t.if-not-self.true))
      | else-not-self t ↦ rw t.if-not-self.false (sym (t.value-is ∙ t.is_whole.ensures))
    ] in
    c.if-is_whole.false
    ∙ sound_rest w c.if-self-lt1.false c.if-self-gt4.false c.if-self-gt1.false c.if-self-gt-RUN_SECTORS.false false _ (whole ∙ c.if-is_whole.false) refl
