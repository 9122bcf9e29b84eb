-- `wordindex::word_index` meets its contract. Assumes nothing.
use mathlib.Core.Path.{ap, ◌∙◌}
use Rattle.wordindex.specs.Inner.{put_all, word_index}
use Rattle.wordindex.proofs.word_index.Goals as goal

pub returns : goal.returns
unfolding word_index
returns c = c.put_table-2.ensures ∙ ap (put_all 1) c.put_table.ensures
