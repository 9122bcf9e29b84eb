-- `annexg::CodeWords::read` meets its contract: the search from the first entry on is the search. Assumes nothing.
use mathlib.Core.Path.{ap, ◌∙◌}
use Rattle.annexg.specs.Read.{read_given}
use Rattle.annexg.proofs.Search.{from_first}
use Rattle.annexg.proofs.CodeWords.read.Goals as goal

pub returns : goal.returns
returns c = c.search_from.ensures ∙ from_first c.args.word _ ∙ ap (read_given c.args.word) c.both_zero.ensures
