-- `word::word_syndromes` meets its contract: the syndromes of what is left of a word are its own. Assumes nothing.
use mathlib.Core.Path.{◌≡◌}
use lib.ListN.{length}
use borrow.Author.Rules.{rules}
use Rattle.reedsolomon.proofs.Repair.{word_bytes, shape_of, word_syndromes}
use Rattle.reedsolomon.proofs.word.word_syndromes.Goals as goal

pub returns : goal.returns
returns g c =
    let size : length c.args.bytes ≡ g.row.N = search rules in
    word_syndromes (shape_of g.row.N g.row.P c.requires) c.args.bytes size (word_bytes c.args.bytes (λ i. search rules)) c.remainder_of.result _ c.remainder_of.ensures c.syndromes.ensures
