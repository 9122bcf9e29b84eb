-- `wordindex::put_entry` meets its contract. Assumes nothing.
use Rattle.wordindex.proofs.IndexSteps.{both_put}
use Rattle.wordindex.proofs.put_entry.Goals as goal

pub returns : goal.returns
returns c = both_put _ _ _ _ _ c.put_one.ensures c.put_one-2.ensures
