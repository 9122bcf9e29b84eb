-- `dataframe::data_frame` meets its contract: head, main data and EDC, put in one after the other. Assumes nothing.
use mathlib.Core.Path.{refl}
use borrow.Author.Rules.{rules}
use Rattle.dataframe.proofs.Framed.{data_built}
use Rattle.dataframe.proofs.data_frame.Goals as goal

pub returns : goal.returns
returns c =
    data_built _ _ _ (search rules) _ _ _ _ _ _ refl c.head.ensures c.put.ensures c.put-2.ensures c.edc-e.ensures
    c.put-3.ensures
