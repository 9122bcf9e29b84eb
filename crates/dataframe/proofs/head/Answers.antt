-- `dataframe::head` meets its contract. Assumes nothing.
use Rattle.dataframe.proofs.Framed.{head_built}
use Rattle.dataframe.proofs.head.Goals as goal

pub returns : goal.returns
returns c = head_built c.args.info c.args.number _ _ c.to_be_bytes.ensures c.parity2_with.ensures
