-- `dataframe::sector_number` meets its contract. Assumes nothing.
use native.Mathlib.Nat.{zero-add}
use Rattle.dataframe.specs.Checks.{number_of}
use Rattle.dataframe.proofs.sector_number.Goals as goal

pub returns : goal.returns
unfolding number_of
returns c = simp zero-add at c.from_be_bytes.ensures
