-- `edc::EdcTable::edc` meets its contract. Assumes nothing.
use Rattle.edc.specs.Edc.{four_bytes, edc_of}
use Rattle.edc.proofs.EdcTable.edc.Goals as goal

pub returns : goal.returns
unfolding four_bytes edc_of
returns c = cc
