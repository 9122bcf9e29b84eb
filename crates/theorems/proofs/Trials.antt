-- The starred trials of document 01's table, 1 to 12, as one proved list about the definitions.
-- Assumes nothing.
use Rattle.eccblock.proofs.Trials.{BlockTrials, block_trials}
use Rattle.levels.proofs.Trials.{Trials6to12, trials}

pub record StarredTrials : Type 0 where
  -- 1 to 3: IED; 4: EDC; 5: scrambling bytes
  pub trials_1_to_5 : BlockTrials
  -- 6: one word, two next States; 7 and 8: level and DSV; 9 to 12: the zero run across a join
  pub trials_6_to_12 : Trials6to12

pub starred : StarredTrials
starred = record { trials_1_to_5 = block_trials; trials_6_to_12 = trials }
