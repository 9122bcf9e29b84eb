-- What the four readers of the C boundary answer with: the documents' number. And what their reports hold afterwards, by cases on the answers of the crates' own
-- functions.
-- A report of another length than stated gets refusal 1, and everything is left as it was.
-- Assumes nothing.
use Rattle.std.specs.Prelude.{Bool, cond, List, [], ◌∷◌, ℕ, replicate, ◌++◌, Option, None, Some, Result, Ok, Err}
use Rattle.refusals.specs.declared.Refusal.{Refusal}
use Rattle.reader.specs.declared.SectorTally.{SectorTally}
use Rattle.repairer.specs.declared.Repair.{Repair}
use Rattle.repairer.specs.declared.BlockRefusal.{BlockRefusal}
use Rattle.blockreader.specs.declared.BlockRead.{BlockRead}
use Rattle.capture.specs.declared.Captured.{Captured}

-- how many numbers a report has
abbrev pub sector_report_size : ℕ
sector_report_size = 2

abbrev pub repair_report_size : ℕ
repair_report_size = 6

abbrev pub block_report_size : ℕ
block_report_size = 8

abbrev pub capture_report_size : ℕ
capture_report_size = 2

-- the report `old` after an answer: the unknown words and the SYNC places without a code due there
abbrev pub sector_report : Result SectorTally Refusal → List ℕ → List ℕ
sector_report (Ok tally) old = tally.unknown ∷ tally.sync ∷ []
sector_report (Err _) old = old

-- the report of a refusal: `zeros` and then the frame that fails, or as it was
abbrev pub frame_report : List ℕ → Option ℕ → List ℕ → List ℕ
frame_report zeros (Some frame) old = zeros ++ frame ∷ []
frame_report zeros None old = old

-- the first number, rows corrected and uncorrectable, columns corrected and uncorrectable; or the frame refused, at the end
abbrev pub repair_report : Result Repair BlockRefusal → List ℕ → List ℕ
repair_report (Ok r) old =
    r.first ∷ r.tallies.rows.corrected ∷ r.tallies.rows.uncorrectable ∷ r.tallies.columns.corrected ∷ r.tallies.columns.uncorrectable ∷ 0 ∷ []
repair_report (Err refused) old = frame_report (replicate 5 0) refused.frame old

-- the same, with the sums of the two tallies of the sectors before the frame
abbrev pub block_report : Result BlockRead BlockRefusal → List ℕ → List ℕ
block_report (Ok r) old =
    r.first ∷ r.tallies.rows.corrected ∷ r.tallies.rows.uncorrectable ∷ r.tallies.columns.corrected ∷ r.tallies.columns.uncorrectable ∷ r.unknown ∷ r.sync ∷ 0 ∷ []
block_report (Err refused) old = frame_report (replicate 7 0) refused.frame old

-- the frames and the stretches of a capture
abbrev pub capture_report : Result Captured Refusal → List ℕ → List ℕ
capture_report (Ok captured) old = captured.frames ∷ captured.stretches ∷ []
capture_report (Err _) old = old

-- the documents' number n of the call where the report has its length, or else refusal 1
abbrev pub number_or1 : Bool → ℕ → ℕ
number_or1 ok n = cond ok n 1
