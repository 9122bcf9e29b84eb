-- The numbers of the papers: 1 to 9 are document 01's, 10 to 14 document 02's. Where several apply, a call answers the one that its definition gives.
-- Assumes nothing.
use Rattle.std.specs.Prelude.{ℕ, Result, Ok, Err}
use Rattle.refusals.specs.declared.Refusal.{Refusal}
use Rattle.refusals.specs.declared.Refusal.TheVariants.{Length, FirstNumber, Information, Ied, Id, Edc, RunEnded, RunUnfinished, BadRecord, Sequence, Mark, NotTried, OtherDsv, Stretches}

abbrev pub refusal_number : Refusal → ℕ
refusal_number Length = 1
refusal_number FirstNumber = 2
refusal_number Information = 3
refusal_number Ied = 4
refusal_number Id = 5
refusal_number Edc = 6
refusal_number RunEnded = 7
refusal_number RunUnfinished = 8
refusal_number BadRecord = 9
refusal_number Sequence = 10
refusal_number Mark = 11
refusal_number NotTried = 12
refusal_number OtherDsv = 13
refusal_number Stretches = 14

-- the number of an answer, 0 where nothing is refused
abbrev pub answer_number : {T : Type 0} → Result T Refusal → ℕ
answer_number (Ok _) = 0
answer_number (Err refusal) = refusal_number refusal
