-- What a call of the block repairer answers and leaves (document 01, 'Reading a word, and the repair' and 'Refused because of the input'; document 02, request 2).
-- Assumes nothing.
use Rattle.std.specs.Prelude.{Bool, cond, ◌&&◌, List, ℕ, zero, suc, eqb, leb, length, Option, None, Some, Result, Ok, Err, is_ok, ⊤}
use Rattle.refusals.specs.declared.Refusal.{Refusal}
use Rattle.refusals.specs.declared.Refusal.TheVariants.{Length, Ied, Id, Edc, Mark}
use Rattle.refusals.specs.Refusal.{refusal_number}
use Rattle.std.specs.List.{list_all}
use Rattle.dataframe.specs.Checks.{info_of, number_of, ied_passes, id_passes, edc_passes, main_of_block, frame_refusal}
use Rattle.layout.specs.Rows.{frame_of}
use Rattle.layout.specs.Lengths.{main_size, block_size, sector_count}
use Rattle.repairer.specs.Repair.{repaired, tallies_of}
use Rattle.repairer.specs.declared.Tallies.{Tallies}
use Rattle.repairer.specs.declared.Repair.{Repair}
use Rattle.repairer.specs.declared.BlockRefusal.{BlockRefusal}

-- the lowest number that applies to frame k of a block, or 0: checks 4, 5 and 6, where 5 goes by frame 0's number and Information byte
unfoldable pub frame_fault : List ℕ → ℕ → ℕ
frame_fault ys k = frame_refusal (number_of (frame_of ys 0)) (info_of (frame_of ys 0)) k (frame_of ys k)

-- the answer of checks that all pass
abbrev pub passed : Result ⊤ Refusal
passed = Ok tt

-- what the checks of frame k answer
unfoldable pub frame_answer : List ℕ → ℕ → Result ⊤ Refusal
frame_answer ys k =
    cond (ied_passes (frame_of ys k)) (cond (id_passes (number_of (frame_of ys 0)) (info_of (frame_of ys 0)) k (frame_of ys k)) (cond (edc_passes (frame_of ys k)) passed (Err Edc)) (Err Id)) (Err Ied)

-- a refusal of the block as a whole, and one of frame k
abbrev pub of_block : Refusal → BlockRefusal
of_block r = record { refusal = r; frame = None }

abbrev pub of_frame : ℕ → Refusal → BlockRefusal
of_frame k r = record { refusal = r; frame = Some k }

-- the answer for frame k, whose checks answer the first argument, where a is the answer for the frames after it
abbrev pub in_order : Result ⊤ Refusal → ℕ → Result Repair BlockRefusal → Result Repair BlockRefusal
in_order (Ok _) k a = a
in_order (Err r) k a = Err (of_frame k r)

-- n frames from frame k on, in ascending order: the first that fails is refused; where all pass, the answer is a
unfoldable pub judged : List ℕ → ℕ → ℕ → Result Repair BlockRefusal → Result Repair BlockRefusal
judged ys k zero a = a
judged ys k (suc n) a = in_order (frame_answer ys k) k (judged ys (suc k) n a)

-- the lengths that the block buffer, the marks and the main data buffer have to have
unfoldable pub lengths_fit : List ℕ → List ℕ → ℕ → Bool
lengths_fit xs ms n = eqb (length xs) block_size && (eqb (length ms) block_size && eqb n main_size)

-- each mark is 0 or 1 (document 02, request 2)
unfoldable pub marks_fit : List ℕ → Bool
marks_fit ms = list_all (λ m. leb m 1) ms

-- nothing is refused before the repair: 1 is for a length, and 11, which comes after it, for a mark
unfoldable pub input_fits : List ℕ → List ℕ → ℕ → Bool
input_fits xs ms n = lengths_fit xs ms n && marks_fit ms

-- what a block ys after both repairs gives, where no frame is refused
abbrev pub repair_of : List ℕ → Tallies → Repair
repair_of ys ts = record { first = number_of (frame_of ys 0); tallies = ts }

-- the answer to a block buffer that holds xs, the marks ms and a main data buffer of n bytes
unfoldable pub repair_answer : List ℕ → List ℕ → ℕ → Result Repair BlockRefusal
repair_answer xs ms n =
    cond (lengths_fit xs ms n)
    (cond (marks_fit ms) (judged (repaired xs ms) 0 sector_count (Ok (repair_of (repaired xs ms) (tallies_of xs ms)))) (Err (of_block Mark))) (Err (of_block Length))

-- the block buffer after the call: the block after both repairs, also where a frame fails; as it was where a length or a mark is wrong
unfoldable pub block_after : List ℕ → List ℕ → ℕ → List ℕ
block_after xs ms n = cond (input_fits xs ms n) (repaired xs ms) xs

-- the main data buffer after the call: the main data where they are handed out, else as it was
unfoldable pub main_after : List ℕ → List ℕ → List ℕ → List ℕ
main_after xs ms old = cond (is_ok (repair_answer xs ms (length old))) (main_of_block (repaired xs ms)) old

-- ---- document 01's numbers, and 11 of document 02

-- the first of n frames from frame k on that fails, in ascending order; none where all pass
unfoldable pub first_failing : List ℕ → ℕ → ℕ → Option ℕ
first_failing ys k zero = None
first_failing ys k (suc n) = cond (eqb (frame_fault ys k) 0) (first_failing ys (suc k) n) (Some k)

-- the frame that a call is refused for: the first that fails of the block after both repairs. None where all pass, and none where a length or a mark is wrong
unfoldable pub refused_frame : List ℕ → List ℕ → ℕ → Option ℕ
refused_frame xs ms n = cond (input_fits xs ms n) (first_failing (repaired xs ms) 0 sector_count) None

-- the number of a frame, the lowest of 4, 5 and 6 that applies in it, and 0 of none
abbrev pub fault_at : List ℕ → Option ℕ → ℕ
fault_at ys None = 0
fault_at ys (Some k) = frame_fault ys k

-- the number that a call is refused with: 1 where a length is wrong; else 11 where a mark is; else that of the frame refused; 0 where all pass
unfoldable pub repair_refusal : List ℕ → List ℕ → ℕ → ℕ
repair_refusal xs ms n = cond (lengths_fit xs ms n) (cond (marks_fit ms) (fault_at (repaired xs ms) (refused_frame xs ms n)) 11) 1

-- the number of an answer, 0 where nothing is refused, and the frame that it is refused for
abbrev pub block_answer_number : {T : Type 0} → Result T BlockRefusal → ℕ
block_answer_number (Ok _) = 0
block_answer_number (Err e) = refusal_number e.refusal

abbrev pub block_answer_frame : {T : Type 0} → Result T BlockRefusal → Option ℕ
block_answer_frame (Ok _) = None
block_answer_frame (Err e) = e.frame
