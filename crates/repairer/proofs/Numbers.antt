-- What the checks of a frame answer, by its number (answer_is); the number of the block repairer's answer, and the frame that it carries; and first_failing from
-- outside its recursion.
-- Assumes nothing.
use mathlib.Core.Path.{◌≡◌, refl, sym, ap, ◌∙◌}
use mathlib.Core.Bool.{Bool, true, false, cond, ◌&&◌}
use mathlib.Core.List.{List, [], ◌∷◌}
use mathlib.Core.Logic.{◌≢◌, dite}
use Prim.Native.Nat.{ℕ, zero, suc, ◌+◌, ◌<◌, ◌≤◌}
use native.Mathlib.Decide.{ℕ_discrete}
use native.Mathlib.Omega.{arith}
use borrow.Author.Tests.{eqb-true, eqb-false}
use lib.Dec.{eqb}
use lib.ListN.{get_or}
use Rattle.std.specs.Prelude.{None, Some, Result, Ok, Err, ⊤}
use Rattle.refusals.specs.declared.Refusal.{Refusal}
use Rattle.refusals.specs.declared.Refusal.TheVariants.{Length, FirstNumber, Information, Ied, Id, Edc, RunEnded, RunUnfinished, BadRecord, Sequence, Mark, NotTried, OtherDsv, Stretches}
use Rattle.refusals.specs.Refusal.{refusal_number, answer_number}
use Rattle.dataframe.specs.Checks.{info_of, number_of, ied_passes, id_passes, edc_passes, frame_refusal}
use Rattle.layout.specs.Rows.{frame_of}
use Rattle.repairer.specs.Repair.{repaired, tallies_of}
use Rattle.repairer.specs.Answer.{frame_fault, passed, frame_answer, of_block, in_order, judged, lengths_fit, marks_fit, input_fits, repair_of, repair_answer, first_failing, refused_frame, fault_at, repair_refusal, block_answer_number, block_answer_frame}
use Rattle.repairer.specs.declared.Repair.{Repair}
use Rattle.repairer.specs.declared.BlockRefusal.{BlockRefusal}

-- ---- a refusal goes by its number

-- each answer by its number
abbrev by_number : List (Result ⊤ Refusal)
by_number = passed ∷ Err Length ∷ Err FirstNumber ∷ Err Information ∷ Err Ied ∷ Err Id ∷ Err Edc ∷ Err RunEnded ∷ Err RunUnfinished ∷ Err BadRecord ∷ Err Sequence ∷ Err Mark ∷ Err NotTried ∷ Err OtherDsv ∷ Err Stretches ∷ []

numbered : (a : Result ⊤ Refusal) → get_or by_number (answer_number a) passed ≡ a
numbered (Ok tt) = refl
numbered (Err Length) = refl
numbered (Err FirstNumber) = refl
numbered (Err Information) = refl
numbered (Err Ied) = refl
numbered (Err Id) = refl
numbered (Err Edc) = refl
numbered (Err RunEnded) = refl
numbered (Err RunUnfinished) = refl
numbered (Err BadRecord) = refl
numbered (Err Sequence) = refl
numbered (Err Mark) = refl
numbered (Err NotTried) = refl
numbered (Err OtherDsv) = refl
numbered (Err Stretches) = refl

-- ---- the checks of a frame

-- the number of what the checks answer is the frame's
pub frame_number : (ys : List ℕ) (k : ℕ) → answer_number (frame_answer ys k) ≡ frame_fault ys k
unfolding frame_fault frame_answer frame_refusal
frame_number ys k = go (ied_passes (frame_of ys k)) (id_passes (number_of (frame_of ys 0)) (info_of (frame_of ys 0)) k (frame_of ys k)) (edc_passes (frame_of ys k))
  where
    go : (a b c : Bool) → answer_number (cond a (cond b (cond c passed (Err Edc)) (Err Id)) (Err Ied)) ≡ cond a (cond b (cond c 0 6) 5) 4
    go true true true = refl
    go true true false = refl
    go true false c = refl
    go false b c = refl

-- and what is answered with the frame's number is what they answer
pub answer_is : (ys : List ℕ) (k : ℕ) (a : Result ⊤ Refusal) → answer_number a ≡ frame_fault ys k → a ≡ frame_answer ys k
answer_is ys k a e =
    sym (numbered a) ∙ ap (λ (n : ℕ). get_or by_number n passed) (e ∙ sym (frame_number ys k)) ∙ numbered (frame_answer ys k)

-- no refusal has the number 0
refused : (r : Refusal) → eqb (refusal_number r) 0 ≡ false
refused Length = refl
refused FirstNumber = refl
refused Information = refl
refused Ied = refl
refused Id = refl
refused Edc = refl
refused RunEnded = refl
refused RunUnfinished = refl
refused BadRecord = refl
refused Sequence = refl
refused Mark = refl
refused NotTried = refl
refused OtherDsv = refl
refused Stretches = refl

-- ---- the first frame that fails: it fails, and the frames before it pass, all where there is none

module _ (ys : List ℕ) where
  pub first_failing_fails : (k n j : ℕ) → first_failing ys k n ≡ Some j → frame_fault ys j ≢ 0
  unfolding first_failing
  first_failing_fails k zero j h = cc
  first_failing_fails k (suc n) j h = go (eqb (frame_fault ys k) 0) refl (first_failing_fails (suc k) n j) h
    where
      go :
          (b : Bool) → eqb (frame_fault ys k) 0 ≡ b → (first_failing ys (suc k) n ≡ Some j → frame_fault ys j ≢ 0)
          → cond b (first_failing ys (suc k) n) (Some k) ≡ Some j → frame_fault ys j ≢ 0
      go true q later l = later l
      go false q later l = let e : k ≡ j = cc in rw (sym e) (eqb-false (frame_fault ys k) 0 q)

  pub before_first_failing_passes : (k n i j : ℕ) → first_failing ys k n ≡ Some i → k ≤ j → j < i → frame_fault ys j ≡ 0
  unfolding first_failing
  before_first_failing_passes k zero i j f h l = cc
  before_first_failing_passes k (suc n) i j f h l = go (eqb (frame_fault ys k) 0) refl (before_first_failing_passes (suc k) n i j) f
    where
      go :
          (b : Bool) → eqb (frame_fault ys k) 0 ≡ b → (first_failing ys (suc k) n ≡ Some i → suc k ≤ j → j < i → frame_fault ys j ≡ 0)
          → cond b (first_failing ys (suc k) n) (Some k) ≡ Some i → frame_fault ys j ≡ 0
      go true q later m = dite (ℕ_discrete j k) (λ e. ap (frame_fault ys) e ∙ eqb-true (frame_fault ys k) 0 q) (λ e. later m (omega (arith, h, e)) l)
      go false q later m = let e : k ≡ i = cc in absurd (omega (arith, h, l, e))

  pub none_failing_passes : (k n j : ℕ) → first_failing ys k n ≡ None → k ≤ j → j < k + n → frame_fault ys j ≡ 0
  unfolding first_failing
  none_failing_passes k zero j f h l = absurd (omega arith)
  none_failing_passes k (suc n) j f h l = go (eqb (frame_fault ys k) 0) refl (none_failing_passes (suc k) n j) f
    where
      go :
          (b : Bool) → eqb (frame_fault ys k) 0 ≡ b → (first_failing ys (suc k) n ≡ None → suc k ≤ j → j < suc k + n → frame_fault ys j ≡ 0)
          → cond b (first_failing ys (suc k) n) (Some k) ≡ None → frame_fault ys j ≡ 0
      go true q later m = dite (ℕ_discrete j k) (λ e. ap (frame_fault ys) e ∙ eqb-true (frame_fault ys k) 0 q) (λ e. later m (omega (arith, h, e)) (omega (arith, l)))
      go false q later m = cc

-- ---- number and frame of the answer

-- the judgement of the n frames from frame k on
module _ (ys : List ℕ) (r : Repair) where
  judged_frame : (k n : ℕ) → block_answer_frame (judged ys k n (Ok r)) ≡ first_failing ys k n
  unfolding judged first_failing
  judged_frame k zero = refl
  judged_frame k (suc n) = go (frame_answer ys k) (frame_number ys k) (judged_frame (suc k) n)
    where
      go :
          (a : Result ⊤ Refusal) → answer_number a ≡ frame_fault ys k → block_answer_frame (judged ys (suc k) n (Ok r)) ≡ first_failing ys (suc k) n
          → block_answer_frame (in_order a k (judged ys (suc k) n (Ok r))) ≡ cond (eqb (frame_fault ys k) 0) (first_failing ys (suc k) n) (Some k)
      go (Ok u) e h = rw (sym e) h
      go (Err x) e h = rw (sym e, refused x)

  judged_number : (k n : ℕ) → block_answer_number (judged ys k n (Ok r)) ≡ fault_at ys (first_failing ys k n)
  unfolding judged first_failing
  judged_number k zero = refl
  judged_number k (suc n) = go (frame_answer ys k) (frame_number ys k) (judged_number (suc k) n)
    where
      go :
          (a : Result ⊤ Refusal) → answer_number a ≡ frame_fault ys k → block_answer_number (judged ys (suc k) n (Ok r)) ≡ fault_at ys (first_failing ys (suc k) n)
          → block_answer_number (in_order a k (judged ys (suc k) n (Ok r))) ≡ fault_at ys (cond (eqb (frame_fault ys k) 0) (first_failing ys (suc k) n) (Some k))
      go (Ok u) e h = rw (sym e) h
      go (Err x) e h = e ∙ sym (ap (λ (t : Bool). fault_at ys (cond t (first_failing ys (suc k) n) (Some k))) (sym (ap (λ (m : ℕ). eqb m 0) e) ∙ refused x))

module _ (xs ms : List ℕ) (n : ℕ) where
  abbrev whole : Result Repair BlockRefusal
  whole = Ok (repair_of (repaired xs ms) (tallies_of xs ms))

  pub repair_frame_lem : block_answer_frame (repair_answer xs ms n) ≡ refused_frame xs ms n
  unfolding repair_answer refused_frame input_fits
  repair_frame_lem = go (lengths_fit xs ms n) (marks_fit ms)
    where
      go :
          (b c : Bool)
          → block_answer_frame (cond b (cond c (judged (repaired xs ms) 0 16 whole) (Err (of_block Mark))) (Err (of_block Length))) ≡ cond (b && c) (first_failing (repaired xs ms) 0 16) None
      go true true = judged_frame (repaired xs ms) _ 0 16
      go true false = refl
      go false c = refl

  pub repair_number_lem : block_answer_number (repair_answer xs ms n) ≡ repair_refusal xs ms n
  unfolding repair_answer repair_refusal refused_frame input_fits
  repair_number_lem = go (lengths_fit xs ms n) (marks_fit ms)
    where
      go :
          (b c : Bool)
          → block_answer_number (cond b (cond c (judged (repaired xs ms) 0 16 whole) (Err (of_block Mark))) (Err (of_block Length)))
          ≡ cond b (cond c (fault_at (repaired xs ms) (cond (b && c) (first_failing (repaired xs ms) 0 16) None)) 11) 1
      go true true = judged_number (repaired xs ms) _ 0 16
      go true false = refl
      go false c = refl

-- a frame is refused with 4, 5 or 6
pub fault_small : (ys : List ℕ) (k : ℕ) → frame_fault ys k ≤ 6
unfolding frame_fault frame_refusal
fault_small ys k = go (ied_passes (frame_of ys k)) (id_passes (number_of (frame_of ys 0)) (info_of (frame_of ys 0)) k (frame_of ys k)) (edc_passes (frame_of ys k))
  where
    go : (a b c : Bool) → cond a (cond b (cond c 0 6) 5) 4 ≤ 6
    go true true true = omega arith
    go true true false = omega arith
    go true false c = omega arith
    go false b c = omega arith
