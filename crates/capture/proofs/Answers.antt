-- The tests of the capture reader as the code makes them (sized_by, sized_capture, sized_buffer, too_many, few_enough), and what it answers by them (Answered): a
-- length refused (length_refused), too many stretches (stretches_refused), nothing refused (read_through).
-- Assumes nothing.
use mathlib.Core.Path.{◌≡◌, refl, sym, ◌∙◌}
use mathlib.Core.Bool.{Bool, true, false, cond, ◌&&◌}
use mathlib.Core.List.{List, [], ◌∷◌}
use Prim.Native.Nat.{ℕ, ◌*◌, ◌/◌, ◌<◌, ◌≤◌}
use native.Mathlib.Omega.{arith}
use borrow.Author.Tests.{le-leb, lt-leb}
use lib.Dec.{eqb, leb, eqb→eq, leb→le}
use lib.ListN.{length}
use Rattle.lists.proofs.Test.{and_left, and_right, truth_of}
use Rattle.layout.specs.Lengths.{frame_bytes, frame_stream, longest_capture}
use Rattle.framing.specs.Frames.{frames_from, bytes_of}
use Rattle.framing.specs.Stretches.{Stretch, stretches_from}
use Rattle.std.specs.Prelude.{Result, Ok, Err}
use Rattle.refusals.specs.Refusal.{answer_number}
use Rattle.refusals.specs.declared.Refusal.{Refusal}
use Rattle.refusals.specs.declared.Refusal.TheVariants.{Length, Stretches}
use Rattle.capture.specs.declared.Captured.{Captured}
use Rattle.capture.specs.Answer.{capture_sized, stretches_fit, capture_refusal, capture_answer, filled, capture_buffer, SomeOrder, none, next, laid_out, ListAfter}

-- the order in which they are is some order
same-order : (ss : List Stretch) → SomeOrder ss ss
same-order [] = none
same-order (s ∷ ss) = next [] ss (same-order ss)

-- ---- the tests, as the code makes them

module _ (xs : List ℕ) (n : ℕ) where
  -- of the lengths
  pub sized_by : (r b : Bool) → r ≡ (leb (length xs) longest_capture && eqb n (frame_bytes * (length xs / frame_stream))) → r ≡ b → capture_sized xs n ≡ b
  unfolding capture_sized
  sized_by r b e f = sym e ∙ f

  pub sized_capture : capture_sized xs n ≡ true → length xs ≤ longest_capture
  unfolding capture_sized
  sized_capture e = leb→le (length xs) longest_capture (and_left (leb (length xs) longest_capture) (eqb n (frame_bytes * (length xs / frame_stream))) (truth_of _ e))

  pub sized_buffer : capture_sized xs n ≡ true → n ≡ frame_bytes * (length xs / frame_stream)
  unfolding capture_sized
  sized_buffer e =
      eqb→eq n (frame_bytes * (length xs / frame_stream)) (and_right (leb (length xs) longest_capture) (eqb n (frame_bytes * (length xs / frame_stream))) (truth_of _ e))

-- of the list of m numbers, where k stretches were counted
module _ (xs : List ℕ) (p m k : ℕ) (counted : k ≡ length (stretches_from xs p)) where
  pub too_many : m / 2 < k → stretches_fit xs p m ≡ false
  unfolding stretches_fit
  too_many h = lt-leb (length (stretches_from xs p)) (m / 2) (omega (arith, counted))

  pub few_enough : k ≤ m / 2 → stretches_fit xs p m ≡ true
  unfolding stretches_fit
  few_enough h = le-leb (length (stretches_from xs p)) (m / 2) (omega (arith, counted))

-- what a call answers and leaves, as its contract has it: four clauses
pub record Answered (xs : List ℕ) (p : ℕ) (out list : List ℕ) (r : Result Captured Refusal) (out' list' : List ℕ) : Type 0 where
  pub answer : r ≡ capture_answer xs p (length out) (length list)
  pub number : answer_number r ≡ capture_refusal xs p (length out) (length list)
  pub buffer : out' ≡ capture_buffer xs p out (length list)
  pub listed : ListAfter (capture_refusal xs p (length out) (length list)) (stretches_from xs p) list list'

module _ (xs : List ℕ) (p : ℕ) (out list : List ℕ) where
  -- the answer, the number and the buffer, by the two tests
  abbrev answer_by : Bool → Bool → Result Captured Refusal
  answer_by sized fits = cond sized (cond fits (Ok (record { frames = length (frames_from xs p); stretches = length (stretches_from xs p) })) (Err Stretches)) (Err Length)

  abbrev number_by : Bool → Bool → ℕ
  number_by sized fits = cond sized (cond fits 0 14) 1

  abbrev buffer_by : Bool → Bool → List ℕ
  buffer_by sized fits = cond (eqb (number_by sized fits) 0) (filled (bytes_of xs (frames_from xs p)) out) out

  abbrev Tested : Bool → Bool → Result Captured Refusal → List ℕ → List ℕ → Type 0
  Tested sized fits r out' list' =
      (r ≡ answer_by sized fits) × (answer_number r ≡ number_by sized fits) × (out' ≡ buffer_by sized fits) × ListAfter (number_by sized fits) (stretches_from xs p) list list'

  by_tests :
      (sized fits : Bool) → capture_sized xs (length out) ≡ sized → stretches_fit xs p (length list) ≡ fits
      → {r : Result Captured Refusal} {out' list' : List ℕ} → Tested sized fits r out' list' → Answered xs p out list r out' list'
  unfolding capture_refusal capture_answer capture_buffer
  by_tests sized fits e f t = record {
    answer = rw (e, f) t.0;
    number = rw (e, f) t.1;
    buffer = rw (e, f) t.2;
    listed = rw (e, f) t.3;
  }

  pub length_refused : capture_sized xs (length out) ≡ false → Answered xs p out list (Err Length) out list
  unfolding ListAfter
  length_refused e = by_tests false (stretches_fit xs p (length list)) e refl (refl, refl, refl, refl)

  pub stretches_refused : capture_sized xs (length out) ≡ true → stretches_fit xs p (length list) ≡ false → Answered xs p out list (Err Stretches) out list
  unfolding ListAfter
  stretches_refused e f = by_tests true false e f (refl, refl, refl, refl)

  pub read_through :
      capture_sized xs (length out) ≡ true → stretches_fit xs p (length list) ≡ true → (captured : Captured) (out' list' : List ℕ)
      → captured.frames ≡ length (frames_from xs p) → captured.stretches ≡ length (stretches_from xs p)
      → out' ≡ filled (bytes_of xs (frames_from xs p)) out → list' ≡ filled (laid_out (stretches_from xs p)) list
      → Answered xs p out list (Ok captured) out' list'
  unfolding ListAfter
  read_through e f captured out' list' nf ns o l =
      by_tests true true e f (rw (nf, ns) refl, refl, o, record { order = stretches_from xs p; some-order = same-order (stretches_from xs p); is = l })
