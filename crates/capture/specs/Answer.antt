-- What the capture reader answers and leaves (document 02, request 6), where the look starts at bit p of the capture xs: the lent buffer 'has 91 bytes for every whole
-- 186 bytes of stream, takes the frames' bytes in order, and keeps its rest. The counts of frames and of stretches are returned.' The lent list is numbers, a start
-- and a length for each entry.
--   capture_sized, stretches_fit              the tests of refusals 1 and 14
--   capture_refusal, capture_answer           the number that a call is refused with, and the answer
--   filled, capture_buffer                   what the buffer holds then
--   SomeOrder, laid_out, Listed, ListAfter   and the list
-- Assumes nothing.
use Rattle.std.specs.Prelude.{◌≡◌, Bool, Result, Ok, Err, cond, ◌&&◌, List, [], ◌∷◌, ◌++◌, ℕ, zero, suc, ◌*◌, ◌/◌, eqb, leb, length, drop}
use Rattle.layout.specs.Lengths.{frame_bytes, frame_stream, longest_capture}
use Rattle.framing.specs.Frames.{frames_from, bytes_of}
use Rattle.framing.specs.Stretches.{Stretch, stretches_from}
use Rattle.refusals.specs.declared.Refusal.{Refusal}
use Rattle.refusals.specs.declared.Refusal.TheVariants.{Length, Stretches}
use Rattle.capture.specs.declared.Captured.{Captured}

-- the capture is no longer than it may be, and the lent buffer has n bytes, as many as stated
unfoldable pub capture_sized : List ℕ → ℕ → Bool
capture_sized xs n = leb (length xs) longest_capture && eqb n (frame_bytes * (length xs / frame_stream))

-- the lent list, of m numbers, has an entry for each stretch
unfoldable pub stretches_fit : List ℕ → ℕ → ℕ → Bool
stretches_fit xs p m = leb (length (stretches_from xs p)) (m / 2)

-- the number that a call is refused with: 1 where a length is wrong; else 14 for more stretches than the list has entries; 0 where nothing is refused
unfoldable pub capture_refusal : List ℕ → ℕ → ℕ → ℕ → ℕ
capture_refusal xs p n m = cond (capture_sized xs n) (cond (stretches_fit xs p m) 0 14) 1

-- the answer: how many frames are taken, and how many stretches there are
unfoldable pub capture_answer : List ℕ → ℕ → ℕ → ℕ → Result Captured Refusal
capture_answer xs p n m =
    cond (capture_sized xs n) (cond (stretches_fit xs p m) (Ok (record { frames = length (frames_from xs p); stretches = length (stretches_from xs p) })) (Err Stretches)) (Err Length)

-- a buffer whose first places hold `new`, and the rest of which is kept
abbrev pub filled : List ℕ → List ℕ → List ℕ
filled new old = new ++ drop (length new) old

-- the buffer after the call: the bytes of the frames taken, in order, and its rest; as it was where something is refused. The list has m numbers
unfoldable pub capture_buffer : List ℕ → ℕ → List ℕ → ℕ → List ℕ
capture_buffer xs p old m = cond (eqb (capture_refusal xs p (length old) m) 0) (filled (bytes_of xs (frames_from xs p)) old) old

-- stretches as they lie in the list: start, length, start, length
unfoldable pub laid_out : List Stretch → List ℕ
laid_out [] = []
laid_out (s ∷ ss) = s.start ∷ s.bits ∷ laid_out ss

-- the first list is the second in some order: each of the second stands somewhere in the first, and the others there are the rest
pub data SomeOrder : List Stretch → List Stretch → Type 0 where
  none : SomeOrder [] []
  next : {s : Stretch} {ss : List Stretch} (before after : List Stretch) → SomeOrder (before ++ after) ss → SomeOrder (before ++ s ∷ after) (s ∷ ss)

-- the list `old` holds these stretches then, 'their order is open', and its rest is kept
pub record Listed (stretches : List Stretch) (old new : List ℕ) : Type 0 where
  pub order : List Stretch
  pub some-order : SomeOrder order stretches
  pub is : new ≡ filled (laid_out order) old

-- the list after a call that is refused with a number: as it was, unless that is 0
unfoldable pub ListAfter : ℕ → List Stretch → List ℕ → List ℕ → Type 0
ListAfter zero stretches old new = Listed stretches old new
ListAfter (suc number) stretches old new = new ≡ old
