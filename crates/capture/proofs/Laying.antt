-- The lent buffer and the lent list, filled from the front by pieces: a piece that is put at its place (piece_laid, with piece-room before it), a gap's numbers (gap_laid, with
-- gap-room before it), the last gap's (gaps_laid, last-room). How many bytes and numbers there are to lay (bytes-length, laid_out_length).
-- Assumes nothing.
use mathlib.Core.Path.{◌≡◌, refl, sym, ap, subst, ◌∙◌}
use mathlib.Core.List.{List, [], ◌∷◌, ◌++◌, append-nil, append_assoc}
use Prim.Native.Nat.{ℕ, ◌+◌, ◌*◌, ◌≤◌}
use native.Mathlib.Omega.{arith}
use lib.ListN.{length, take, drop, length-append}
use lib.Seq.{sets, sets-eq}
use Rattle.lists.proofs.Fill.{length-tabulate}
use Rattle.lists.proofs.Front.{Laid, laid_more, laid_length, laid_left, laid_all}
use Rattle.layout.specs.Lengths.{frame_bytes}
use Rattle.framing.specs.Frames.{frame_byte, bytes_of_frame, bytes_of}
use Rattle.framing.specs.Stretches.{Stretch}
use Rattle.capture.specs.Answer.{laid_out, filled}

-- ---- a piece v

module _ {all old new : List ℕ} {n : ℕ} (v rest : List ℕ) (l : Laid all old new (v ++ rest) n) where
  pub piece-room : n + length v ≤ length new
  piece-room = omega (arith, laid_left l, laid_length l, l.room, length-append v rest)

  pub piece_laid : (new' : List ℕ) (m : ℕ) → new' ≡ sets new n v → m ≡ n + length v → Laid all old new' rest m
  piece_laid new' m e em =
      let is : take n new ++ (v ++ drop (n + length v) new) ≡ new' = sym (e ∙ sets-eq v new n piece-room ∙ append_assoc (take n new) v (drop (n + length v) new)) in
      subst (Laid all old new' rest) (sym em) (subst (λ (x : List ℕ). Laid all old x rest (n + length v)) is (laid_more v l))

-- ---- the bytes of frames

pub frame_length : (xs : List ℕ) (p : ℕ) → length (bytes_of_frame xs p) ≡ frame_bytes
frame_length xs p = length-tabulate (frame_byte xs p) frame_bytes

pub bytes-length : (xs ps : List ℕ) → length (bytes_of xs ps) ≡ frame_bytes * length ps
unfolding bytes_of
bytes-length xs [] = refl
bytes-length xs (p ∷ ps) = length-append (bytes_of_frame xs p) (bytes_of xs ps) ∙ omega (arith, frame_length xs p, bytes-length xs ps)

-- ---- the numbers of stretches

laid_out_append : (ss ts : List Stretch) → laid_out (ss ++ ts) ≡ laid_out ss ++ laid_out ts
unfolding laid_out
laid_out_append [] ts = refl
laid_out_append (s ∷ ss) ts = ap (λ (x : List ℕ). s.start ∷ s.bits ∷ x) (laid_out_append ss ts)

pub laid_out_length : (ss : List Stretch) → length (laid_out ss) ≡ 2 * length ss
unfolding laid_out
laid_out_length [] = refl
laid_out_length (s ∷ ss) = omega (arith, laid_out_length ss)

-- the stretches ss are laid next, and then ts
module _ {all old list : List ℕ} {n : ℕ} (ss ts : List Stretch) (l : Laid all old list (laid_out (ss ++ ts)) n) where
  piece : Laid all old list (laid_out ss ++ laid_out ts) n
  piece = subst (λ (x : List ℕ). Laid all old list x n) (laid_out_append ss ts) l

  pub gap-room : n + 2 * length ss ≤ length list
  gap-room = omega (arith, piece-room (laid_out ss) (laid_out ts) piece, laid_out_length ss)

  pub gap_laid : (list' : List ℕ) (m : ℕ) → list' ≡ sets list n (laid_out ss) → m ≡ n + 2 * length ss → Laid all old list' (laid_out ts) m
  gap_laid list' m e em = piece_laid (laid_out ss) (laid_out ts) piece list' m e (omega (arith, laid_out_length ss, em))

-- the last of them
module _ {all old list : List ℕ} {n : ℕ} (ss : List Stretch) (l : Laid all old list (laid_out ss) n) where
  last : Laid all old list (laid_out (ss ++ [])) n
  last = subst (λ (ts : List Stretch). Laid all old list (laid_out ts) n) (sym (append-nil ss)) l

  pub last-room : n + 2 * length ss ≤ length list
  last-room = gap-room ss [] last

  pub gaps_laid : (list' : List ℕ) → list' ≡ sets list n (laid_out ss) → list' ≡ filled all old
  gaps_laid list' e = laid_all (gap_laid ss [] last list' (n + 2 * length ss) e refl) (unfold laid_out in refl)
