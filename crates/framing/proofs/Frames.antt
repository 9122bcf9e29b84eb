-- The look, step by step: a frame that is taken (frames-taken), a bit without one (frames_moved), past the end (frames_past), over bits without one (frames_over).
-- Where a SYNC Code and a frame end (sync_end_lem, frame_end), and that the frames have room (frames-room).
-- Assumes nothing.
use mathlib.Core.Path.{◌≡◌, refl, sym, ap, ◌∙◌}
use mathlib.Core.Bool.{Bool, true, false, ◌&&◌}
use mathlib.Core.List.{List, [], ◌∷◌}
use mathlib.Core.Logic.{dite}
use Prim.Native.Nat.{ℕ, zero, suc, ◌+◌, ◌*◌, ◌<◌, ◌≤◌}
use native.Mathlib.Decide.{dec_lt}
use native.Mathlib.Omega.{arith}
use lib.Dec.{T, leb, leb→le}
use lib.ListN.{length}
use Rattle.lists.proofs.Test.{and_left, and_right, truth_of}
use Rattle.annexg.specs.Sync.{is_sync}
use Rattle.octets.specs.Halves.{bits_at}
use Rattle.channel.specs.Block.{some_from}
use Rattle.layout.specs.Lengths.{frame_bits, sync_bits}
use Rattle.framing.specs.Frames.{bit_count, sync_at, frame_at, taken_in, frames_from}

module _ (xs : List ℕ) where
  -- ---- a SYNC Code ends within the capture, and so does the one that closes a frame

  pub sync_end_lem : (p : ℕ) → T (sync_at xs p) → p + sync_bits ≤ bit_count xs
  unfolding sync_at
  sync_end_lem p t = leb→le (p + sync_bits) (bit_count xs) (and_left (leb (p + sync_bits) (bit_count xs)) (some_from (λ n. is_sync n (bits_at xs p 16) (bits_at xs (p + 16) 16)) 0 8) t)

  pub frame_end : (p : ℕ) → frame_at xs p ≡ true → p + frame_bits + sync_bits ≤ bit_count xs
  unfolding frame_at
  frame_end p e = sync_end_lem (p + frame_bits) (and_right (sync_at xs p) (sync_at xs (p + frame_bits)) (truth_of (sync_at xs p && sync_at xs (p + frame_bits)) e))

  no_frame_past : (p : ℕ) → bit_count xs ≤ p → frame_at xs p ≡ false
  no_frame_past p h = go (frame_at xs p) refl
    where
      go : (b : Bool) → frame_at xs p ≡ b → b ≡ false
      go true e = absurd (omega (arith, frame_end p e))
      go false e = refl

  -- ---- one look of so many

  look_taken : (n p : ℕ) → frame_at xs p ≡ true → taken_in (suc n) xs p ≡ p ∷ taken_in n xs (p + frame_bits)
  unfolding taken_in
  look_taken n p e = ap (λ (b : Bool). elim b [ true ↦ p ∷ taken_in n xs (p + frame_bits) | false ↦ taken_in n xs (suc p) ]) e

  look_moved : (n p : ℕ) → frame_at xs p ≡ false → taken_in (suc n) xs p ≡ taken_in n xs (suc p)
  unfolding taken_in
  look_moved n p e = ap (λ (b : Bool). elim b [ true ↦ p ∷ taken_in n xs (p + frame_bits) | false ↦ taken_in n xs (suc p) ]) e

  -- ---- as many looks as there are bits are enough

  none_past : (n p : ℕ) → bit_count xs ≤ p → taken_in n xs p ≡ []
  none_past zero p h = unfold taken_in in refl
  none_past (suc n) p h = look_moved n p (no_frame_past p h) ∙ none_past n (suc p) (omega arith)

  -- where m looks from bit p on see the end, and so do n, they take the same
  enough : (m n p : ℕ) → bit_count xs ≤ p + m → bit_count xs ≤ p + n → taken_in m xs p ≡ taken_in n xs p
  enough zero n p h k = sym (none_past n p (omega arith) ∙ sym (none_past zero p (omega arith)))
  enough (suc m) zero p h k = none_past (suc m) p (omega arith) ∙ sym (none_past zero p (omega arith))
  enough (suc m) (suc n) p h k = go (frame_at xs p) refl (enough m n (p + frame_bits) (omega arith) (omega arith)) (enough m n (suc p) (omega arith) (omega arith))
    where
      go : (b : Bool) → frame_at xs p ≡ b → taken_in m xs (p + frame_bits) ≡ taken_in n xs (p + frame_bits) → taken_in m xs (suc p) ≡ taken_in n xs (suc p)
          → taken_in (suc m) xs p ≡ taken_in (suc n) xs p
      go true e after next = look_taken m p e ∙ ap (λ (ps : List ℕ). p ∷ ps) after ∙ sym (look_taken n p e)
      go false e after next = look_moved m p e ∙ next ∙ sym (look_moved n p e)

  -- ---- the look

  pub frames_past : (p : ℕ) → bit_count xs ≤ p → frames_from xs p ≡ []
  frames_past p h = none_past (bit_count xs) p h

  one_more : (p : ℕ) → frames_from xs p ≡ taken_in (suc (bit_count xs)) xs p
  one_more p = enough (bit_count xs) (suc (bit_count xs)) p (omega arith) (omega arith)

  pub frames-taken : (p : ℕ) → frame_at xs p ≡ true → frames_from xs p ≡ p ∷ frames_from xs (p + frame_bits)
  frames-taken p e = one_more p ∙ look_taken (bit_count xs) p e

  pub frames_moved : (p : ℕ) → frame_at xs p ≡ false → frames_from xs p ≡ frames_from xs (suc p)
  frames_moved p e = one_more p ∙ look_moved (bit_count xs) p e

  -- over n bits at which no frame starts
  pub frames_over : (n p : ℕ) → ((j : ℕ) → p ≤ j → j < p + n → frame_at xs j ≡ false) → frames_from xs p ≡ frames_from xs (p + n)
  frames_over zero p h = ap (frames_from xs) (omega arith)
  frames_over (suc n) p h =
      frames_moved p (h p (omega arith) (omega arith)) ∙ frames_over n (suc p) (λ j a b. h j (omega arith) (omega arith)) ∙ ap (frames_from xs) (omega arith)

  -- ---- the frames taken do not overlap, so that they have room in the capture

  room_in : (n p : ℕ) → p ≤ bit_count xs → p + frame_bits * length (taken_in n xs p) ≤ bit_count xs
  room_in zero p h = unfold taken_in in omega arith
  room_in (suc n) p h = go (frame_at xs p) refl (room_in n (p + frame_bits)) (room_in n (suc p))
    where
      go : (b : Bool) → frame_at xs p ≡ b → (p + frame_bits ≤ bit_count xs → p + frame_bits + frame_bits * length (taken_in n xs (p + frame_bits)) ≤ bit_count xs)
          → (suc p ≤ bit_count xs → suc p + frame_bits * length (taken_in n xs (suc p)) ≤ bit_count xs)
          → p + frame_bits * length (taken_in (suc n) xs p) ≤ bit_count xs
      go true e after next = omega (arith, ap length (look_taken n p e), after (omega (arith, frame_end p e)))
      go false e after next = dite (dec_lt p (bit_count xs))
          (λ l. omega (arith, ap length (look_moved n p e), next l))
          (λ l. omega (arith, ap length (none_past (suc n) p (omega (arith, l)))))

  pub frames-room : (p : ℕ) → frame_bits * length (frames_from xs p) ≤ bit_count xs
  frames-room p = dite (dec_lt p (bit_count xs))
      (λ l. omega (arith, room_in (bit_count xs) p (omega arith)))
      (λ l. omega (arith, ap length (frames_past p (omega (arith, l)))))
