-- A permitted stream of frames after any damage: the word of each byte that is not disturbed is read as that byte (same_state_bits, disturbed, reading_frames).
-- Assumes nothing.
use mathlib.Core.Path.{◌≡◌, sym, ap, ap₂, ◌∙◌}
use mathlib.Core.Bool.{Bool, false, not, ◌&&◌}
use mathlib.Core.List.{List, ◌∷◌, ◌++◌}
use Prim.Native.Nat.{ℕ, suc, ◌+◌, ◌*◌, ◌/◌, ◌%◌, ◌<◌}
use native.Mathlib.Omega.{arith}
use borrow.Author.Tests.{not-false}
use lib.Dec.{T, eqb, eqb→eq}
use lib.ListN.{length, get_or, length-append}
use Rattle.lists.specs.Bytes.{Bytes}
use Rattle.lists.proofs.Test.{and_left, and_right, truth_of}
use Rattle.annexg.specs.Read.{State, both_zero, read_word}
use Rattle.std.specs.Prelude.{Some}
use Rattle.layout.specs.Lengths.{frame_bytes}
use Rattle.channel.specs.Block.{frames, reading_at}
use Rattle.octets.specs.Halves.{packed, half_at}
use Rattle.octets.proofs.Halves.{half-packed}
use Rattle.layout.specs.Sectors.{half_of}
use Rattle.channel.specs.Channel.{Item, sync, byte, permitted, stream, place, all_proper}
use Rattle.channel.proofs.Places.{frame_place_lem, frame_item, frames-length, proper-append, frames-proper}
use Rattle.channel.proofs.Reading.{reads}

-- bits 15 and 3 of two halves, which tell States 2 and 3 apart, are the same
abbrev pub same_state_bits : ℕ → ℕ → Bool
same_state_bits f g = eqb (f / 32768 % 2) (g / 32768 % 2) && eqb (f / 8 % 2) (g / 8 % 2)

-- byte i's own half, or bit 15 or bit 3 of the half after it, is another
unfoldable pub disturbed : List ℕ → List ℕ → ℕ → Bool
disturbed ys xs i = not (eqb (half_at xs (half_of i)) (half_at ys (half_of i)) && same_state_bits (half_at xs (half_of i + 1)) (half_at ys (half_of i + 1)))

same-both_zero : (f g : ℕ) → T (same_state_bits f g) → both_zero f ≡ both_zero g
unfolding both_zero
same-both_zero f g h =
    ap₂ (λ (x y : ℕ). eqb (x + y) 0)
    (eqb→eq (f / 32768 % 2) (g / 32768 % 2) (and_left (eqb (f / 32768 % 2) (g / 32768 % 2)) (eqb (f / 8 % 2) (g / 8 % 2)) h))
    (eqb→eq (f / 8 % 2) (g / 8 % 2) (and_right (eqb (f / 32768 % 2) (g / 32768 % 2)) (eqb (f / 8 % 2) (g / 8 % 2)) h))

-- any frames after which an item stands, from any State and after any half
module _ (s l n g : ℕ) (bs : List ℕ) (i₀ : Item) (end : List Item) (cs : List Bool) (e : length bs ≡ frame_bytes * n) (hb : Bytes bs) (he : T (all_proper (i₀ ∷ end)))
    (hs : State s) (p : T (permitted s l (frames g n bs ++ i₀ ∷ end) cs)) where
  pub reading_frames :
      (xs : List ℕ) (i : ℕ) → i < frame_bytes * n → disturbed (packed (stream s (frames g n bs ++ i₀ ∷ end) cs)) xs i ≡ false → reading_at xs i ≡ Some (get_or bs i 0)
  unfolding disturbed
  reading_frames xs i hi t =
      let items = frames g n bs ++ i₀ ∷ end in
      let o = stream s items cs in
      let f = i / frame_bytes in
      let q = i % frame_bytes in
      let hf : f < n = omega arith in
      let hq : q < frame_bytes = omega arith in
      let at-half : place items (92 * f + suc q) ≡ half_of i = frame_place_lem n g bs (i₀ ∷ end) e f q hf hq ∙ omega arith in
      let at_next : suc (place items (92 * f + suc q)) ≡ half_of i + 1 = ap suc at-half ∙ omega arith in
      let the-byte : get_or items (92 * f + suc q) (sync 0) ≡ byte (get_or bs i 0) =
      frame_item n g bs (i₀ ∷ end) e f q hf hq ∙ ap (λ (x : ℕ). byte (get_or bs x 0)) (omega arith) in
      let len : suc (92 * f + suc q) < length items = rw (length-append, frames-length n g bs e) (omega arith) in
      let one = eqb (half_at xs (half_of i)) (half_at (packed o) (half_of i)) in
      let two = same_state_bits (half_at xs (half_of i + 1)) (half_at (packed o) (half_of i + 1)) in
      let kept = truth_of (one && two) (not-false (one && two) t) in
      let word : half_at xs (half_of i) ≡ get_or o (place items (92 * f + suc q)) 0 =
      eqb→eq (half_at xs (half_of i)) (half_at (packed o) (half_of i)) (and_left one two kept) ∙ half-packed o (half_of i) ∙ ap (λ (x : ℕ). get_or o x 0) (sym at-half) in
      let following : both_zero (half_at xs (half_of i + 1)) ≡ both_zero (get_or o (suc (place items (92 * f + suc q))) 0) =
      same-both_zero (half_at xs (half_of i + 1)) (half_at (packed o) (half_of i + 1)) (and_right one two kept)
      ∙ ap both_zero (half-packed o (half_of i + 1) ∙ ap (λ (x : ℕ). get_or o x 0) (sym at_next)) in
      ap (λ (w : ℕ). read_word w (half_at xs (half_of i + 1))) word
      ∙ reads s l items cs (proper-append (frames g n bs) (i₀ ∷ end) (frames-proper n g bs e hb) he) hs p (92 * f + suc q) (get_or bs i 0) len the-byte
      (half_at xs (half_of i + 1)) following
