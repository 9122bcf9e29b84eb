-- A block's stream as it was laid, anywhere in a run: every Code Word is known (word_known), and every SYNC place of its 416 frames holds a code of the number
-- due there (SyncAt, sync_known).
-- Assumes nothing.
use mathlib.Core.Path.{◌≡◌, refl, sym, ap, ◌∙◌}
use mathlib.Core.Bool.{Bool}
use mathlib.Core.List.{List, [], ◌∷◌, ◌++◌, map, append_assoc}
use Prim.Native.Nat.{ℕ, zero, suc, ◌+◌, ◌*◌, ◌<◌}
use native.Mathlib.Nat.{not-suc-le-zero, le_of_suc-le-suc}
use native.Mathlib.Omega.{arith}
use lib.Dec.{T}
use lib.ListN.{length, get_or, take, drop, length-append}
use Rattle.lists.proofs.Test.{and_left, and_right}
use Rattle.annexg.specs.Read.{State}
use Rattle.annexg.specs.Sync.{code_for, sync_end}
use Rattle.std.specs.Prelude.{Some}
use Rattle.layout.specs.Lengths.{frame_bytes, frame_halves, block_size, block_frames}
use Rattle.channel.specs.Channel.{Item, sync, byte, next_for, last_for, allowed, permitted, stream, place, proper, all_proper}
use Rattle.layout.specs.Sectors.{code_of}
use Rattle.channel.specs.Block.{frames, run_items, reading_at}
use Rattle.octets.specs.Halves.{half_at}
use Rattle.channel.proofs.Places.{place_past, head_length, tail_length, frames-length, proper-append, frames-proper}
use Rattle.channel.proofs.Reading.{next_state}
use Rattle.octets.proofs.Halves.{half-packed}
use Rattle.channel.proofs.Order.{frame_sync}
use Rattle.channel.proofs.BitsTouched.{untouched}
use Rattle.channel.proofs.Rows.{LaidBlock, laid_bytes, reading_word}

-- ---- the SYNC Code of frame f among the items

sync-place : (n g : ℕ) (bs : List ℕ) (end : List Item) → length bs ≡ frame_bytes * n → (f : ℕ) → f < n → place (frames g n bs ++ end) (92 * f) ≡ frame_halves * f
unfolding frames place
sync-place zero g bs end e f hf = absurd (not-suc-le-zero hf)
sync-place (suc n) g bs end e zero hf = refl
sync-place (suc n) g bs end e (suc f) hf =
    let k : 92 * suc f ≡ suc (frame_bytes + 92 * f) = omega arith in
    let m : suc (suc (frame_bytes + frame_halves * f)) ≡ frame_halves * suc f = omega arith in
    rw (k, append_assoc (map byte (take frame_bytes bs)) (frames (suc g) n (drop frame_bytes bs)) end)
    (ap (λ (x : ℕ). suc (suc x)) (past ∙ ap (λ (x : ℕ). frame_bytes + x) (sync-place n (suc g) (drop frame_bytes bs) end (tail_length bs n e) f (le_of_suc-le-suc hf))) ∙ m)
  where
    past : place (map byte (take frame_bytes bs) ++ (frames (suc g) n (drop frame_bytes bs) ++ end)) (frame_bytes + 92 * f) ≡ frame_bytes + place (frames (suc g) n (drop frame_bytes bs) ++ end) (92 * f)
    past = rw (head_length bs n e) at (place_past (take frame_bytes bs) (frames (suc g) n (drop frame_bytes bs) ++ end) (92 * f))

-- ---- the half words of a SYNC Code

-- a and b are SYn in some State
pub record SyncAt (n a b : ℕ) : Type 0 where
  pub state : ℕ
  pub choice : Bool
  pub is_state : State state
  pub first : a ≡ code_for state n choice
  pub second : b ≡ sync_end

byte-sync : (a n : ℕ) → byte a ≡ sync n → ⊥
byte-sync a n e = let z : ◌≡◌ {A = ℕ} 0 1 = cc in omega arith

sync-sync : (a n : ℕ) → sync a ≡ sync n → a ≡ n
sync-sync a n e = cc

syncs :
    (s l : ℕ) (is : List Item) (cs : List Bool) → T (all_proper is) → State s → T (permitted s l is cs)
    → (j n : ℕ) → j < length is → get_or is j (byte 0) ≡ sync n → SyncAt n (get_or (stream s is cs) (place is j) 0) (get_or (stream s is cs) (suc (place is j)) 0)
unfolding permitted stream all_proper place
syncs s l [] cs hp hs p j n h e = absurd (not-suc-le-zero h)
syncs s l (i ∷ is) [] hp hs p j n h e = absurd p
syncs s l (byte a ∷ is) (c ∷ cs) hp hs p zero n h e = absurd (byte-sync a n e)
syncs s l (sync a ∷ is) (c ∷ cs) hp hs p zero n h e =
    record { state = s; choice = c; is_state = hs; first = ap (λ (x : ℕ). code_for s x c) (sync-sync a n e); second = refl }
syncs s l (sync a ∷ is) (c ∷ cs) hp hs p (suc j) n h e =
    syncs 1 (last_for s (sync a) c) is cs (and_right (proper (sync a)) (all_proper is) hp)
    (next_state s l (sync a) c (and_left (proper (sync a)) (all_proper is) hp) hs tt) p j n (le_of_suc-le-suc h) e
syncs s l (byte a ∷ is) (c ∷ cs) hp hs p (suc j) n h e =
    let p₁ = and_left (allowed s l (byte a) c) (permitted (next_for s (byte a) c) (last_for s (byte a) c) is cs) p in
    let p₂ = and_right (allowed s l (byte a) c) (permitted (next_for s (byte a) c) (last_for s (byte a) c) is cs) p in
    syncs (next_for s (byte a) c) (last_for s (byte a) c) is cs (and_right (proper (byte a)) (all_proper is) hp)
    (next_state s l (byte a) c (and_left (proper (byte a)) (all_proper is) hp) hs p₁) p₂ j n (le_of_suc-le-suc h) e

-- ---- of a block

module _ {bs ys : List ℕ} (m : LaidBlock bs ys) where
  abbrev items : List Item
  items = frames 0 block_frames bs ++ sync 0 ∷ []

  abbrev laid : List ℕ
  laid = stream m.state items m.choices

  all : T (all_proper items)
  all = proper-append (frames 0 block_frames bs) (sync 0 ∷ []) (frames-proper block_frames 0 bs m.size m.bytes) (unfold all_proper in tt)

  long : length items ≡ 38273
  long = length-append (frames 0 block_frames bs) (sync 0 ∷ []) ∙ ap (λ (x : ℕ). x + 1) (frames-length block_frames 0 bs m.size)

  laid_half : (k : ℕ) → half_at ys k ≡ get_or laid k 0
  unfolding run_items
  laid_half k = ap (λ (y : List ℕ). half_at y k) m.is ∙ half-packed laid k

  pub word_known : (i : ℕ) → i < block_size → reading_at ys i ≡ Some (get_or bs i 0)
  word_known i h = reading_word m ys (laid_bytes m) i h (untouched ys i)

  pub sync_known : (f : ℕ) → f < block_frames → SyncAt (code_of f) (half_at ys (frame_halves * f)) (half_at ys (frame_halves * f + 1))
  unfolding run_items
  sync_known f h =
      let at-half : place items (92 * f) ≡ frame_halves * f = sync-place block_frames 0 bs (sync 0 ∷ []) m.size f h in
      let the_code : get_or items (92 * f) (byte 0) ≡ sync (code_of f) = frame_sync block_frames 0 bs (sync 0 ∷ []) m.size f h ∙ ap (λ (x : ℕ). sync (code_of x)) (omega arith) in
      let s = syncs m.state m.last items m.choices all m.is_state m.ok (92 * f) (code_of f) (omega (arith, long)) the_code in
      record {
        state = s.state;
        choice = s.choice;
        is_state = s.is_state;
        first = laid_half (frame_halves * f) ∙ ap (λ (x : ℕ). get_or laid x 0) (sym at-half) ∙ s.first;
        second = laid_half (frame_halves * f + 1) ∙ ap (λ (x : ℕ). get_or laid x 0) (omega (arith, at-half)) ∙ s.second;
      }
