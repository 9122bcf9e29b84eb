-- A block's stream wherever it stands in a run (LaidBlock; by itself laid_alone), after any damage: the word of a byte that is not touched is read as that byte
-- (reading_any, reading_word), so that the byte is what it was (reading) and its word is known (reading_known).
-- Assumes nothing.
use mathlib.Core.Path.{◌≡◌, refl, sym, ap, subst}
use mathlib.Core.Bool.{Bool, false}
use mathlib.Core.List.{List, [], ◌∷◌, ◌++◌}
use Prim.Native.Nat.{ℕ, ◌*◌, ◌<◌}
use native.Mathlib.Omega.{arith}
use lib.Dec.{T}
use lib.ListN.{length, get_or}
use Rattle.lists.specs.Bytes.{Bytes}
use Rattle.annexg.specs.Read.{State}
use Rattle.std.specs.Prelude.{Some}
use Rattle.layout.specs.Lengths.{frame_bytes, block_size, block_frames}
use Rattle.channel.specs.Block.{frames, run_items, block_items, permitted_choices, permitted_stream, reading_at, reading_byte, read_at, is_unknown, unknown_at, touched}
use Rattle.octets.specs.Halves.{packed}
use Rattle.channel.specs.Channel.{Item, sync, permitted, stream, all_proper}
use Rattle.channel.proofs.BitsTouched.{bits-touched, stream-bytes}
use Rattle.channel.proofs.Damage.{reading_frames}
use Rattle.channel.proofs.Places.{proper-append, frames-proper}

-- READING. Frames from any State and after any half word, with an item after them, are laid by permitted choices, and any bytes xs are read instead: the word of a
-- byte that is not touched is read as that byte
module _ (s l n g : ℕ) (bs : List ℕ) (i₀ : Item) (end : List Item) (cs : List Bool) (e : length bs ≡ frame_bytes * n) (hb : Bytes bs) (he : T (all_proper (i₀ ∷ end)))
    (hs : State s) (p : T (permitted s l (frames g n bs ++ i₀ ∷ end) cs)) where
  pub reading_any :
      (xs : List ℕ) → Bytes xs → (i : ℕ) → i < frame_bytes * n → touched (packed (stream s (frames g n bs ++ i₀ ∷ end) cs)) xs i ≡ false
      → reading_at xs i ≡ Some (get_or bs i 0)
  reading_any xs hx i hi t =
      let ys = packed (stream s (frames g n bs ++ i₀ ∷ end) cs) in
      let by = stream-bytes s l (frames g n bs ++ i₀ ∷ end) cs (proper-append (frames g n bs) (i₀ ∷ end) (frames-proper n g bs e hb) he) hs p in
      reading_frames s l n g bs i₀ end cs e hb he hs p xs i hi (bits-touched ys xs by hx i t)

-- ys are the sectors of the block bs and the SYNC Code after them, as permitted choices lay them from some State and after some half word: a block anywhere in a
-- run, with the next block's code or the closing code
pub record LaidBlock (bs ys : List ℕ) : Type 0 where
  pub state : ℕ
  pub last : ℕ
  pub choices : List Bool
  pub size : length bs ≡ block_size
  pub bytes : Bytes bs
  pub is_state : State state
  pub ok : T (permitted state last (block_items bs) choices)
  pub is : ys ≡ packed (stream state (block_items bs) choices)

-- a block by itself, with the closing code after it
pub laid_alone : (bs : List ℕ) (cs : List Bool) → length bs ≡ block_size → Bytes bs → T (permitted_choices bs cs) → LaidBlock bs (permitted_stream bs cs)
laid_alone bs cs e h p = record {
  state = 1;
  last = 0;
  choices = cs;
  size = e;
  bytes = h;
  is_state = record { low = omega arith; high = omega arith };
  ok = p;
  is = refl;
}

closing_proper : T (all_proper (sync 0 ∷ []))
unfolding all_proper
closing_proper = tt

-- its stream is of bytes
pub laid_bytes : {bs ys : List ℕ} → LaidBlock bs ys → Bytes ys
unfolding run_items
laid_bytes {bs} {ys} m =
    let items = frames 0 block_frames bs ++ sync 0 ∷ [] in
    let proper = proper-append (frames 0 block_frames bs) (sync 0 ∷ []) (frames-proper block_frames 0 bs m.size m.bytes) closing_proper in
    subst Bytes (sym m.is) (stream-bytes m.state m.last items m.choices proper m.is_state m.ok)

module _ {bs ys : List ℕ} (m : LaidBlock bs ys) (xs : List ℕ) (hx : Bytes xs) where
  -- READING in a block, at the place where the sector reader looks,
  pub reading_word : (i : ℕ) → i < block_size → touched ys xs i ≡ false → reading_at xs i ≡ Some (get_or bs i 0)
  unfolding run_items
  reading_word i hi t =
      reading_any m.state m.last block_frames 0 bs (sync 0) [] m.choices m.size m.bytes closing_proper m.is_state m.ok xs hx i hi
      (subst (λ (y : List ℕ). touched y xs i ≡ false) m.is t)

  -- and so the byte is what it was,
  pub reading : (i : ℕ) → i < block_size → touched ys xs i ≡ false → read_at xs i ≡ get_or bs i 0
  unfolding read_at
  reading i hi t = ap reading_byte (reading_word i hi t)

  -- and its word is known
  pub reading_known : (i : ℕ) → i < block_size → touched ys xs i ≡ false → unknown_at xs i ≡ false
  unfolding unknown_at
  reading_known i hi t = ap is_unknown (reading_word i hi t)
