-- How far a laid stream moves the running record, and the State that it leaves.
-- Assumes nothing.
use mathlib.Core.Path.{◌≡◌, sym, subst}
use mathlib.Core.Bool.{Bool}
use mathlib.Core.List.{List, [], ◌∷◌, ◌++◌, map}
use Prim.Native.Nat.{ℕ, zero, suc, ◌+◌, ◌*◌, ◌<◌, ◌≤◌}
use native.Mathlib.Nat.{zero-add}
use native.Mathlib.Omega.{arith}
use lib.Dec.{T}
use lib.ListN.{length, take, drop, length-take}
use Rattle.lists.specs.Bytes.{Bytes}
use Rattle.annexg.specs.Read.{State}
use Rattle.channel.specs.Bits.{bits_all}
use Rattle.channel.specs.Block.{frames}
use Rattle.channel.specs.Channel.{Item, sync, byte, next_for, stream, all_proper}
use Rattle.levels.specs.Inner.{Room}
use Rattle.levels.specs.declared.Running.{Running}
use Rattle.channel.proofs.Joined.{state_after_lem}
use Rattle.channel.proofs.Places.{frames-proper}
use Rattle.levels.proofs.Steps.{level_small, dsv_near, bits-length}
use Rattle.layout.specs.Lengths.{sector_size, sector_bits}
use Rattle.streams.specs.Frames.{sector_of, closing_of}
use Rattle.streams.specs.Streams.{Stream}
use Rattle.streams.proofs.Frames.{sector_laid, closing_laid}
use Rattle.streams.specs.Inner.{extended, laid_by, Laid}

-- the half words of items
unfoldable pub width : List Item → ℕ
width [] = 0
width (sync n ∷ is) = suc (suc (width is))
width (byte b ∷ is) = suc (width is)

stream_width : (s : ℕ) (is : List Item) (cs : List Bool) → length (stream s is cs) ≤ width is
unfolding stream width
stream_width s [] cs = omega arith
stream_width s (i ∷ is) [] = omega arith
stream_width s (sync n ∷ is) (c ∷ cs) = omega (arith, stream_width 1 is cs)
stream_width s (byte b ∷ is) (c ∷ cs) = omega (arith, stream_width (next_for s (byte b) c) is cs)

width_bytes : (bs : List ℕ) (is : List Item) → width (map byte bs ++ is) ≡ length bs + width is
unfolding width
width_bytes [] is = sym (zero-add (width is))
width_bytes (b ∷ bs) is = omega (arith, width_bytes bs is)

pub width_frames : (n f : ℕ) (bs : List ℕ) → width (frames f n bs) ≤ 93 * n
unfolding width frames
width_frames zero f bs = omega arith
width_frames (suc n) f bs =
    let e = length-take 91 bs in
    omega (arith, width_bytes (take 91 bs) (frames (suc f) n (drop 91 bs)), width_frames n (suc f) (drop 91 bs))

-- how far a record has moved over n half words
pub record Near (a b : Running) (n : ℕ) : Type 0 where
  pub level : b.level < 2
  pub up : b.dsv ≤ a.dsv + 16 * n
  pub down : a.dsv ≤ b.dsv + 16 * n

pub laid_near : (a : Running) (is : List Item) (m : Stream) (n k : ℕ) → Laid a is m → Room a (16 * n + k) → width is ≤ n → Near a m.running n
unfolding laid_by extended
laid_near a is m n k h r w =
    let hs = stream a.state is m.choices in
    let l : length (bits_all hs) ≤ 16 * n = omega (arith, bits-length hs, stream_width a.state is m.choices) in
    let d = dsv_near a.level a.dsv (bits_all hs) r.level (omega (arith, r.low)) in
    subst (λ (x : Stream). Near a x.running n) (sym h.same)
    (record { level = level_small a.level (bits_all hs) r.level; up = omega (arith, d.0); down = omega (arith, d.1) })

-- what is left of the room
pub laid_room : (a : Running) (is : List Item) (m : Stream) (n k : ℕ) → Laid a is m → Room a (16 * n + k) → width is ≤ n → Room m.running k
laid_room a is m n k h r w =
    let d = laid_near a is m n k h r w in
    record { level = d.level; low = omega (arith, r.low, d.down); high = omega (arith, r.high, d.up) }

pub laid_state : (a : Running) (is : List Item) (m : Stream) → Laid a is m → T (all_proper is) → State a.state → State m.running.state
unfolding laid_by extended
laid_state a is m h p s = subst (λ (x : Stream). State x.running.state) (sym h.same) (state_after_lem a.state 0 is m.choices p s h.ok)

-- RANGE: a sector is at most 2,418 half words, the closing code two, and each moves the DSV by at most 16
pub sector_near : (r : Running) (bs : List ℕ) → Room r sector_bits → Near r (sector_of r bs).running 2418
sector_near r bs g = laid_near r (frames 0 26 bs) (sector_of r bs) 2418 0 (sector_laid r bs) g (width_frames 26 0 bs)

pub sector_state : (r : Running) (bs : List ℕ) → length bs ≡ sector_size → Bytes bs → State r.state → State (sector_of r bs).running.state
sector_state r bs e hb s = laid_state r (frames 0 26 bs) (sector_of r bs) (sector_laid r bs) (frames-proper 26 0 bs e hb) s

pub closing_near : (r : Running) → Room r 32 → Near r (closing_of r).running 2
closing_near r g = laid_near r (sync 0 ∷ []) (closing_of r) 2 0 (closing_laid r) g (unfold width in omega arith)
