-- Laws of the peak of a stream:
--   peak_greatest                     it is the greatest of the absolute DSVs at the ends of the frames
--   peak_limit, end_below             how high it can be; the DSV at the end of the last frame is not above it
--   frames_peak, sectors_peak, run_peak   over one frame, one sector or one block more; the closing code ends no frame and does not count
-- Assumes nothing.
use mathlib.Core.Path.{◌≡◌, refl, sym, ap, ap₂, subst, ◌∙◌, ◌≡⟨◌⟩◌, ◌∎}
use mathlib.Core.List.{List, [], ◌∷◌, ◌++◌, append-nil}
use mathlib.Core.Logic.{◌⊎◌, inl, inr}
use Prim.Native.Nat.{ℕ, zero, suc, ◌+◌, ◌*◌, ◌<◌, ◌≤◌, max}
use native.Mathlib.Nat.{eq-or-lt_of_le, add-zero, add-suc, max-zero, zero-max}
use native.Mathlib.Omega.{arith, max_cases}
use lib.ListN.{length, take, drop, length-take}
use lib.Seq.{take_all, take-append-le, take-append-add, length-take-le}
use Rattle.channel.specs.Bits.{bits_all}
use Rattle.channel.specs.Block.{frames}
use Rattle.channel.specs.Channel.{Item, place}
use Rattle.channel.proofs.Joined.{halves, halves-frames, stream-length}
use Rattle.layout.specs.Lengths.{block_frames, block_size, frame_bits, frame_bytes, frame_halves, sector_count, sector_frames, sector_size}
use Rattle.levels.specs.Inner.{Room}
use Rattle.levels.specs.Level.{magnitude, dsv_after, running_after}
use Rattle.levels.specs.declared.Running.{Running}
use Rattle.levels.proofs.Steps.{running-append, dsv_near, bits-length, room-le}
use Rattle.streams.specs.Frames.{joined, frames_of, sector_of, sectors_of, run_of}
use Rattle.streams.specs.Inner.{extended, laid_by, Laid}
use Rattle.streams.specs.Peak.{swing_at, peak_of}
use Rattle.streams.specs.Streams.{Stream}
use Rattle.streams.proofs.Frames.{frames_laid, frames-take, sectors_laid}

-- ---- the greatest

pub peak_above : (r : Running) (hs : List ℕ) (k n : ℕ) → k < n → swing_at r hs k ≤ peak_of r hs n
unfolding peak_of
peak_above r hs k zero h = absurd (omega arith)
peak_above r hs k (suc n) h = by (eq-or-lt_of_le {n = k} {m = n} (omega arith)) (peak_above r hs k n)
  where
    by : (k ≡ n) ⊎ (k < n) → (k < n → swing_at r hs k ≤ peak_of r hs n) → swing_at r hs k ≤ max (peak_of r hs n) (swing_at r hs n)
    by (inl e) before = omega (arith, ap (swing_at r hs) e)
    by (inr l) before = omega (arith, before l)

-- p is the greatest absolute DSV at the ends of the first n frames: none is higher, and at the end of one it is that high; 0 before the first
pub record Greatest (r : Running) (hs : List ℕ) (n p : ℕ) : Type 0 where
  pub above : (k : ℕ) → k < n → swing_at r hs k ≤ p
  pub frame : ℕ
  pub reached : 0 < n → (frame < n) × (p ≡ swing_at r hs frame)
  pub none : n ≡ 0 → p ≡ 0

pub peak_greatest : (r : Running) (hs : List ℕ) (n : ℕ) → Greatest r hs n (peak_of r hs n)
unfolding peak_of
peak_greatest r hs zero = record { above = λ k h. absurd (omega arith); frame = 0; reached = λ h. absurd (omega arith); none = λ e. refl }
peak_greatest r hs (suc zero) =
    record {
      above = λ k h. peak_above r hs k 1 h;
      frame = 0;
      reached = λ h. (omega arith, zero-max (swing_at r hs 0));
      none = λ e. absurd (omega arith);
    }
peak_greatest r hs (suc (suc n)) =
    let before = peak_greatest r hs (suc n) in
    let all : (k : ℕ) → k < suc (suc n) → swing_at r hs k ≤ peak_of r hs (suc (suc n)) = λ k h. peak_above r hs k (suc (suc n)) h in
    max_cases (peak_of r hs (suc n)) (swing_at r hs (suc n)) (Greatest r hs (suc (suc n)) (peak_of r hs (suc (suc n))))
    (λ le e. record { above = all; frame = suc n; reached = λ h. (omega arith, e); none = λ z. absurd (omega arith) })
    (λ le e. record {
      above = all;
      frame = before.frame;
      reached = λ h. let at = before.reached (omega arith) in (omega (arith, at.0), e ∙ at.1);
      none = λ z. absurd (omega arith);
    })

-- each bit moves the DSV by one
swing_limit : (r : Running) (hs : List ℕ) (k : ℕ) → Room r (frame_bits * suc k) → swing_at r hs k ≤ magnitude r.dsv + frame_bits * suc k
swing_limit r hs k room =
    let front = take (frame_halves * suc k) hs in
    let bits : length (bits_all front) ≤ frame_bits * suc k = omega (arith, bits-length front, length-take (frame_halves * suc k) hs) in
    let near = dsv_near r.level r.dsv (bits_all front) room.level (omega (arith, room.low)) in
    omega (arith, near.0, near.1)

pub peak_limit : (r : Running) (hs : List ℕ) (n : ℕ) → Room r (frame_bits * n) → peak_of r hs n ≤ magnitude r.dsv + frame_bits * n
unfolding peak_of
peak_limit r hs zero room = omega arith
peak_limit r hs (suc n) room =
    let less = room-le r (frame_bits * n) (frame_bits * suc n) (omega arith) room in
    omega (arith, peak_limit r hs n less, swing_limit r hs n room)

-- ---- a stream after another

swing_front : (r : Running) (gs hs : List ℕ) (k : ℕ) → frame_halves * suc k ≤ length gs → swing_at r (gs ++ hs) k ≡ swing_at r gs k
swing_front r gs hs k h = ap (λ (x : List ℕ). magnitude (dsv_after r.level r.dsv (bits_all x))) (take-append-le (frame_halves * suc k) gs hs h)

peak_front : (r : Running) (gs hs : List ℕ) (n : ℕ) → frame_halves * n ≤ length gs → peak_of r (gs ++ hs) n ≡ peak_of r gs n
unfolding peak_of
peak_front r gs hs zero h = refl
peak_front r gs hs (suc n) h = ap₂ max (peak_front r gs hs n (omega arith)) (swing_front r gs hs n h)

pub max_assoc : (a b c : ℕ) → max (max a b) c ≡ max a (max b c)
max_assoc a b c = omega arith

module _ (r : Running) (s : ℕ) (gs hs : List ℕ) (n : ℕ) (e : length gs ≡ frame_halves * n) where
  -- the running record between the two
  abbrev between : Running
  between = running_after r s gs

  swing_after : (j : ℕ) → swing_at r (gs ++ hs) (n + j) ≡ swing_at between hs j
  swing_after j =
      let rest = take (frame_halves * suc j) hs in
      let count : frame_halves * suc (n + j) ≡ length gs + frame_halves * suc j = omega arith in
      ap (λ (x : List ℕ). magnitude (running_after r s x).dsv) (ap (λ (x : ℕ). take x (gs ++ hs)) count ∙ take-append-add gs hs (frame_halves * suc j))
      ∙ ap (λ (x : Running). magnitude x.dsv) (sym (running-append r s s gs rest))

  peak_append : (j : ℕ) → peak_of r (gs ++ hs) (n + j) ≡ max (peak_of r gs n) (peak_of between hs j)
  unfolding peak_of
  peak_append zero =
      peak_of r (gs ++ hs) (n + 0) ≡⟨ ap (peak_of r (gs ++ hs)) (add-zero n) ⟩
      peak_of r (gs ++ hs) n ≡⟨ peak_front r gs hs n (omega arith) ⟩
      peak_of r gs n ≡⟨ sym (max-zero (peak_of r gs n)) ⟩
      max (peak_of r gs n) 0 ∎
  peak_append (suc j) =
      peak_of r (gs ++ hs) (n + suc j) ≡⟨ ap (peak_of r (gs ++ hs)) (add-suc n j) ⟩
      max (peak_of r (gs ++ hs) (n + j)) (swing_at r (gs ++ hs) (n + j)) ≡⟨ ap₂ max (peak_append j) (swing_after j) ⟩
      max (max (peak_of r gs n) (peak_of between hs j)) (swing_at between hs j) ≡⟨ max_assoc (peak_of r gs n) (peak_of between hs j) (swing_at between hs j) ⟩
      max (peak_of r gs n) (max (peak_of between hs j) (swing_at between hs j)) ∎

-- ---- streams that are laid

module _ {a : Running} {is : List Item} {m : Stream} (h : Laid a is m) where
  laid_running : m.running ≡ running_after a m.running.state m.halves
  unfolding laid_by extended
  laid_running = subst (λ (x : Stream). x.running ≡ running_after a x.running.state x.halves) (sym h.same) refl

  laid_halves : length m.halves ≡ halves is
  unfolding laid_by extended
  laid_halves = ap (λ (x : Stream). length x.halves) h.same ∙ stream-length a.state 0 is m.choices h.ok

  swing_end : (n : ℕ) → length m.halves ≡ frame_halves * suc n → swing_at a m.halves n ≡ magnitude m.running.dsv
  swing_end n e =
      ap (λ (x : List ℕ). magnitude (dsv_after a.level a.dsv (bits_all x))) (take_all (frame_halves * suc n) m.halves (omega arith))
      ∙ ap (λ (x : Running). magnitude x.dsv) (sym laid_running)

  peak_joined :
      (k : Stream) (n j : ℕ) → length m.halves ≡ frame_halves * n
      → peak_of a (joined m k).halves (n + j) ≡ max (peak_of a m.halves n) (peak_of m.running k.halves j)
  peak_joined k n j e =
      peak_append a m.running.state m.halves k.halves n e j
      ∙ ap (λ (x : Running). max (peak_of a m.halves n) (peak_of x k.halves j)) (sym laid_running)

frames-count : (n : ℕ) (bs : List ℕ) → frame_bytes * n ≤ length bs → halves (frames 0 n bs) ≡ frame_halves * n
frames-count n bs h =
    let front = take (frame_bytes * n) bs in
    let none : halves [] ≡ 0 = unfold halves place in refl in
    ap halves (sym (frames-take n 0 bs) ∙ sym (append-nil (frames 0 n front)))
    ∙ halves-frames n 0 front [] (length-take-le (frame_bytes * n) bs h)
    ∙ omega (arith, none)

module _ (r : Running) (bs : List ℕ) where
  frames-halves : (n : ℕ) → frame_bytes * n ≤ length bs → length (frames_of r bs n).halves ≡ frame_halves * n
  frames-halves n h = laid_halves (frames_laid r bs n) ∙ frames-count n bs h

  sectors_halves : (n : ℕ) → sector_size * n ≤ length bs → length (sectors_of r bs n).halves ≡ frame_halves * (sector_frames * n)
  sectors_halves n h = laid_halves (sectors_laid r bs n) ∙ frames-count (sector_frames * n) bs (omega arith)

  -- a frame more: the DSV at its end is that of the running record then
  pub frames_peak :
      (n : ℕ) → frame_bytes * suc n ≤ length bs
      → peak_of r (frames_of r bs (suc n)).halves (suc n) ≡ max (peak_of r (frames_of r bs n).halves n) (magnitude (frames_of r bs (suc n)).running.dsv)
  unfolding peak_of frames_of
  frames_peak n h =
      ap₂ max (peak_front r (frames_of r bs n).halves _ n (omega (arith, frames-halves n (omega arith))))
      (swing_end (frames_laid r bs (suc n)) n (frames-halves (suc n) h))

  -- the DSV after a sector is that at the end of its last frame
  pub end_below : length bs ≡ sector_size → magnitude (sector_of r bs).running.dsv ≤ peak_of r (sector_of r bs).halves sector_frames
  end_below e =
      omega (
        arith,
        peak_above r (sector_of r bs).halves 25 sector_frames (omega arith),
        swing_end (frames_laid r bs sector_frames) 25 (frames-halves sector_frames (omega arith)),
      )

  -- a sector more
  pub sectors_peak :
      (n : ℕ) → sector_size * suc n ≤ length bs
      → let m = sectors_of r bs n in
      peak_of r (sectors_of r bs (suc n)).halves (sector_frames * suc n)
      ≡ max (peak_of r m.halves (sector_frames * n))
      (peak_of m.running (sector_of m.running (take sector_size (drop (sector_size * n) bs))).halves sector_frames)
  unfolding sectors_of
  sectors_peak n h =
      let m = sectors_of r bs n in
      let count : sector_frames * suc n ≡ sector_frames * n + sector_frames = omega arith in
      ap (peak_of r (sectors_of r bs (suc n)).halves) count
      ∙ peak_joined (sectors_laid r bs n) (sector_of m.running (take sector_size (drop (sector_size * n) bs))) (sector_frames * n) sector_frames
      (sectors_halves n (omega arith))

  -- a block before a run: what the run's closing code adds is no frame
  pub run_peak :
      (run : List (List ℕ)) (n : ℕ) → length bs ≡ block_size
      → let m = sectors_of r bs sector_count in
      peak_of r (run_of r (bs ∷ run)).halves (sector_frames * (sector_count * suc n))
      ≡ max (peak_of r m.halves block_frames) (peak_of m.running (run_of m.running run).halves (sector_frames * (sector_count * n)))
  unfolding run_of
  run_peak run n e =
      let m = sectors_of r bs sector_count in
      let count : sector_frames * (sector_count * suc n) ≡ block_frames + sector_frames * (sector_count * n) = omega arith in
      ap (peak_of r (run_of r (bs ∷ run)).halves) count
      ∙ peak_joined (sectors_laid r bs sector_count) (run_of m.running run) block_frames (sector_frames * (sector_count * n))
      (sectors_halves sector_count (omega arith))
