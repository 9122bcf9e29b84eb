-- The frames of a sector, one after the other in a buffer.
-- Assumes nothing.
use mathlib.Core.Path.{◌≡◌, refl, sym, ap, ap₂, subst, ◌∙◌}
use mathlib.Core.Bool.{Bool, true, false, cond}
use mathlib.Core.List.{List, ◌++◌}
use Prim.Native.Nat.{ℕ, suc, ◌+◌, ◌*◌, ◌-◌, ◌<◌, ◌≤◌, max}
use native.Mathlib.Nat.{max-zero}
use native.Mathlib.Numerals.{add-one}
use native.Mathlib.Omega.{arith}
use lib.Dec.{T}
use lib.ListN.{length, take, drop, length-take, length-drop}
use lib.Seq.{sets, take_all}
use Rattle.std.specs.Prelude.{Option, Some, MatchOption}
use Rattle.std.specs.Array.{IsWholeChunk}
use Rattle.std.proofs.Common.{Bor}
use Rattle.lists.specs.Bytes.{Bytes}
use Rattle.lists.proofs.Bytes.{take-bytes}
use Rattle.annexg.specs.Read.{State}
use Rattle.octets.specs.Halves.{packed}
use Rattle.octets.proofs.Copies.{take-sets}
use Rattle.channel.specs.Block.{frames}
use Rattle.channel.specs.Channel.{Item, all_proper}
use Rattle.octets.proofs.Halves.{packed-append}
use Rattle.channel.proofs.Places.{frames-proper}
use Rattle.frames.specs.declared.Shown.{Shown}
use Rattle.layout.specs.Lengths.{frame_bytes, frame_bits, frame_stream, sector_frames, sector_size, sector_stream, sector_bits}
use Rattle.layout.specs.Sectors.{code_of}
use Rattle.levels.specs.Inner.{Room}
use Rattle.levels.specs.Level.{magnitude}
use Rattle.levels.specs.declared.Running.{Running}
use Rattle.levels.proofs.Steps.{room-le}
use Rattle.streams.specs.Frames.{joined, frames_of, sector_of}
use Rattle.streams.specs.Peak.{peak_of}
use Rattle.streams.specs.Streams.{Stream, one_lower, filled, sync_frame_of, buffer_after}
use Rattle.streams.proofs.Frames.{frames_laid, frames-take}
use Rattle.streams.proofs.Peak.{max_assoc, frames_peak}
use Rattle.streams.proofs.Range.{laid_room, laid_state, width_frames}
use Rattle.streams.proofs.Shown.{selected_shown}
use Rattle.writer.specs.Inner.{frame_at, FrameBegins, SectorBegins}

-- ---- one frame

-- the 91 bytes of frame k, as the code lends them
module _ (bs : List ℕ) (k : ℕ) where
  abbrev lent : List ℕ
  lent = take (frame_bytes * k + frame_bytes - frame_bytes * k) (drop (frame_bytes * k) bs)

  pub lent_is : lent ≡ take frame_bytes (drop (frame_bytes * k) bs)
  lent_is =
      let e : frame_bytes * k + frame_bytes - frame_bytes * k ≡ frame_bytes = omega arith in
      ap (λ (z : ℕ). take z (drop (frame_bytes * k) bs)) e

  pub lent_length : length bs ≡ sector_size → k < sector_frames → length lent ≡ frame_bytes
  lent_length e h =
      ap length lent_is
      ∙ length-take frame_bytes (drop (frame_bytes * k) bs)
      ∙ omega (arith, length-drop (frame_bytes * k) bs)

-- a part that is lent as an array is the part
pub some_same :
    {o : Option (Bor (List ℕ))} {y : Bor (List ℕ)} {xs : List ℕ} (n : ℕ) (N : Type 0)
    → o ≡ Some y → MatchOption o N (λ z. IsWholeChunk xs z.now n) → y.now ≡ xs
some_same {o} {y} {xs} n N e h =
    let g : MatchOption (Some y) N (λ z. IsWholeChunk xs z.now n) = subst (λ p. MatchOption p N (λ z. IsWholeChunk xs z.now n)) e h in
    g.same

-- what `frames::frame` promises, with the buffers x and y at exit
abbrev pub Framed : Running → ℕ → List ℕ → List ℕ → List ℕ → Shown → Type 0
Framed r n bs x y q =
    (q.first ≡ one_lower (filled r n bs))
    × ((x ≡ buffer_after true r n bs) × ((y ≡ buffer_after false r n bs) × (q.running ≡ (sync_frame_of r n bs).running)))

-- the buffer of the stream shown
framed_shown :
    (r : Running) (n : ℕ) (bs x y : List ℕ) (q : Shown) → Framed r n bs x y q
    → cond q.first x y ≡ packed (sync_frame_of r n bs).halves
framed_shown r n bs x y q f =
    ap (λ (b : Bool). cond b x y) f.0
    ∙ ap₂ (λ (u v : List ℕ). cond (one_lower (filled r n bs)) u v) f.1.0 f.1.1.0
    ∙ selected_shown r n bs

-- what the code has made of frame k: its code n, the bytes b lent, what `frames::frame` left (x, y, q), the buffer selected, the sector's buffer then
pub record Made (r : Running) (bs : List ℕ) (k n : ℕ) (b x y : List ℕ) (q : Shown)
    (selected out out₁ : List ℕ) : Type 0 where
  pub code : n ≡ code_of k
  pub lent : b ≡ take frame_bytes (drop (frame_bytes * k) bs)
  pub framed : Framed r n b x y q
  pub one : length x ≡ frame_stream
  pub two : length y ≡ frame_stream
  pub shown : selected ≡ take frame_stream (cond q.first x y)
  pub put : out₁ ≡ sets out (frame_stream * k) selected
  pub fits : frame_stream * k + frame_stream ≤ length out

pub selected_length :
    (f : Bool) (x y : List ℕ) {selected : List ℕ} → selected ≡ take frame_stream (cond f x y) → length x ≡ frame_stream
    → length y ≡ frame_stream → length selected ≡ frame_stream
selected_length true x y e h k = ap length e ∙ length-take frame_stream x ∙ omega arith
selected_length false x y e h k = ap length e ∙ length-take frame_stream y ∙ omega arith

module _ {r : Running} {bs : List ℕ} {k n : ℕ} {b x y : List ℕ} {q : Shown} {selected out out₁ : List ℕ}
    (m : Made r bs k n b x y q selected out out₁) where
  frame_same : sync_frame_of r n b ≡ frame_at r bs k
  frame_same = ap₂ (sync_frame_of r) m.code m.lent

  selected_frame : selected ≡ packed (frame_at r bs k).halves
  selected_frame =
      m.shown
      ∙ take_all frame_stream (cond q.first x y) (long q.first)
      ∙ framed_shown r n b x y q m.framed
      ∙ ap (λ (z : Stream). packed z.halves) frame_same
    where
      long : (c : Bool) → length (cond c x y) ≤ frame_stream
      long true = omega (arith, m.one)
      long false = omega (arith, m.two)

  pub made_frame :
      (q.running ≡ (frame_at r bs k).running)
      × (take (frame_stream * k + frame_stream) out₁ ≡ take (frame_stream * k) out ++ packed (frame_at r bs k).halves)
  made_frame =
      let l : length selected ≡ frame_stream = selected_length q.first x y m.shown m.one m.two in
      let e : frame_stream * k + frame_stream ≡ frame_stream * k + length selected = omega arith in
      let front = take-sets selected out (frame_stream * k) (omega (arith, m.fits)) in (
        m.framed.1.1.1 ∙ ap (λ (z : Stream). z.running) frame_same,
        ap₂ take e m.put ∙ front ∙ ap (λ (z : List ℕ). take (frame_stream * k) out ++ z) selected_frame,
      )

-- ---- the frames before it

-- k frames are laid; the peak before them was p
pub record Laying (r running : Running) (p peak : ℕ) (bs out : List ℕ) (k : ℕ) : Type 0 where
  pub running-is : running ≡ (frames_of r bs k).running
  pub peak_is : peak ≡ max p (peak_of r (frames_of r bs k).halves k)
  pub bytes : take (frame_stream * k) out ≡ packed (frames_of r bs k).halves

pub laying_none : {r : Running} {p : ℕ} {bs out : List ℕ} → Laying r r p p bs out 0
unfolding frames_of packed peak_of
laying_none {r} {p} = record { running-is = refl; peak_is = sym (max-zero p); bytes = refl }

frames-suc :
    (r : Running) (bs : List ℕ) (k : ℕ)
    → frames_of r bs (k + 1) ≡ joined (frames_of r bs k) (frame_at (frames_of r bs k).running bs k)
unfolding frames_of
frames-suc r bs k = ap (frames_of r bs) (add-one k)

-- the peak with one frame more
peak_more :
    (r : Running) (bs : List ℕ) (p k : ℕ) → frame_bytes * (k + 1) ≤ length bs
    → max (max p (peak_of r (frames_of r bs k).halves k)) (magnitude (frames_of r bs (k + 1)).running.dsv)
    ≡ max p (peak_of r (frames_of r bs (k + 1)).halves (k + 1))
peak_more r bs p k h =
    rw (add-one k)
    (max_assoc p (peak_of r (frames_of r bs k).halves k) (magnitude (frames_of r bs (suc k)).running.dsv)
    ∙ ap (max p) (sym (frames_peak r bs k (omega (arith, h)))))

pub laying_more :
    {r running running₁ : Running} {p peak peak₁ : ℕ} {bs out out₁ : List ℕ} {k : ℕ} → Laying r running p peak bs out k
    → (running₁ ≡ (frame_at running bs k).running)
    × (take (frame_stream * k + frame_stream) out₁ ≡ take (frame_stream * k) out ++ packed (frame_at running bs k).halves)
    → peak₁ ≡ max peak (magnitude running₁.dsv) → frame_bytes * (k + 1) ≤ length bs
    → Laying r running₁ p peak₁ bs out₁ (k + 1)
laying_more {r} {running} {running₁} {p} {peak} {peak₁} {bs} {out} {out₁} {k} l f e h =
    let m = frames_of r bs k in
    let next = frame_at m.running bs k in
    let same : frame_at running bs k ≡ next = ap (λ (z : Running). frame_at z bs k) l.running-is in
    let more = sym (frames-suc r bs k) in
    let running-is = f.0 ∙ ap (λ (z : Stream). z.running) same ∙ ap (λ (z : Stream). z.running) more in
    let w : frame_stream * (k + 1) ≡ frame_stream * k + frame_stream = omega arith in
    record {
      running-is = running-is;
      peak_is = e ∙ ap₂ (λ (x : ℕ) (z : Running). max x (magnitude z.dsv)) l.peak_is running-is ∙ peak_more r bs p k h;
      bytes =
          ap (λ (z : ℕ). take z out₁) w
          ∙ f.1
          ∙ ap₂ (λ (u : List ℕ) (v : Stream). u ++ packed v.halves) l.bytes same
          ∙ sym (packed-append m.halves next.halves)
          ∙ ap (λ (z : Stream). packed z.halves) more;
    }

pub laying_all :
    {r running : Running} {p peak : ℕ} {bs out : List ℕ} {k : ℕ} → k ≡ sector_frames → length out ≡ sector_stream
    → Laying r running p peak bs out k
    → (running ≡ (sector_of r bs).running)
    × ((peak ≡ max p (peak_of r (sector_of r bs).halves sector_frames)) × (out ≡ packed (sector_of r bs).halves))
laying_all {r} {running} {p} {peak} {bs} {out} {k} e l h = (
  h.running-is ∙ ap (λ (z : ℕ). (frames_of r bs z).running) e,
  (
    h.peak_is ∙ ap (λ (z : ℕ). max p (peak_of r (frames_of r bs z).halves z)) e,
    sym (take_all (frame_stream * k) out (omega arith)) ∙ h.bytes ∙ ap (λ (z : ℕ). packed (frames_of r bs z).halves) e,
  ),
)

-- ---- a frame may begin before each of the 26

module _ {r running : Running} {p peak : ℕ} {bs out : List ℕ} {k : ℕ} (g : SectorBegins r) (l : Laying r running p peak bs out k)
    (h : k < sector_frames) where
  sector_state : length bs ≡ sector_size → Bytes bs → State running.state
  sector_state lb hb =
      let front = take (frame_bytes * k) bs in
      let e : length front ≡ frame_bytes * k = length-take (frame_bytes * k) bs ∙ omega (arith, lb) in
      let proper = frames-proper k 0 front e (take-bytes (frame_bytes * k) bs hb) in
      let p = subst (λ (z : List Item). T (all_proper z)) (frames-take k 0 bs) proper in
      subst (λ (z : Running). State z.state) (sym l.running-is)
      (laid_state r (frames 0 k bs) (frames_of r bs k) (frames_laid r bs k) p g.state)

  sector_room_lem : Room running frame_bits
  sector_room_lem =
      let room = room-le r (16 * (93 * k) + frame_bits) sector_bits (omega arith) g.room in
      subst (λ (z : Running). Room z frame_bits) (sym l.running-is)
      (laid_room r (frames 0 k bs) (frames_of r bs k) (93 * k) frame_bits (frames_laid r bs k) room (width_frames k 0 bs))

  pub frame_begins : length bs ≡ sector_size → Bytes bs → FrameBegins running k
  frame_begins lb hb = record { number = h; state = sector_state lb hb; room = sector_room_lem }
