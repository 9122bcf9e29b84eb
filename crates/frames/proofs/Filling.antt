-- Both streams over the bytes of a frame, one after the other, and the frame.
-- Assumes nothing.
use mathlib.Core.Path.{◌≡◌, refl, sym, ap, ap₂, subst, ◌∙◌}
use mathlib.Core.Bool.{Bool, true, false}
use mathlib.Core.List.{List, [], ◌∷◌, ◌++◌, map}
use Prim.Native.Nat.{ℕ, suc, ◌+◌, ◌*◌, ◌<◌, ◌≤◌}
use native.Mathlib.Numerals.{add-one}
use native.Mathlib.Omega.{arith}
use lib.Dec.{T, leb, lt→ltb}
use lib.ListN.{length, get_or, take, length-take}
use lib.Seq.{take-suc, take_all}
use Rattle.lists.specs.Bytes.{Bytes}
use Rattle.lists.proofs.Bytes.{take-bytes}
use Rattle.lists.proofs.Test.{and_both}
use Rattle.annexg.specs.Read.{State}
use Rattle.channel.specs.Channel.{sync, byte, proper, all_proper}
use Rattle.channel.proofs.Places.{proper-bytes}
use Rattle.laying.specs.Inner.{Next}
use Rattle.laying.specs.declared.Side.{Side}
use Rattle.layout.specs.Lengths.{frame_bits, frame_bytes, frame_stream}
use Rattle.levels.specs.Level.{magnitude}
use Rattle.levels.specs.Inner.{Room}
use Rattle.levels.specs.declared.Running.{Running}
use Rattle.levels.proofs.Steps.{room-le}
use Rattle.streams.specs.Inner.{Laid}
use Rattle.streams.specs.Streams.{Stream, fresh, lay, Two, one_lower, step, steps, opened, filled, frame_items, ended, sync_frame_of, stream_of, is_shown, buffer_after}
use Rattle.streams.proofs.Laid.{steps_laid, opened_laid}
use Rattle.streams.proofs.Range.{width, laid_room, laid_state}
use Rattle.streams.proofs.Shown.{shown_lower, stream_laid, shown_holds, other_keeps}
use Rattle.frames.specs.Inner.{Begins, Opened, Part, Shows, Ready, Stepped, Whole, Closes}
use Rattle.frames.specs.declared.Pair.{Pair}

-- ---- byte by byte

pub shows-opened :
    (r : Running) (n : ℕ) {q₁ q₂ : Side} {x y : List ℕ} → Part q₁ x 4 (lay (fresh r) (sync n) false)
    → Part q₂ y 4 (lay (fresh r) (sync n) true) → Shows (record { one = q₁; two = q₂; shared = 0 }) x y 4 (opened r n)
unfolding opened
shows-opened r n a b = record { one = a; two = b; agree = refl; early = omega arith }

steps_snoc : (t : Two) (bs : List ℕ) (b : ℕ) → steps t (bs ++ (b ∷ [])) ≡ step (steps t bs) b
unfolding steps
steps_snoc t [] b = refl
steps_snoc t (x ∷ bs) b = steps_snoc (step t x) bs b

steps_more :
    (t : Two) (bs : List ℕ) (i : ℕ) → i < length bs
    → steps t (take (i + 1) bs) ≡ step (steps t (take i bs)) (get_or bs i 0)
steps_more t bs i h =
    ap (λ (n : ℕ). steps t (take n bs)) (add-one i)
    ∙ ap (steps t) (take-suc bs i 0 h)
    ∙ steps_snoc t (take i bs) (get_or bs i 0)

module _ {p : Pair} {x y bs : List ℕ} where
  pub stepped_none : Stepped p x y bs 0 p x y
  unfolding steps
  stepped_none = record { shows = λ t s. s }

  pub stepped_more :
      {i : ℕ} {q q₁ : Pair} {v w v₁ w₁ : List ℕ} → i < length bs → Stepped p x y bs i q v w
      → ((t : Two) → Shows q v w (4 + 2 * i) t → Shows q₁ v₁ w₁ (4 + 2 * i + 2) (step t (get_or bs i 0)))
      → Stepped p x y bs (i + 1) q₁ v₁ w₁
  stepped_more {i} {q} {q₁} {v} {w} {v₁} {w₁} h f g =
      record {
        shows = λ t s.
            let e : 4 + 2 * i + 2 ≡ 4 + 2 * (i + 1) = omega arith in
            let more = g (steps t (take i bs)) (f.shows t s) in
            subst (λ (n : ℕ). Shows q₁ v₁ w₁ n (steps t (take (i + 1) bs))) e
            (subst (Shows q₁ v₁ w₁ (4 + 2 * i + 2)) (sym (steps_more t bs i h)) more);
      }

-- ---- a step may be made before each of the 91 bytes

width_map : (bs : List ℕ) → width (map byte bs) ≡ length bs
unfolding width
width_map [] = refl
width_map (b ∷ bs) = ap suc (width_map bs)

module _ {r : Running} {n : ℕ} (g : Begins r n) (bs : List ℕ) (hb : Bytes bs) (i : ℕ) (h : i < frame_bytes) where
  is_width : width (frame_items n (take i bs)) ≤ 2 + i
  unfolding width
  is_width = omega (arith, width_map (take i bs), length-take i bs)

  is-proper : T (all_proper (frame_items n (take i bs)))
  unfolding all_proper
  is-proper =
      and_both (proper (sync n)) (all_proper (map byte (take i bs))) (lt→ltb n 8 g.code)
      (proper-bytes (take i bs) (take-bytes i bs hb))

  side_next :
      (d : Side) (x : List ℕ) (at : ℕ) (m : Stream) → Part d x at m → Laid r (frame_items n (take i bs)) m
      → at + 1 < length x → Next d at x
  side_next d x at m p l k =
      let items = frame_items n (take i bs) in
      let state = laid_state r items m l is-proper g.state in
      let room = room-le r (16 * (2 + i) + 16) frame_bits (omega arith) g.room in
      record {
        state = subst (λ (z : Running). State z.state) (sym p.running) state;
        room = subst (λ (z : Running). Room z 16) (sym p.running) (laid_room r items m (2 + i) 16 l room is_width);
        long = k;
      }

  ready_shown :
      {p : Pair} {x y : List ℕ} → length x ≡ frame_stream → length y ≡ frame_stream
      → Shows p x y (4 + 2 * i) (steps (opened r n) (take i bs)) → Ready p (4 + 2 * i) x y
  ready_shown {p} {x} {y} lx ly s =
      let t = steps (opened r n) (take i bs) in
      let l = steps_laid r (sync n ∷ []) (opened r n) (take i bs) (opened_laid r n) in
      record {
        one = side_next p.one x (4 + 2 * i) t.one s.one l.first (omega arith);
        two = side_next p.two y (4 + 2 * i) t.two s.two l.second (omega arith);
        early = s.early;
        agree = s.agree;
      }

pub stepped_ready :
    {p₀ p : Pair} {x₀ y₀ x y bs : List ℕ} {i : ℕ} → Opened p₀ x₀ y₀ → Bytes bs → i < frame_bytes
    → length x ≡ frame_stream → length y ≡ frame_stream → Stepped p₀ x₀ y₀ bs i p x y → Ready p (4 + 2 * i) x y
stepped_ready {bs = bs} {i = i} o hb h lx ly f =
    ready_shown o.begins bs hb i h lx ly (f.shows (opened o.start o.code) o.shows)

-- all 91 bytes are laid: each buffer is the whole of its stream
pub stepped_whole :
    (r : Running) (n : ℕ) {p₀ p : Pair} {x₀ y₀ x y bs : List ℕ} → Stepped p₀ x₀ y₀ bs frame_bytes p x y
    → Shows p₀ x₀ y₀ 4 (opened r n) → length bs ≡ frame_bytes → length x ≡ frame_stream → length y ≡ frame_stream
    → Whole p.one.running x (filled r n bs).one × Whole p.two.running y (filled r n bs).two
stepped_whole r n {p₀} {p} {x₀} {y₀} {x} {y} {bs} f s lb lx ly =
    let all : take frame_bytes bs ≡ bs = take_all frame_bytes bs (omega (arith, lb)) in
    let w : Shows p x y frame_stream (filled r n bs) =
    subst (λ (z : List ℕ). Shows p x y frame_stream (steps (opened r n) z)) all (f.shows (opened r n) s) in
    let one : take frame_stream x ≡ x = take_all frame_stream x (omega (arith, lx)) in
    let two : take frame_stream y ≡ y = take_all frame_stream y (omega (arith, ly)) in (
      record { running = w.one.running; bytes = sym one ∙ w.one.bytes },
      record { running = w.two.running; bytes = sym two ∙ w.two.bytes },
    )

-- ---- the frame's end

-- which stream is lower, by the running records of both
pub lower-is :
    (r : Running) (n : ℕ) (bs : List ℕ) {one two : Running} {x y : List ℕ} {f : Bool} (l : Bool)
    → Whole one x (filled r n bs).one → Whole two y (filled r n bs).two
    → f ≡ leb (magnitude one.dsv) (magnitude two.dsv) → f ≡ l → one_lower (filled r n bs) ≡ l
lower-is r n bs l p q e h =
    sym (ap₂ (λ (u v : Running). leb (magnitude u.dsv) (magnitude v.dsv)) p.running q.running) ∙ sym e ∙ h

-- x is the buffer of Stream 1 (`true`) or of Stream 2 (`false`), `running` its running record
module _ (r : Running) (n : ℕ) (bs : List ℕ) (first : Bool) {running : Running} {x : List ℕ}
    (w : Whole running x (stream_of first (filled r n bs))) where
  -- it is not shown
  pub buffer_keeps : is_shown first (filled r n bs) ≡ false → x ≡ buffer_after first r n bs
  buffer_keeps e = w.bytes ∙ sym (other_keeps r n bs first e)

  -- it is shown, and became y at the frame's end
  module _ (e : is_shown first (filled r n bs) ≡ true) {y : List ℕ} {q : Running} (k : Closes r n running x y q) where
    is_shown_lem : Whole q y (sync_frame_of r n bs)
    unfolding sync_frame_of
    is_shown_lem =
        subst (λ (m : Stream). Whole q y (ended r n bs m)) (shown_lower first (filled r n bs) e)
        (k.so bs (stream_of first (filled r n bs)) (stream_laid r n bs first) w)

    pub buffer_shows : y ≡ buffer_after first r n bs
    buffer_shows = is_shown_lem.bytes ∙ sym (shown_holds r n bs first e)

    pub running_shown : q ≡ (sync_frame_of r n bs).running
    running_shown = is_shown_lem.running
