-- What the two buffers hold after a frame (document 01: "Such a change is made in the buffer shown; the other buffer keeps its own stream"): `shown_holds`,
-- `other_keeps`, and `words_keep`, that a change is one of the SYNC Code alone. The stream shown has the lowest absolute DSV (`shown_lowest`).
-- Assumes nothing.
use mathlib.Core.Path.{◌≡◌, refl, sym, ap, subst, ◌∙◌}
use mathlib.Core.Bool.{Bool, true, false, not, cond, ◌&&◌}
use mathlib.Core.List.{List, [], ◌∷◌, map}
use Prim.Native.Nat.{ℕ, ◌≤◌}
use native.Mathlib.Omega.{arith}
use borrow.Author.Tests.{ltb-true, leb-true, leb-false}
use lib.Dec.{T, ltb}
use lib.ListN.{drop}
use Rattle.annexg.specs.Sync.{code_for}
use Rattle.octets.specs.Halves.{packed}
use Rattle.channel.specs.Channel.{sync, byte, permitted}
use Rattle.levels.specs.Level.{magnitude}
use Rattle.levels.specs.declared.Running.{Running}
use Rattle.streams.specs.Streams.{Stream, fresh, lay_all, Two, one_lower, lower, opened, filled, frame_items, other_first, beyond, other_code, changes, ended, sync_frame_of, stream_of, is_shown, buffer_after}
use Rattle.streams.specs.Inner.{laid_by, Laid}
use Rattle.streams.proofs.Laid.{all_by, rest, laid_halves, other_permitted, steps_laid, opened_laid}

-- the stream shown is the lower
pub shown_lower : (first : Bool) (t : Two) → is_shown first t ≡ true → stream_of first t ≡ lower t
unfolding lower
shown_lower true t e = ap (λ (b : Bool). cond b t.one t.two) (sym e)
shown_lower false t e = by (one_lower t) e
  where
    by : (b : Bool) → not b ≡ true → t.two ≡ cond b t.one t.two
    by true e = absurd (subst T (sym e) tt)
    by false e = refl

-- the lower of two streams has an absolute DSV of at most either's
pub lower_lowest : (first : Bool) (t : Two) → magnitude (lower t).running.dsv ≤ magnitude (stream_of first t).running.dsv
unfolding lower
lower_lowest first t = by first (one_lower t) refl
  where
    by : (first b : Bool) → one_lower t ≡ b → magnitude (cond b t.one t.two).running.dsv ≤ magnitude (stream_of first t).running.dsv
    by true true e = omega arith
    by false true e = leb-true (magnitude t.one.running.dsv) (magnitude t.two.running.dsv) e
    by true false e = omega (arith, leb-false (magnitude t.one.running.dsv) (magnitude t.two.running.dsv) e)
    by false false e = omega arith

module _ (r : Running) (n : ℕ) (bs : List ℕ) (m : Stream) where
  ended-lower : magnitude (ended r n bs m).running.dsv ≤ magnitude m.running.dsv
  unfolding ended changes
  ended-lower = by (beyond m.running.dsv) (ltb (magnitude (other_code r n bs m).running.dsv) (magnitude m.running.dsv)) refl
    where
      by : (x y : Bool) → ltb (magnitude (other_code r n bs m).running.dsv) (magnitude m.running.dsv) ≡ y
          → magnitude (cond (x && y) (other_code r n bs m) m).running.dsv ≤ magnitude m.running.dsv
      by true true e = omega (arith, ltb-true (magnitude (other_code r n bs m).running.dsv) (magnitude m.running.dsv) e)
      by true false e = omega arith
      by false y e = omega arith

  -- the halves after the first are the same with the other code
  other_words : Laid r (frame_items n bs) m → drop 1 (other_code r n bs m).halves ≡ drop 1 m.halves
  unfolding other_code
  other_words l = by m.choices refl
    where
      by : (cs : List Bool) → m.choices ≡ cs → drop 1 (lay_all (fresh r) (frame_items n bs) (other_first m.choices)).halves ≡ drop 1 m.halves
      by [] e = absurd (unfold permitted in subst (λ (z : List Bool). T (permitted r.state 0 (frame_items n bs) z)) e l.ok)
      by (c ∷ ds) e =
          let p = subst (λ (z : List Bool). T (permitted r.state 0 (frame_items n bs) z)) e l.ok in
          let q = other_permitted r.state n (map byte bs) (c ∷ ds) p in
          let other : (lay_all (fresh r) (frame_items n bs) (other_first m.choices)).halves ≡ code_for r.state n (not c) ∷ rest bs ds =
          ap (λ (z : List Bool). (lay_all (fresh r) (frame_items n bs) (other_first z)).halves) e ∙ ap (λ (z : Stream). z.halves) (all_by r (frame_items n bs) (not c ∷ ds) q)
          ∙ laid_halves r n bs (not c) ds in
          let own : m.halves ≡ code_for r.state n c ∷ rest bs ds =
          ap (λ (z : Stream). z.halves) (l.same ∙ ap (laid_by r (frame_items n bs)) e) ∙ laid_halves r n bs c ds in
          ap (drop 1) other ∙ sym (ap (drop 1) own)

  ended_words : Laid r (frame_items n bs) m → drop 1 (ended r n bs m).halves ≡ drop 1 m.halves
  unfolding ended
  ended_words l = by (changes r n bs m)
    where
      by : (x : Bool) → drop 1 (cond x (other_code r n bs m) m).halves ≡ drop 1 m.halves
      by true = other_words l
      by false = refl

drop-packed : (hs : List ℕ) → drop 2 (packed hs) ≡ packed (drop 1 hs)
unfolding packed
drop-packed [] = refl
drop-packed (h ∷ hs) = refl

module _ (r : Running) (n : ℕ) (bs : List ℕ) where
  -- each of the two streams takes permitted choices
  pub stream_laid : (first : Bool) → Laid r (frame_items n bs) (stream_of first (filled r n bs))
  stream_laid true = (steps_laid r (sync n ∷ []) (opened r n) bs (opened_laid r n)).first
  stream_laid false = (steps_laid r (sync n ∷ []) (opened r n) bs (opened_laid r n)).second

  -- the buffer that is not shown keeps its own stream, whether the SYNC Code of the stream shown is changed or not
  pub other_keeps : (first : Bool) → is_shown first (filled r n bs) ≡ false → buffer_after first r n bs ≡ packed (stream_of first (filled r n bs)).halves
  unfolding buffer_after
  other_keeps first e = let m = stream_of first (filled r n bs) in ap (λ (b : Bool). packed (cond b (ended r n bs m) m).halves) e

  -- the buffer shown holds the stream that the rule shows
  pub shown_holds : (first : Bool) → is_shown first (filled r n bs) ≡ true → buffer_after first r n bs ≡ packed (sync_frame_of r n bs).halves
  unfolding buffer_after sync_frame_of
  shown_holds first e =
      let m = stream_of first (filled r n bs) in
      ap (λ (b : Bool). packed (cond b (ended r n bs m) m).halves) e ∙ ap (λ (k : Stream). packed (ended r n bs k).halves) (shown_lower first (filled r n bs) e)

  -- of the two buffers the one of the lower stream is the one to select
  pub selected_shown : cond (one_lower (filled r n bs)) (buffer_after true r n bs) (buffer_after false r n bs) ≡ packed (sync_frame_of r n bs).halves
  selected_shown = by (one_lower (filled r n bs)) refl
    where
      by : (b : Bool) → one_lower (filled r n bs) ≡ b → cond b (buffer_after true r n bs) (buffer_after false r n bs) ≡ packed (sync_frame_of r n bs).halves
      by true e = shown_holds true e
      by false e = shown_holds false (ap not e)

  -- each buffer keeps its own stream after the first two bytes: a change is one of the SYNC Code, and of nothing else
  pub words_keep : (first : Bool) → drop 2 (buffer_after first r n bs) ≡ drop 2 (packed (stream_of first (filled r n bs)).halves)
  unfolding buffer_after
  words_keep first =
      let m = stream_of first (filled r n bs) in
      let b = is_shown first (filled r n bs) in
      drop-packed (cond b (ended r n bs m) m).halves ∙ ap packed (by b) ∙ sym (drop-packed m.halves)
    where
      by : (b : Bool) → let m = stream_of first (filled r n bs) in drop 1 (cond b (ended r n bs m) m).halves ≡ drop 1 m.halves
      by true = ended_words r n bs (stream_of first (filled r n bs)) (stream_laid first)
      by false = refl

  -- the absolute DSV of the stream shown is at most that of either stream
  pub shown_lowest : (first : Bool) → magnitude (sync_frame_of r n bs).running.dsv ≤ magnitude (stream_of first (filled r n bs)).running.dsv
  unfolding sync_frame_of
  shown_lowest first = omega (arith, ended-lower r n bs (lower (filled r n bs)), lower_lowest first (filled r n bs))
