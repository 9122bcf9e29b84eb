-- Buffers: one copied over the other, and a half word put after those that are laid.
-- Assumes nothing.
use mathlib.Core.Path.{◌≡◌, sym, ap, ◌∙◌}
use mathlib.Core.Bool.{Bool, true, false}
use mathlib.Core.List.{List, [], ◌∷◌, ◌++◌, append_assoc}
use Prim.Native.Nat.{ℕ, suc, ◌+◌, ◌-◌, ◌/◌, ◌%◌, ◌<◌, ◌≤◌}
use native.Mathlib.Numerals.{add-one}
use native.Mathlib.Omega.{arith}
use lib.ListN.{length, take, drop, set, length-set, length-take, length-drop}
use lib.Seq.{sets, length-sets, take-add, take-suc-set, take-set-le}
use Rattle.octets.specs.Halves.{packed, put_half}
use Rattle.octets.proofs.Copies.{take-sets}
use Rattle.octets.proofs.Halves.{packed-append}
use Rattle.laying.specs.Inner.{Next}
use Rattle.laying.specs.declared.Side.{Side}
use Rattle.streams.specs.Streams.{Stream}
use Rattle.frames.specs.Inner.{Part, Ready, Evened}
use Rattle.frames.specs.declared.Pair.{Pair}

-- ---- a half word put at the end of what is laid

pub put_length : (s : List ℕ) (at w : ℕ) → length (put_half s at w) ≡ length s
put_length s at w = simp length-set

pub put_laid :
    (s : List ℕ) (at w : ℕ) (hs : List ℕ) → at + 1 < length s → take at s ≡ packed hs
    → take (at + 2) (put_half s at w) ≡ packed (hs ++ (w ∷ []))
unfolding packed
put_laid s at w hs h e =
    let high = w / 256 ∷ [] in
    let low = w % 256 ∷ [] in
    let x = set s at (w / 256) in
    let n : at + 2 ≡ suc (at + 1) = omega arith in
    let l : at + 1 < length x = simp length-set (omega arith) in
    let front : take (at + 1) x ≡ packed hs ++ high =
    ap (λ (k : ℕ). take k x) (add-one at)
    ∙ take-suc-set s at (w / 256) (omega arith)
    ∙ ap (λ (y : List ℕ). y ++ high) e in
    ap (λ (k : ℕ). take k (set x (at + 1) (w % 256))) n
    ∙ take-suc-set x (at + 1) (w % 256) l
    ∙ ap (λ (y : List ℕ). y ++ low) front
    ∙ append_assoc (packed hs) high low
    ∙ sym (packed-append hs (w ∷ []))

pub put_before : (s : List ℕ) (at w : ℕ) → take at (put_half s at w) ≡ take at s
put_before s at w =
    take-set-le at (set s at (w / 256)) (at + 1) (w % 256) (omega arith) ∙ take-set-le at s at (w / 256) (omega arith)

-- ---- one buffer copied over the other, up to the byte e, where they agree before the byte a

module _ (from to : List ℕ) (a e : ℕ) (h : a ≤ e) (lf : e ≤ length from) where
  pub part_length : length (take (e - a) (drop a from)) ≡ e - a
  part_length = length-take (e - a) (drop a from) ∙ omega (arith, length-drop a from)

  pub take-copied :
      e ≤ length to → take a from ≡ take a to → take e (sets to a (take (e - a) (drop a from))) ≡ take e from
  take-copied lt agree =
      let v = take (e - a) (drop a from) in
      let n : a + length v ≡ e = omega (arith, part_length) in
      let m : a + (e - a) ≡ e = omega arith in
      ap (λ (k : ℕ). take k (sets to a v)) (sym n)
      ∙ take-sets v to a (omega (arith, part_length))
      ∙ ap (λ (x : List ℕ). x ++ v) (sym agree)
      ∙ sym (take-add a (e - a) from)
      ∙ ap (λ (k : ℕ). take k from) m

-- ---- the three ways of evening two streams

same_front : {d : Side} {x y : List ℕ} {n : ℕ} {m : Stream} → take n y ≡ take n x → Part d x n m → Part d y n m
same_front e p = record { running = p.running; last = p.last; bytes = e ∙ p.bytes }

pub even_none :
    {copy first : Bool} {p : Pair} {x y : List ℕ} {at : ℕ} → copy ≡ false → Ready p at x y
    → Evened copy first p x y at p x y
even_none e r = record { shows = λ t s. rw e s; ready = r }

-- the buffer x and the end d of Stream 1 or of Stream 2 are copied over those of the other, whose buffer was y
module _ {at : ℕ} {d : Side} {x v : List ℕ} (shared : ℕ) (y : List ℕ) (n : Next d at x) (early : shared ≤ at)
    (agree : take shared x ≡ take shared y) (long : at + 1 < length y)
    (e : v ≡ sets y shared (take (at - shared) (drop shared x))) where
  copied_front : take at v ≡ take at x
  copied_front = ap (take at) e ∙ take-copied x y shared at early (omega (arith, n.long)) (omega arith) agree

  copied_next : Next d at v
  copied_next =
      record {
        state = n.state;
        room = n.room;
        long = omega (arith, ap length e, length-sets y shared (take (at - shared) (drop shared x)));
      }

pub even_first :
    {copy first : Bool} {p : Pair} {x y w : List ℕ} {at : ℕ} → copy ≡ true → first ≡ true → Ready p at x y
    → w ≡ sets y p.shared (take (at - p.shared) (drop p.shared x))
    → Evened copy first p x y at (record { one = p.one; two = p.one; shared = at }) x w
even_first {copy} {first} {p} {x} {y} {w} {at} c f r e =
    let front = copied_front p.shared y r.one r.early r.agree r.two.long e in
    record {
      shows = λ t s.
          rw (c, f) (record { one = s.one; two = same_front front s.one; agree = sym front; early = omega arith });
      ready =
          record {
            one = r.one;
            two = copied_next p.shared y r.one r.early r.agree r.two.long e;
            early = omega arith;
            agree = sym front;
          };
    }

pub even_second :
    {copy first : Bool} {p : Pair} {x y v : List ℕ} {at : ℕ} → copy ≡ true → first ≡ false → Ready p at x y
    → v ≡ sets x p.shared (take (at - p.shared) (drop p.shared y))
    → Evened copy first p x y at (record { one = p.two; two = p.two; shared = at }) v y
even_second {copy} {first} {p} {x} {y} {v} {at} c f r e =
    let front = copied_front p.shared x r.two r.early (sym r.agree) r.one.long e in
    record {
      shows = λ t s.
          rw (c, f) (record { one = same_front front s.two; two = s.two; agree = front; early = omega arith });
      ready =
          record {
            one = copied_next p.shared x r.two r.early (sym r.agree) r.one.long e;
            two = r.two;
            early = omega arith;
            agree = front;
          };
    }
