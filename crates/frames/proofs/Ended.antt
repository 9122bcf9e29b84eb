-- The frame's end: the other SYNC Code tried, and kept or not.
-- Assumes nothing.
use mathlib.Core.Path.{◌≡◌, refl, sym, ap, ap₂, subst, ◌∙◌}
use mathlib.Core.Bool.{Bool, true, false, not, cond, ◌&&◌}
use mathlib.Core.List.{List, [], ◌∷◌, ◌++◌, map}
use Prim.Native.Nat.{ℕ, ◌+◌, ◌-◌, ◌<◌, ◌≤◌}
use native.Mathlib.Numerals.{add-one}
use native.Mathlib.Omega.{arith}
use borrow.Author.Tests.{ltb-true, ltb-false, lt-ltb, le-ltb, eq-eqb, ne_eqb}
use lib.Dec.{T, eqb, ltb}
use lib.ListN.{length, get_or, take, drop, length-take}
use lib.Seq.{take-suc, take_all, drop-append-le}
use Rattle.annexg.specs.Read.{State}
use Rattle.annexg.specs.Sync.{code_for}
use Rattle.annexg.proofs.Sync.{codes_differ}
use Rattle.octets.specs.Halves.{packed, half_at, put_half}
use Rattle.channel.specs.Bits.{bits_all}
use Rattle.channel.specs.Channel.{byte, permitted, state_after}
use Rattle.octets.proofs.Halves.{half-packed, packed-length}
use Rattle.layout.specs.Lengths.{frame_halves, frame_stream}
use Rattle.levels.specs.Level.{zero_at, magnitude, level_after, dsv_after, running_after}
use Rattle.levels.specs.Inner.{Room}
use Rattle.levels.specs.declared.Running.{Running}
use Rattle.levels.proofs.Steps.{same-running, running-append, room_after}
use Rattle.streams.specs.Inner.{laid_by, Laid}
use Rattle.streams.specs.Streams.{Stream, fresh, lay_all, frame_items, other_first, other_code, beyond, changes, ended}
use Rattle.streams.proofs.Laid.{all_by, rest, laid_halves, laid_running, other_permitted}
use Rattle.frames.specs.Inner.{Whole, other_half, Closes}

-- ---- over 63 or under −64

ltb_same : (a b c e : ℕ) → (a < b → c < e) → (b ≤ a → e ≤ c) → ltb a b ≡ ltb c e
ltb_same a b c e f g = by (ltb a b) refl
  where
    by : (x : Bool) → ltb a b ≡ x → ltb a b ≡ ltb c e
    by true p = p ∙ sym (lt-ltb c e (f (ltb-true a b p)))
    by false p = p ∙ sym (le-ltb c e (g (ltb-false a b p)))

pub beyond-high : (d : ℕ) → zero_at + 63 < d → true ≡ beyond d
beyond-high d h = rw (lt-ltb (zero_at + 63) d h) refl

pub beyond-low : (d : ℕ) → d ≤ zero_at + 63 → ltb d (zero_at - 64) ≡ beyond d
beyond-low d h =
    rw (le-ltb (zero_at + 63) d h) (ltb_same d (zero_at - 64) (d + 64) zero_at (λ k. omega arith) (λ k. omega arith))

-- ---- counting anew: i half words are counted, of which the record a has the first

pub Recounted : Running → Running → List ℕ → ℕ → Type 0
Recounted a running s i = (hs : List ℕ) → s ≡ packed hs → running ≡ running_after a a.state (drop 1 (take i hs))

pub recount_one : (a : Running) (s : List ℕ) → Recounted a a s 1
unfolding Recounted bits_all level_after dsv_after
recount_one a s [] e = refl
recount_one a s (h ∷ hs) e = refl

halves_93 : (s hs : List ℕ) → length s ≡ frame_stream → s ≡ packed hs → length hs ≡ frame_halves
halves_93 s hs l e = omega (arith, ap length e, packed-length hs)

-- half word i more
drop-take-suc :
    (hs : List ℕ) (i : ℕ) → 1 ≤ i → i < length hs → drop 1 (take i hs) ++ (get_or hs i 0 ∷ []) ≡ drop 1 (take (i + 1) hs)
drop-take-suc hs i h k =
    sym (drop-append-le 1 (take i hs) (get_or hs i 0 ∷ []) (omega (arith, length-take i hs)))
    ∙ ap (drop 1) (sym (take-suc hs i 0 k) ∙ ap (λ (z : ℕ). take z hs) (sym (add-one i)))

pub recount_more :
    (a running r : Running) (s : List ℕ) (i w : ℕ) → 1 ≤ i → i < frame_halves → length s ≡ frame_stream → w ≡ half_at s i
    → r ≡ running_after running running.state (w ∷ []) → Recounted a running s i → Recounted a r s (i + 1)
unfolding Recounted
recount_more a running r s i w low high l we re f hs e =
    let n = halves_93 s hs l e in
    let d = drop 1 (take i hs) in
    let v : w ≡ get_or hs i 0 = we ∙ ap (λ (z : List ℕ). half_at z i) e ∙ half-packed hs i in
    re
    ∙ ap (λ (z : Running). running_after z z.state (w ∷ [])) (f hs e)
    ∙ running-append a a.state a.state d (w ∷ [])
    ∙ ap (running_after a a.state) (ap (λ (z : ℕ). d ++ (z ∷ [])) v ∙ drop-take-suc hs i low (omega arith))

pub recount_all :
    (r a running : Running) (s : List ℕ) (i h : ℕ) → i ≡ frame_halves → length s ≡ frame_stream
    → a ≡ running_after r r.state (h ∷ []) → Recounted a running s i
    → (hs : List ℕ) → s ≡ packed hs → running ≡ running_after r r.state (h ∷ drop 1 hs)
unfolding Recounted
recount_all r a running s i h e l ae f hs se =
    let n = halves_93 s hs l se in
    let d = drop 1 (take i hs) in
    f hs se
    ∙ ap (λ (z : Running). running_after z z.state d) ae
    ∙ running-append r r.state r.state (h ∷ []) d
    ∙ ap (λ (z : List ℕ). running_after r r.state (h ∷ drop 1 z)) (take_all i hs (omega arith))

-- one half word less
pub room_next :
    (running r : Running) (w k n : ℕ) → k ≡ 16 + n → Room running k
    → r ≡ running_after running running.state (w ∷ []) → Room r n
room_next running r w k n h g e =
    subst (λ (z : Running). Room z n) (sym e)
    (room_after running running.state n (w ∷ []) (subst (Room running) h g))

-- ---- a frame's stream, and the same with the other code

ended_is :
    (r : Running) (n : ℕ) (bs : List ℕ) (m : Stream) (x : Bool) → changes r n bs m ≡ x
    → cond x (other_code r n bs m) m ≡ ended r n bs m
unfolding ended
ended_is r n bs m x e = ap (λ (z : Bool). cond z (other_code r n bs m) m) (sym e)

changes-is :
    (r : Running) (n : ℕ) (bs : List ℕ) (m : Stream) (x y : Bool) → beyond m.running.dsv ≡ x
    → ltb (magnitude (other_code r n bs m).running.dsv) (magnitude m.running.dsv) ≡ y → changes r n bs m ≡ x && y
unfolding changes
changes-is r n bs m x y p q = ap₂ ◌&&◌ p q

-- not beyond
pub closes_near : {r low : Running} {n : ℕ} {x : List ℕ} → beyond low.dsv ≡ false → Closes r n low x x low
closes_near {r} {low} {n} {x} f =
    record {
      so = λ bs m l w.
          let near : beyond m.running.dsv ≡ false = ap (λ (z : Running). beyond z.dsv) (sym w.running) ∙ f in
          let e = ended_is r n bs m false (changes-is r n bs m false _ near refl) in
          record {
            running = w.running ∙ ap (λ (z : Stream). z.running) e;
            bytes = w.bytes ∙ ap (λ (z : Stream). packed z.halves) e;
          };
    }

-- what the code has found where it is beyond: the first half word h of the other code, and the record o that is counted anew with it
pub record Tried (r low o : Running) (n : ℕ) (x : List ℕ) (h : ℕ) : Type 0 where
  pub state : State r.state
  pub code : n < 8
  pub out : beyond low.dsv ≡ true
  pub h_is : h ≡ other_half r.state n x
  pub o_is : (hs : List ℕ) → x ≡ packed hs → o ≡ running_after r r.state (h ∷ drop 1 hs)

true_false : true ≡ false → ⊥
true_false e = subst T e tt

module _ {r low o : Running} {n : ℕ} {x : List ℕ} {h : ℕ} (t : Tried r low o n x h) where
  codes : eqb (code_for r.state n true) (code_for r.state n false) ≡ false
  codes =
      let s = r.state in
      ne_eqb (code_for s n true) (code_for s n false)
      (λ e. true_false (codes_differ s s n n true false t.state t.state t.code t.code e).1.1)

  other_half_lem : (c : Bool) → half_at x 0 ≡ code_for r.state n c → h ≡ code_for r.state n (not c)
  other_half_lem c e = t.h_is ∙ ap (λ (z : ℕ). pick (eqb z (code_for r.state n false))) e ∙ by c
    where
      pick : Bool → ℕ
      pick z = cond z (code_for r.state n true) (code_for r.state n false)

      by : (c : Bool) → pick (eqb (code_for r.state n c) (code_for r.state n false)) ≡ code_for r.state n (not c)
      by false = ap pick (eq-eqb (code_for r.state n false) (code_for r.state n false) refl)
      by true = ap pick codes

  module _ (bs : List ℕ) (m : Stream) (l : Laid r (frame_items n bs) m) (w : Whole low x m) (c : Bool) (ds : List Bool)
      (ce : m.choices ≡ c ∷ ds) where
    m_is : m ≡ laid_by r (frame_items n bs) (c ∷ ds)
    m_is = l.same ∙ ap (laid_by r (frame_items n bs)) ce

    x_is : x ≡ packed (code_for r.state n c ∷ rest bs ds)
    x_is = w.bytes ∙ ap packed (ap (λ (z : Stream). z.halves) m_is ∙ laid_halves r n bs c ds)

    h_other : h ≡ code_for r.state n (not c)
    h_other =
        other_half_lem c
        (ap (λ (z : List ℕ). half_at z 0) x_is ∙ half-packed (code_for r.state n c ∷ rest bs ds) 0)

    o_other : o ≡ running_after r r.state (code_for r.state n (not c) ∷ rest bs ds)
    o_other =
        t.o_is (code_for r.state n c ∷ rest bs ds) x_is
        ∙ ap (λ (z : ℕ). running_after r r.state (z ∷ rest bs ds)) h_other

    other_is : other_code r n bs m ≡ laid_by r (frame_items n bs) (not c ∷ ds)
    unfolding other_code
    other_is =
        let ok = subst (λ (z : List Bool). T (permitted r.state 0 (frame_items n bs) z)) ce l.ok in
        ap (λ (z : List Bool). lay_all (fresh r) (frame_items n bs) (other_first z)) ce
        ∙ all_by r (frame_items n bs) (not c ∷ ds) (other_permitted r.state n (map byte bs) (c ∷ ds) ok)

    other_running :
        (other_code r n bs m).running
        ≡ running_after r (state_after 1 (map byte bs) ds) (code_for r.state n (not c) ∷ rest bs ds)
    other_running = ap (λ (z : Stream). z.running) other_is ∙ laid_running r n bs (not c) ds

    changes_by :
        (y : Bool) → ltb (magnitude o.dsv) (magnitude low.dsv) ≡ y
        → cond y (other_code r n bs m) m ≡ ended r n bs m
    changes_by y e =
        let dsv : Running → ℕ = λ z. z.dsv in
        let own : m.running.dsv ≡ low.dsv = ap dsv (sym w.running) in
        let new : (other_code r n bs m).running.dsv ≡ o.dsv = ap dsv other_running ∙ sym (ap dsv o_other) in
        let smaller = ap₂ (λ (u v : ℕ). ltb (magnitude u) (magnitude v)) new own ∙ e in
        ended_is r n bs m y (changes-is r n bs m true y (ap beyond own ∙ t.out) smaller)

    low-state : low.state ≡ state_after 1 (map byte bs) ds
    low-state =
        ap (λ (z : Running). z.state) (w.running ∙ ap (λ (z : Stream). z.running) m_is ∙ laid_running r n bs c ds)

    new_whole :
        Whole (record { state = low.state; level = o.level; dsv = o.dsv }) (put_half x 0 h) (other_code r n bs m)
    new_whole =
        record {
          running =
              same-running low-state (ap (λ (z : Running). z.level) o_other) (ap (λ (z : Running). z.dsv) o_other)
              ∙ sym other_running;
          bytes =
              ap₂ (λ (z : List ℕ) (v : ℕ). put_half z 0 v) x_is h_other
              ∙ put_front (code_for r.state n c) (code_for r.state n (not c)) (rest bs ds)
              ∙ ap packed (sym (ap (λ (z : Stream). z.halves) other_is ∙ laid_halves r n bs (not c) ds));
        }
      where
        put_front : (a b : ℕ) (hs : List ℕ) → put_half (packed (a ∷ hs)) 0 b ≡ packed (b ∷ hs)
        put_front a b hs = unfold packed in refl

  none : {A : Type 0} (bs : List ℕ) (m : Stream) → Laid r (frame_items n bs) m → m.choices ≡ [] → A
  none bs m l e =
      absurd (unfold permitted in subst (λ (z : List Bool). T (permitted r.state 0 (frame_items n bs) z)) e l.ok)

  -- not smaller
  pub closes-same : magnitude low.dsv ≤ magnitude o.dsv → Closes r n low x x low
  closes-same k = record { so = λ bs m l w. by bs m l w m.choices refl }
    where
      by :
          (bs : List ℕ) (m : Stream) → Laid r (frame_items n bs) m → Whole low x m → (cs : List Bool) → m.choices ≡ cs
          → Whole low x (ended r n bs m)
      by bs m l w [] e = none bs m l e
      by bs m l w (c ∷ ds) e =
          let not-smaller = le-ltb (magnitude o.dsv) (magnitude low.dsv) k in
          subst (Whole low x) (changes_by bs m l w c ds e false not-smaller) w

  -- smaller: the buffer gets the other code, and the record is counted anew
  pub closes_new :
      {y : List ℕ} → magnitude o.dsv < magnitude low.dsv → y ≡ put_half x 0 h
      → Closes r n low x y (record { state = low.state; level = o.level; dsv = o.dsv })
  closes_new {y} k ye = record { so = λ bs m l w. by bs m l w m.choices refl }
    where
      by :
          (bs : List ℕ) (m : Stream) → Laid r (frame_items n bs) m → Whole low x m → (cs : List Bool) → m.choices ≡ cs
          → Whole (record { state = low.state; level = o.level; dsv = o.dsv }) y (ended r n bs m)
      by bs m l w [] e = none bs m l e
      by bs m l w (c ∷ ds) e =
          let u = new_whole bs m l w c ds e in
          let smaller = lt-ltb (magnitude o.dsv) (magnitude low.dsv) k in
          subst (Whole (record { state = low.state; level = o.level; dsv = o.dsv }) y)
          (changes_by bs m l w c ds e true smaller) (record { running = u.running; bytes = ye ∙ u.bytes })
