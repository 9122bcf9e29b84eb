-- The steps of the running record over half words, and what room they leave it.
-- Assumes nothing.
use mathlib.Core.Path.{◌≡◌, refl, sym, ap, ◌∙◌}
use mathlib.Core.List.{List, [], ◌∷◌, ◌++◌, append_assoc}
use Prim.Native.Nat.{ℕ, zero, suc, ◌+◌, ◌*◌, ◌-◌, ◌<◌, ◌≤◌}
use native.Mathlib.Omega.{arith}
use lib.ListN.{length, length-append}
use Rattle.annexg.specs.ZeroRuns.{bits_of}
use Rattle.channel.specs.Bits.{bits_all}
use Rattle.levels.specs.Level.{flipped, level_after, dsv_after, running_after}
use Rattle.levels.specs.Inner.{Room}
use Rattle.levels.specs.declared.Running.{Running}

pub same-running : {a b : Running} → a.state ≡ b.state → a.level ≡ b.level → a.dsv ≡ b.dsv → a ≡ b
same-running p q r = λ i. record { state = p i; level = q i; dsv = r i }

-- the record after halves, with another State
pub other_state :
    (a r : Running) (w n : ℕ) → r ≡ running_after a a.state (w ∷ [])
    → record { state = n; level = r.level; dsv = r.dsv } ≡ running_after a n (w ∷ [])
other_state a r w n e = same-running refl (ap (λ (x : Running). x.level) e) (ap (λ (x : Running). x.dsv) e)

-- ---- streams in parts

pub bits-append : (gs hs : List ℕ) → bits_all (gs ++ hs) ≡ bits_all gs ++ bits_all hs
unfolding bits_all
bits-append [] hs = refl
bits-append (g ∷ gs) hs =
    ap (λ (x : List ℕ). bits_of 16 g ++ x) (bits-append gs hs)
    ∙ sym (append_assoc (bits_of 16 g) (bits_all gs) (bits_all hs))

pub level-append : (l : ℕ) (xs ys : List ℕ) → level_after l (xs ++ ys) ≡ level_after (level_after l xs) ys
unfolding level_after
level-append l [] ys = refl
level-append l (x ∷ xs) ys = level-append (flipped l x) xs ys

pub dsv_append : (l d : ℕ) (xs ys : List ℕ) → dsv_after l d (xs ++ ys) ≡ dsv_after (level_after l xs) (dsv_after l d xs) ys
unfolding level_after dsv_after
dsv_append l d [] ys = refl
dsv_append l d (x ∷ xs) ys = dsv_append (flipped l x) (d + 2 * flipped l x - 1) xs ys

-- the record after one part and then another is that after both
pub running-append :
    (r : Running) (s t : ℕ) (gs hs : List ℕ) → running_after (running_after r s gs) t hs ≡ running_after r t (gs ++ hs)
running-append r s t gs hs =
    let e = sym (bits-append gs hs) in
    same-running refl
    (sym (level-append r.level (bits_all gs) (bits_all hs)) ∙ ap (level_after r.level) e)
    (sym (dsv_append r.level r.dsv (bits_all gs) (bits_all hs)) ∙ ap (dsv_after r.level r.dsv) e)

-- ---- room: each bit moves the DSV by one

pub flipped_small : (l b : ℕ) → l < 2 → flipped l b < 2
flipped_small l zero h = h
flipped_small l (suc b) h = omega arith

pub level_small : (l : ℕ) (bs : List ℕ) → l < 2 → level_after l bs < 2
unfolding level_after
level_small l [] h = h
level_small l (b ∷ bs) h = level_small (flipped l b) bs (flipped_small l b h)

pub dsv_near :
    (l d : ℕ) (bs : List ℕ) → l < 2 → length bs ≤ d
    → (dsv_after l d bs ≤ d + length bs) × (d ≤ dsv_after l d bs + length bs)
unfolding dsv_after
dsv_near l d [] h k = (omega arith, omega arith)
dsv_near l d (b ∷ bs) h k =
    let f = flipped_small l b h in
    let r = dsv_near (flipped l b) (d + 2 * flipped l b - 1) bs f (omega arith) in
    (omega (arith, r.0), omega (arith, r.1))

pub bits-length : (hs : List ℕ) → length (bits_all hs) ≡ 16 * length hs
unfolding bits_all
bits-length [] = refl
bits-length (h ∷ hs) = length-append (bits_of 16 h) (bits_all hs) ∙ omega (arith, bits-length hs)

pub room-le : (r : Running) (m n : ℕ) → m ≤ n → Room r n → Room r m
room-le r m n h g = record { level = g.level; low = omega (arith, g.low); high = omega (arith, g.high) }

-- what is left of the room after half words
pub room_after : (r : Running) (s n : ℕ) (hs : List ℕ) → Room r (16 * length hs + n) → Room (running_after r s hs) n
room_after r s n hs w =
    let m = bits-length hs in
    let k = dsv_near r.level r.dsv (bits_all hs) w.level (omega (arith, w.low)) in
    record {
      level = level_small r.level (bits_all hs) w.level;
      low = omega (arith, w.low, k.1);
      high = omega (arith, w.high, k.0);
    }
