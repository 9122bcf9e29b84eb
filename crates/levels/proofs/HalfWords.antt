-- The step over a half word, eight bits at a time by the table of levels, is the step bit by bit.
-- Assumes nothing.
use mathlib.Core.Path.{◌≡◌, refl, sym, ap, ◌∙◌}
use mathlib.Core.List.{List, [], ◌∷◌, ◌++◌, append-nil}
use Prim.Native.Nat.{ℕ, zero, suc, ◌+◌, ◌*◌, ◌-◌, ◌/◌, ◌%◌, ◌<◌, ◌≤◌}
use native.Mathlib.Omega.{arith}
use lib.ListN.{length, get_or}
use Rattle.lists.proofs.Fill.{get_d_tabulate}
use Rattle.annexg.specs.ZeroRuns.{bits_of}
use Rattle.channel.specs.Bits.{bits_all}
use Rattle.channel.proofs.RunZeroRuns.{half-bits}
use Rattle.levels.specs.Level.{flipped, level_after, dsv_after, running_after}
use Rattle.levels.specs.Inner.{at_one, byte_levels, level_table}
use Rattle.levels.specs.declared.Running.{Running}
use Rattle.levels.proofs.Steps.{same-running, level_small, level-append, flipped_small}

-- a bit at level ONE moves the DSV by 1, any other by -1
dsv_one : (l d : ℕ) (bs : List ℕ) → l < 2 → length bs ≤ d → dsv_after l d bs + length bs ≡ d + 2 * at_one l bs
unfolding dsv_after at_one
dsv_one l d [] h r = omega arith
dsv_one l d (b ∷ bs) h r =
    let k = flipped_small l b h in
    let i = dsv_one (flipped l b) (d + 2 * flipped l b - 1) bs k (omega (arith, r)) in
    omega (arith, i, k, r)

one-append : (l : ℕ) (xs ys : List ℕ) → at_one l (xs ++ ys) ≡ at_one l xs + at_one (level_after l xs) ys
unfolding at_one level_after
one-append l [] ys = omega arith
one-append l (x ∷ xs) ys = let e = one-append (flipped l x) xs ys in omega arith

-- ---- from the other level each bit is at the other level

flipped_other : (l b : ℕ) → flipped (1 - l) b ≡ 1 - flipped l b
flipped_other l zero = refl
flipped_other l (suc b) = refl

one_other : (l : ℕ) (bs : List ℕ) → l < 2 → at_one (1 - l) bs + at_one l bs ≡ length bs
unfolding at_one
one_other l [] h = refl
one_other l (b ∷ bs) h =
    let k = flipped_small l b h in
    let i = one_other (flipped l b) bs k in
    rw (flipped_other l b) (omega (arith, i, k))

level_other : (l : ℕ) (bs : List ℕ) → l < 2 → level_after (1 - l) bs + level_after l bs ≡ 1
unfolding level_after
level_other l [] h = omega arith
level_other l (b ∷ bs) h = rw (flipped_other l b) (level_other (flipped l b) bs (flipped_small l b h))

-- ---- a byte

one_most : (l : ℕ) (bs : List ℕ) → l < 2 → at_one l bs ≤ length bs
one_most l bs h = omega (arith, one_other l bs h)

levels_most : (l x : ℕ) → l < 2 → byte_levels l x ≤ 17
unfolding byte_levels
levels_most l x h =
    let n : length (bits_of 8 x) ≡ 8 = refl in
    omega (arith, one_most l (bits_of 8 x) h, level_small l (bits_of 8 x) h)

levels_other : (x : ℕ) → byte_levels 1 x ≡ 17 - byte_levels 0 x
unfolding byte_levels
levels_other x =
    let n : length (bits_of 8 x) ≡ 8 = refl in
    let o : at_one 1 (bits_of 8 x) + at_one 0 (bits_of 8 x) ≡ length (bits_of 8 x) = one_other 0 (bits_of 8 x) (omega arith) in
    let e : level_after 1 (bits_of 8 x) + level_after 0 (bits_of 8 x) ≡ 1 = level_other 0 (bits_of 8 x) (omega arith) in
    omega arith

-- the entry of the table, and what it gives from either level
level_entry : (d : List ℕ) (x : ℕ) → d ≡ level_table → x < 256 → get_or d x 0 ≡ byte_levels 0 x
unfolding level_table
level_entry d x e h = ap (λ (y : List ℕ). get_or y x 0) e ∙ get_d_tabulate (byte_levels 0) 256 x h

pub entry_most : (d : List ℕ) (x : ℕ) → d ≡ level_table → x < 256 → get_or d x 0 ≤ 17
entry_most d x e h = omega (arith, level_entry d x e h, levels_most 0 x (omega arith))

pub from_zero : (d : List ℕ) (l x : ℕ) → d ≡ level_table → x < 256 → l ≡ 0 → get_or d x 0 ≡ byte_levels l x
from_zero d l x e h z = level_entry d x e h ∙ ap (λ (k : ℕ). byte_levels k x) (sym z)

pub from_one : (d : List ℕ) (l x : ℕ) → d ≡ level_table → x < 256 → l ≡ 1 → 17 - get_or d x 0 ≡ byte_levels l x
from_one d l x e h z = ap (λ (k : ℕ). 17 - k) (level_entry d x e h) ∙ sym (levels_other x) ∙ ap (λ (k : ℕ). byte_levels k x) (sym z)

byte-level : (l x : ℕ) → l < 2 → byte_levels l x % 2 ≡ level_after l (bits_of 8 x)
unfolding byte_levels
byte-level l x h = omega (arith, level_small l (bits_of 8 x) h)

byte_ones : (l x : ℕ) → l < 2 → byte_levels l x / 2 ≡ at_one l (bits_of 8 x)
unfolding byte_levels
byte_ones l x h = omega (arith, level_small l (bits_of 8 x) h)

-- ---- a half word

one-half : (w : ℕ) → bits_all (w ∷ []) ≡ bits_of 8 (w / 256) ++ bits_of 8 (w % 256)
unfolding bits_all
one-half w = append-nil (bits_of 16 w) ∙ half-bits w

pub half_by_bytes :
    (a : Running) (w x y : ℕ) → a.level < 2 → 16 ≤ a.dsv → x ≡ byte_levels a.level (w / 256) → y ≡ byte_levels (x % 2) (w % 256)
    → record { state = a.state; level = y % 2; dsv = a.dsv + 2 * (x / 2 + y / 2) - 16 } ≡ running_after a a.state (w ∷ [])
half_by_bytes a w x y h r xe ye =
    let l = a.level in
    let bs = bits_of 8 (w / 256) in
    let cs = bits_of 8 (w % 256) in
    let m : x % 2 ≡ level_after l bs = ap (λ (z : ℕ). z % 2) xe ∙ byte-level l (w / 256) h in
    let k : level_after l bs < 2 = level_small l bs h in
    let f : y ≡ byte_levels (level_after l bs) (w % 256) = ye ∙ ap (λ (z : ℕ). byte_levels z (w % 256)) m in
    let o : x / 2 ≡ at_one l bs = ap (λ (z : ℕ). z / 2) xe ∙ byte_ones l (w / 256) h in
    let p : y / 2 ≡ at_one (level_after l bs) cs = ap (λ (z : ℕ). z / 2) f ∙ byte_ones (level_after l bs) (w % 256) k in
    let n : length (bs ++ cs) ≡ 16 = refl in
    let d = dsv_one l a.dsv (bs ++ cs) h (omega arith) in
    let g : a.dsv + 2 * (x / 2 + y / 2) - 16 ≡ dsv_after l a.dsv (bs ++ cs) = omega (arith, d, one-append l bs cs) in
    let e = sym (one-half w) in
    same-running refl
    (ap (λ (z : ℕ). z % 2) f ∙ byte-level (level_after l bs) (w % 256) k ∙ sym (level-append l bs cs) ∙ ap (level_after l) e)
    (g ∙ ap (dsv_after l a.dsv) e)
