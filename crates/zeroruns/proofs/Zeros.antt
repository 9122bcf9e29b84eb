-- The ZEROs at the ends of a half word are those that the machine counts (trail-counted, lead-counted), so the zero run across a join (join_zeros_lem); and the
-- test of it by its cases (inside-low, inside-high).
-- Assumes nothing.
use mathlib.Core.Path.{◌≡◌, refl, sym, ap, ap₂, ◌∙◌}
use mathlib.Core.Bool.{false}
use mathlib.Core.List.{List, [], ◌∷◌}
use Prim.Native.Nat.{ℕ, zero, suc, ◌+◌, ◌*◌, ◌/◌, ◌%◌, ◌^◌, ◌<◌, ◌≤◌}
use native.Mathlib.Nat.{zero-add, one-mul, pow-suc, two-pow-succ, div-one, div-div-eq-div-mul, div-mul-le_self, div-lt_iff_lt-mul}
use native.Mathlib.Omega.{arith}
use borrow.Author.Tests.{le-leb, lt-leb}
use lib.Count.{count_leading_zeros, leading_length, leading_unique, count_trailing_zeros, under}
use lib.Dec.{leb}
use lib.Pow.{pow_pos}
use Rattle.annexg.specs.ZeroRuns.{bits_of, lead, trail, inside}
use Rattle.channel.specs.Channel.{join_zeros}

-- n of the bits from bit k on, the lowest first
abbrev low_bits : ℕ → ℕ → ℕ → List ℕ
low_bits k zero w = []
low_bits k (suc n) w = w / 2 ^ k % 2 ∷ low_bits (suc k) n w

under_lead : (b : ℕ) (bs : List ℕ) → under b (lead bs) ≡ lead (b ∷ bs)
under_lead zero bs = refl
under_lead (suc b) bs = refl

low-lead : (n k w : ℕ) → count_trailing_zeros n (w / 2 ^ k) ≡ lead (low_bits k n w)
unfolding count_trailing_zeros
low-lead zero k w = refl
low-lead (suc n) k w =
    let e : w / 2 ^ k / 2 ≡ w / 2 ^ suc k = div-div-eq-div-mul w (2 ^ k) 2 ∙ ap (λ (z : ℕ). w / z) (sym (pow-suc 2 k)) in
    ap (under (w / 2 ^ k % 2)) (ap (count_trailing_zeros n) e ∙ low-lead n (suc k) w) ∙ under_lead (w / 2 ^ k % 2) (low_bits (suc k) n w)

pub trail-counted : (w : ℕ) → count_trailing_zeros 16 w ≡ trail w
trail-counted w = ap (count_trailing_zeros 16) (sym (div-one w)) ∙ low-lead 16 0 w

-- one bit more in front, by that bit
module _ (n w : ℕ) where
  lead_zero : w < 2 ^ n → count_leading_zeros (suc n) w ≡ suc (count_leading_zeros n w)
  lead_zero h =
      let s = leading_length n w h in
      sym (leading_unique (suc n) w (suc (count_leading_zeros n w)) s.0 (omega (arith, s.1)) s.2 s.3)

  lead-one : 2 ^ n ≤ w → w < 2 ^ suc n → count_leading_zeros (suc n) w ≡ 0
  lead-one l h = sym (leading_unique (suc n) w 0 (suc n) (zero-add (suc n)) h (omega (arith, two-pow-succ n)))

  lead_more :
      (q : ℕ) → w / 2 ^ n ≡ q → w < 2 ^ suc n → (w < 2 ^ n → count_leading_zeros n w ≡ lead (bits_of n w)) → count_leading_zeros (suc n) w ≡ lead (q % 2 ∷ bits_of n w)
  lead_more zero e h i =
      let k : w / 2 ^ n < 1 = omega arith in
      let g : w < 2 ^ n = omega (arith, (div-lt_iff_lt-mul {x = w} {y = 1} (pow_pos n)).0 k) in
      lead_zero g ∙ ap suc (i g)
  lead_more (suc zero) e h i =
      let k : w / 2 ^ n * 2 ^ n ≡ 2 ^ n = ap (λ (z : ℕ). z * 2 ^ n) e ∙ one-mul (2 ^ n) in
      lead-one (omega (arith, div-mul-le_self w (2 ^ n))) h
  lead_more (suc (suc q)) e h i =
      let k : w / 2 ^ n < 2 = (div-lt_iff_lt-mul {x = w} {y = 2} (pow_pos n)).1 (omega (arith, two-pow-succ n)) in
      absurd (omega arith)

pub lead-counted : (n w : ℕ) → w < 2 ^ n → count_leading_zeros n w ≡ lead (bits_of n w)
unfolding count_leading_zeros
lead-counted zero w h = refl
lead-counted (suc n) w h = lead_more n w (w / 2 ^ n) refl h (lead-counted n w)

-- the test of a join, by the zero run
pub inside-low : (n k : ℕ) → k ≡ n → n < 2 → false ≡ inside 2 10 k
inside-low n k e h = rw (e, lt-leb 2 n h) refl

pub inside-high : (n k : ℕ) → k ≡ n → 2 ≤ n → leb n 10 ≡ inside 2 10 k
inside-high n k e h = rw (e, le-leb 2 n h) refl

pub join_zeros_lem : (l h : ℕ) → h < 65536 → join_zeros l h ≡ count_trailing_zeros 16 l + count_leading_zeros 16 h
unfolding join_zeros
join_zeros_lem l h k = ap₂ ◌+◌ (sym (trail-counted l)) (sym (lead-counted 16 h k))
