-- The test of a zero run by its cases (fits_low, -mid, -other, -thirteen), the bits of a stream one by one (bits_at), and the scan over them for zero runs: over a
-- ZERO (scan_zero), over a ONE (scan_one, scan_run, scan_counted), at the end (scan_end).
-- Assumes nothing.
use mathlib.Core.Path.{◌≡◌, refl, sym, ap, ◌∙◌}
use mathlib.Core.Bool.{Bool, true, false, ◌&&◌}
use mathlib.Core.List.{List, [], ◌∷◌}
use Prim.Native.Nat.{ℕ, zero, suc, ◌+◌, ◌*◌, ◌-◌, ◌/◌, ◌%◌, ◌<◌, ◌≤◌}
use native.Mathlib.Numerals.{add-one}
use native.Mathlib.Omega.{arith}
use borrow.Author.Tests.{ne_eqb, le-leb, lt-leb}
use lib.Dec.{eqb}
use lib.ListN.{length, get_or, drop, drop_of_length-le}
use lib.Seq.{drop-cons}
use Rattle.std.specs.Prelude.{Option, Some}
use Rattle.channel.specs.Bits.{bits_bytes, block_zero_run_fits, one_fits, zero_runs_from}
use Rattle.channel.proofs.Overlaps.{bits-long}
use Rattle.octets.specs.Halves.{bit_at}
use Rattle.layout.specs.Lengths.{frame_bits}

-- ---- the test, by the case of the zero run

pub fits_low : (i n : ℕ) → n < 2 → false ≡ block_zero_run_fits i n
fits_low i n h =
    let a : eqb n 13 ≡ false = ne_eqb n 13 (λ e. omega (arith, e)) in
    rw (lt-leb 2 n h, a) refl

pub fits_mid : (i n : ℕ) → 2 ≤ n → n ≤ 10 → true ≡ block_zero_run_fits i n
fits_mid i n h k = rw (le-leb 2 n h, le-leb n 10 k) refl

pub fits_other : (i n : ℕ) → 10 < n → (n ≡ 13 → ⊥) → false ≡ block_zero_run_fits i n
fits_other i n h k = rw (le-leb 2 n (omega arith), lt-leb n 10 h, ne_eqb n 13 k) refl

pub fits_thirteen : (i n : ℕ) → n ≡ 13 → eqb (i % frame_bits) 13 ≡ block_zero_run_fits i n
fits_thirteen i n h = rw h refl

-- ---- the scan

pub bits_at : (xs : List ℕ) (j : ℕ) → j < 8 * length xs → get_or (bits_bytes xs) j 0 ≡ bit_at xs j
unfolding bits_bytes bit_at
bits_at [] j h = absurd (omega arith)
bits_at (x ∷ xs) zero h = refl
bits_at (x ∷ xs) (suc zero) h = refl
bits_at (x ∷ xs) (suc (suc zero)) h = refl
bits_at (x ∷ xs) (suc (suc (suc zero))) h = refl
bits_at (x ∷ xs) (suc (suc (suc (suc zero)))) h = refl
bits_at (x ∷ xs) (suc (suc (suc (suc (suc zero))))) h = refl
bits_at (x ∷ xs) (suc (suc (suc (suc (suc (suc zero)))))) h = refl
bits_at (x ∷ xs) (suc (suc (suc (suc (suc (suc (suc zero))))))) h = refl
bits_at (x ∷ xs) (suc (suc (suc (suc (suc (suc (suc (suc j)))))))) h =
    let k = suc (suc (suc (suc (suc (suc (suc (suc j))))))) in
    let d : k / 8 ≡ suc (j / 8) = omega arith in
    let m : k % 8 ≡ j % 8 = omega arith in
    bits_at xs j (omega arith) ∙ rw (d, m) refl

module _ (xs : List ℕ) (last : Option ℕ) (j : ℕ) where
  pub scan_zero : j < 8 * length xs → bit_at xs j ≡ 0 → zero_runs_from last j (drop j (bits_bytes xs)) ≡ zero_runs_from last (j + 1) (drop (j + 1) (bits_bytes xs))
  unfolding zero_runs_from
  scan_zero h e =
      let l : j < length (bits_bytes xs) = omega (arith, bits-long xs) in
      rw (add-one j, drop-cons (bits_bytes xs) j 0 l, bits_at xs j h ∙ e) refl

  pub scan_one : j < 8 * length xs → bit_at xs j ≡ 1
      → zero_runs_from last j (drop j (bits_bytes xs)) ≡ (one_fits last j && zero_runs_from (Some j) (j + 1) (drop (j + 1) (bits_bytes xs)))
  unfolding zero_runs_from
  scan_one h e =
      let l : j < length (bits_bytes xs) = omega (arith, bits-long xs) in
      rw (add-one j, drop-cons (bits_bytes xs) j 0 l, bits_at xs j h ∙ e) refl

  pub scan_end : 8 * length xs ≤ j → zero_runs_from last j (drop j (bits_bytes xs)) ≡ true
  unfolding zero_runs_from
  scan_end h = rw (drop_of_length-le (bits_bytes xs) {i = j} (omega (arith, bits-long xs))) refl

-- the zero run that a ONE at bit j ends, where the last ONE stands at bit `one`
pub scan_run :
    (xs : List ℕ) (last : Option ℕ) (one j : ℕ) (fits : Bool) → j < 8 * length xs → bit_at xs j ≡ 1 → last ≡ Some one → fits ≡ block_zero_run_fits one (j - one - 1)
    → zero_runs_from last j (drop j (bits_bytes xs)) ≡ (fits && zero_runs_from (Some j) (j + 1) (drop (j + 1) (bits_bytes xs)))
scan_run xs last one j fits h e o f =
    let same : j - one - 1 ≡ j - suc one = omega arith in
    scan_one xs last j h e ∙ ap (λ (b : Bool). b && zero_runs_from (Some j) (j + 1) (drop (j + 1) (bits_bytes xs)))
    (ap (λ (l : Option ℕ). one_fits l j) o ∙ sym (f ∙ ap (block_zero_run_fits one) same))

-- the same where its n ZEROs were counted: the ONE before it stands at bit j - n - 1
pub scan_counted :
    (xs : List ℕ) (n j : ℕ) (fits : Bool) → j < 8 * length xs → n < j → bit_at xs j ≡ 1 → fits ≡ block_zero_run_fits (j - n - 1) n
    → zero_runs_from (Some (j - n - 1)) j (drop j (bits_bytes xs)) ≡ (fits && zero_runs_from (Some j) (j + 1) (drop (j + 1) (bits_bytes xs)))
scan_counted xs n j fits h m e f =
    let same : n ≡ j - (j - n - 1) - 1 = omega arith in
    scan_run xs (Some (j - n - 1)) (j - n - 1) j fits h e refl (f ∙ ap (block_zero_run_fits (j - n - 1)) same)
