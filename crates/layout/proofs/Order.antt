-- Recording order: where the rows of a block move, and back.
-- Assumes nothing.
use mathlib.Core.Path.{◌≡◌, refl, sym, ap, ap₂, ◌∙◌}
use mathlib.Core.Bool.{Bool, true, false, cond}
use Prim.Native.Nat.{ℕ, ◌+◌, ◌*◌, ◌-◌, ◌/◌, ◌%◌, ◌<◌, ◌≤◌}
use native.Mathlib.Omega.{arith}
use borrow.Author.Tests.{ltb-true, ltb-false, leb-true, leb-false, eqb-true, eq-eqb, lt-ltb, le-ltb, le-leb, lt-leb}
use lib.Dec.{eqb, leb, ltb}
use Rattle.lists.specs.Count.{bit, sum_from, count_from}
use Rattle.lists.proofs.Sum.{sum-append, sum_same, sum_weave}
use Rattle.lists.proofs.Test.{last_unique}
use Rattle.layout.specs.Lengths.{row_count, data_rows}
use Rattle.layout.specs.Rows.{recording_row, original_row}

pub recording_low : (i : ℕ) → i < data_rows → recording_row i ≡ i + i / 12
unfolding recording_row
recording_low i h = rw (le-leb i 191 (omega arith))

pub recording_high : (i : ℕ) → data_rows ≤ i → recording_row i ≡ 13 * (i - 191) - 1
unfolding recording_row
recording_high i h = rw (lt-leb i 191 (omega arith))

-- row r of frame k, r below 12
pub recording_row_lem : (k r : ℕ) → k < 16 → r < 12 → recording_row (12 * k + r) ≡ 13 * k + r
recording_row_lem k r h l = recording_low (12 * k + r) (omega arith) ∙ omega arith

pub recording_lt : (i : ℕ) → i < row_count → recording_row i < row_count
recording_lt i h = go (leb i 191) refl
  where
    go : (b : Bool) → leb i 191 ≡ b → recording_row i < row_count
    go true e =
        let l : i ≤ 191 = leb-true i 191 e in
        omega (arith, recording_low i (omega arith))
    go false e =
        let l : 191 < i = leb-false i 191 e in
        omega (arith, recording_high i (omega arith))

-- the way back in numbers: recording row 13 k + r is row r of frame k for r below 12, and outer parity row k for r = 12
unfoldable row_before : ℕ → ℕ
row_before q = cond (ltb (q % 13) 12) (q / 13 * 12 + q % 13) (data_rows + q / 13)

before-low : (q : ℕ) → q % 13 < 12 → row_before q ≡ q / 13 * 12 + q % 13
unfolding row_before
before-low q h = rw (lt-ltb (q % 13) 12 h)

before-high : (q : ℕ) → 12 ≤ q % 13 → row_before q ≡ data_rows + q / 13
unfolding row_before
before-high q h = rw (le-ltb (q % 13) 12 h)

before_recording : (i : ℕ) → i < row_count → row_before (recording_row i) ≡ i
before_recording i h = go (leb i 191) refl
  where
    go : (b : Bool) → leb i 191 ≡ b → row_before (recording_row i) ≡ i
    go true e =
        let l : i ≤ 191 = leb-true i 191 e in
        ap row_before (recording_low i (omega arith)) ∙ before-low (i + i / 12) (omega arith) ∙ omega arith
    go false e =
        let l : 191 < i = leb-false i 191 e in
        ap row_before (recording_high i (omega arith)) ∙ before-high (13 * (i - 191) - 1) (omega arith) ∙ omega arith

-- no two rows move to one place, so that the row that moved there is found
pub original_recording : (i : ℕ) → i < row_count → original_row (recording_row i) ≡ i
unfolding original_row
original_recording i h =
    last_unique (λ k. eqb (recording_row k) (recording_row i)) row_count i h (eq-eqb (recording_row i) (recording_row i) refl)
    (λ k l e. sym (before_recording k l) ∙ ap row_before (eqb-true (recording_row k) (recording_row i) e) ∙ before_recording i h)

pub original_low : (q : ℕ) → q < row_count → q % 13 < 12 → original_row q ≡ q / 13 * 12 + q % 13
original_low q h l =
    let e : recording_row (q / 13 * 12 + q % 13) ≡ q = recording_low (q / 13 * 12 + q % 13) (omega arith) ∙ omega arith in
    ap original_row (sym e) ∙ original_recording (q / 13 * 12 + q % 13) (omega arith)

pub original_high : (q : ℕ) → q < row_count → 12 ≤ q % 13 → original_row q ≡ data_rows + q / 13
original_high q h l =
    let e : recording_row (data_rows + q / 13) ≡ q = recording_high (data_rows + q / 13) (omega arith) ∙ omega arith in
    ap original_row (sym e) ∙ original_recording (data_rows + q / 13) (omega arith)

-- every place has a row that moves there
pub recording_original : (q : ℕ) → q < row_count → (original_row q < row_count) × (recording_row (original_row q) ≡ q)
recording_original q h = go (ltb (q % 13) 12) refl
  where
    go : (b : Bool) → ltb (q % 13) 12 ≡ b → (original_row q < row_count) × (recording_row (original_row q) ≡ q)
    go true e =
        let l : q % 13 < 12 = ltb-true (q % 13) 12 e in
        let o = original_low q h l in
        (omega arith, ap recording_row o ∙ recording_low (q / 13 * 12 + q % 13) (omega arith) ∙ omega arith)
    go false e =
        let l : 12 ≤ q % 13 = ltb-false (q % 13) 12 e in
        let o = original_high q h l in
        (omega arith, ap recording_row o ∙ recording_high (data_rows + q / 13) (omega arith) ∙ omega arith)

-- a sum over the rows is the same in one order as in the other, where m is 16,
sum_by_frames : (f : ℕ → ℕ) (m : ℕ) → m ≡ 16 → sum_from (λ i. f (recording_row i)) 0 (m * 12 + m) ≡ sum_from f 0 (m * 13)
sum_by_frames f m e =
    sum-append (λ i. f (recording_row i)) 0 (m * 12) m
    ∙ ap₂ (λ (x y : ℕ). x + y)
    (sum_same (λ i. f (recording_row i)) (λ i. f (i + i / 12)) 0 0 (m * 12) (λ i l. ap f (recording_low (0 + i) (omega arith))))
    (sum_same (λ i. f (recording_row i)) (λ k. f (k * 13 + 12)) (0 + m * 12) 0 m (λ i l. ap f (recording_high (0 + m * 12 + i) (omega arith) ∙ omega arith)))
    ∙ sum_weave f (λ i. f (i + i / 12)) (λ k. f (k * 13 + 12)) 12 (λ k i l. ap f (omega arith)) (λ k. refl) m

pub sum_recording : (f : ℕ → ℕ) → sum_from (λ i. f (recording_row i)) 0 row_count ≡ sum_from f 0 row_count
sum_recording f = sum_by_frames f 16 refl

-- and so as many of the rows pass a test
pub count_recording : (t : ℕ → Bool) → count_from (λ i. t (recording_row i)) 0 row_count ≡ count_from t 0 row_count
count_recording t = sum_recording (λ q. bit (t q))
