-- Sums over numbers that follow one another: in parts (sum-append, sum_parts, sum_weave), of functions that are alike or in order (sum_same, sum-order), of a sum
-- and a multiple (sum-add, sum_times); and where a sum is not 0, one of its terms is not (sum-some). Counts are such sums.
-- Assumes nothing.
use mathlib.Core.Path.{◌≡◌, refl, ap, ap₂, ◌∙◌}
use Prim.Native.Nat.{ℕ, zero, suc, ◌+◌, ◌*◌, ◌≤◌, ◌<◌, suc-le-suc}
use native.Mathlib.Nat.{mul-add}
use native.Mathlib.Omega.{arith}
use Rattle.lists.specs.Count.{sum_from}

-- ---- in parts

pub sum-append : (f : ℕ → ℕ) (k a b : ℕ) → sum_from f k (a + b) ≡ sum_from f k a + sum_from f (k + a) b
sum-append f k zero b =
    let e : 0 + b ≡ b = omega arith in
    let h : k + 0 ≡ k = omega arith in
    rw (e, h) (omega arith)
sum-append f k (suc a) b =
    let e : suc a + b ≡ suc (a + b) = omega arith in
    let h : k + suc a ≡ suc k + a = omega arith in
    let i = sum-append f (suc k) a b in
    rw (e, h) (omega arith)

pub sum_same : (f g : ℕ → ℕ) (k l n : ℕ) → ((i : ℕ) → i < n → f (k + i) ≡ g (l + i)) → sum_from f k n ≡ sum_from g l n
sum_same f g k l zero h = refl
sum_same f g k l (suc n) h =
    ap₂ (λ (x y : ℕ). x + y)
    (ap f (omega arith) ∙ h 0 (omega arith) ∙ ap g (omega arith))
    (sum_same f g (suc k) (suc l) n (λ i j. ap f (omega arith) ∙ h (suc i) (suc-le-suc j) ∙ ap g (omega arith)))

-- m parts of n numbers each, from part k on
pub sum_parts : (f : ℕ → ℕ) (n k m : ℕ) → sum_from f (k * n) (m * n) ≡ sum_from (λ q. sum_from f (q * n) n) k m
sum_parts f n k zero =
    let e : 0 * n ≡ 0 = omega arith in
    rw e
sum_parts f n k (suc m) =
    let e : suc m * n ≡ n + m * n = omega arith in
    let h : k * n + n ≡ suc k * n = omega arith in
    let i = sum_parts f n (suc k) m in
    ap (sum_from f (k * n)) e ∙ sum-append f (k * n) n (m * n) ∙ ap (λ (x : ℕ). sum_from f (k * n) n + x) (ap (λ (x : ℕ). sum_from f x (m * n)) h ∙ i)

-- w rows of each of m frames, and one more row of each: in frames of w + 1 rows they are all
pub sum_weave :
    (t f g : ℕ → ℕ) (w : ℕ) → ((m i : ℕ) → i < w → f (m * w + i) ≡ t (m * suc w + i)) → ((m : ℕ) → g m ≡ t (m * suc w + w))
    → (m : ℕ) → sum_from f 0 (m * w) + sum_from g 0 m ≡ sum_from t 0 (m * suc w)
sum_weave t f g w hf hg zero =
    let e : 0 * w ≡ 0 = omega arith in
    let d : 0 * suc w ≡ 0 = omega arith in
    rw (e, d)
sum_weave t f g w hf hg (suc m) =
    let e : suc m * w ≡ m * w + w = omega arith in
    let d : suc m * suc w ≡ m * suc w + (w + 1) = omega arith in
    let h : suc m ≡ m + 1 = omega arith in
    let i = sum_weave t f g w hf hg m in
    let a = ap (sum_from f 0) e ∙ sum-append f 0 (m * w) w in
    let b = ap (sum_from g 0) h ∙ sum-append g 0 m 1 in
    let c = ap (sum_from t 0) d ∙ sum-append t 0 (m * suc w) (w + 1) ∙ ap (λ (x : ℕ). sum_from t 0 (m * suc w) + x) (sum-append t (0 + m * suc w) w 1) in
    let p : sum_from f (0 + m * w) w ≡ sum_from t (0 + m * suc w) w =
    sum_same f t (0 + m * w) (0 + m * suc w) w (λ j l. ap f (omega arith) ∙ hf m j l ∙ ap t (omega arith)) in
    let q : sum_from g (0 + m) 1 ≡ sum_from t (0 + m * suc w + w) 1 =
    sum_same g t (0 + m) (0 + m * suc w + w) 1 (λ j l. ap g (omega arith) ∙ hg m ∙ ap t (omega arith)) in
    omega arith

-- ---- term by term

pub sum-order : (f g : ℕ → ℕ) (k n : ℕ) → ((i : ℕ) → i < k + n → f i ≤ g i) → sum_from f k n ≤ sum_from g k n
sum-order f g k zero h = omega arith
sum-order f g k (suc n) h =
    let here = h k (omega arith) in
    let rest = sum-order f g (suc k) n (λ i l. h i (omega arith)) in
    omega arith

pub sum-add : (f g : ℕ → ℕ) (k n : ℕ) → sum_from (λ i. f i + g i) k n ≡ sum_from f k n + sum_from g k n
sum-add f g k zero = refl
sum-add f g k (suc n) = omega (arith, sum-add f g (suc k) n)

pub sum_times : (c : ℕ) (f : ℕ → ℕ) (k n : ℕ) → sum_from (λ i. c * f i) k n ≡ c * sum_from f k n
sum_times c f k zero = omega arith
sum_times c f k (suc n) = omega (arith, sum_times c f (suc k) n, mul-add c (f k) (sum_from f (suc k) n))

-- where a sum is not 0, one of its terms is not
pub sum-some : (f : ℕ → ℕ) (k n : ℕ) → 0 < sum_from f k n → (i : ℕ) × (i < n) × (0 < f (k + i))
sum-some f k zero h = absurd (omega arith)
sum-some f k (suc n) h = go (f k) refl (λ l. sum-some f (suc k) n l)
  where
    go : (x : ℕ) → f k ≡ x → (0 < sum_from f (suc k) n → (i : ℕ) × (i < n) × (0 < f (suc k + i))) → (i : ℕ) × (i < suc n) × (0 < f (k + i))
    go zero e rest =
        let later = rest (omega arith) in
        let same : suc k + later.0 ≡ k + suc later.0 = omega arith in
        (suc later.0, suc-le-suc later.1, rw same at later.2)
    go (suc x) e rest =
        let same : k + 0 ≡ k = omega arith in
        (0, omega arith, rw same (omega arith))
