-- Counts of one test (count-append, count_snoc, count-le, count_none, count_at, count_after, count-last), and of two or three beside each other (count_same, count_flip,
-- count-order, count_split, count-sum).
-- Assumes nothing.
use mathlib.Core.Path.{◌≡◌, refl, sym, ap, ap₂, ◌∙◌}
use mathlib.Core.Bool.{Bool, true, false, false≢true, not, ◌&&◌, ◌||◌}
use Prim.Native.Nat.{ℕ, zero, suc, ◌+◌, ◌≤◌, ◌<◌, suc-le-suc}
use native.Mathlib.Omega.{arith}
use borrow.Author.Tests.{ne_eqb, lt-leb, eqb-true}
use lib.Dec.{T, eqb, leb}
use Rattle.lists.specs.Count.{bit, count_from}
use Rattle.lists.proofs.Sum.{sum-append, sum_same, sum-order, sum-add}

-- ---- counts

pub bit_le : (b : Bool) → bit b ≤ 1
bit_le true = omega arith
bit_le false = omega arith

-- a digit as a test
pub bit_test : (b : Bool) → eqb (bit b) 1 ≡ b
bit_test true = refl
bit_test false = refl

pub bit_or : (a b : Bool) → bit (a || b) ≤ bit a + bit b
bit_or true b = omega arith
bit_or false b = omega arith

pub count-append : (f : ℕ → Bool) (k a b : ℕ) → count_from f k (a + b) ≡ count_from f k a + count_from f (k + a) b
count-append f = sum-append (λ i. bit (f i))

pub count_same : (f g : ℕ → Bool) (k l n : ℕ) → ((i : ℕ) → i < n → f (k + i) ≡ g (l + i)) → count_from f k n ≡ count_from g l n
count_same f g k l n h = sum_same (λ i. bit (f i)) (λ i. bit (g i)) k l n (λ i j. ap bit (h i j))

-- one number more, as a loop counts
pub count_snoc : (f : ℕ → Bool) (i : ℕ) → count_from f 0 (i + 1) ≡ count_from f 0 i + bit (f i)
count_snoc f i =
    let e : 0 + i ≡ i = omega arith in
    let h = rw e at (count-append f 0 i 1) in
    omega (arith, h)

pub count-le : (f : ℕ → Bool) (k n : ℕ) → count_from f k n ≤ n
count-le f k zero = omega arith
count-le f k (suc n) = omega (arith, bit_le (f k), count-le f (suc k) n)

pub count_none : (f : ℕ → Bool) (k n : ℕ) → ((i : ℕ) → i < n → f (k + i) ≡ false) → count_from f k n ≡ 0
count_none f k zero h = refl
count_none f k (suc n) h =
    ap₂ (λ (x y : ℕ). x + y) (ap bit (ap f (omega arith) ∙ h 0 (omega arith)))
    (count_none f (suc k) n (λ i l. ap f (omega arith) ∙ h (suc i) (suc-le-suc l)))

-- and where none is counted, none passes
pub none-counted : (f : ℕ → Bool) (k n : ℕ) → count_from f k n ≡ 0 → (i : ℕ) → i < n → f (k + i) ≡ false
none-counted f k zero e i l = absurd (omega arith)
none-counted f k (suc n) e zero l = ap f (omega arith) ∙ bit-none (f k) (omega arith)
  where
    bit-none : (b : Bool) → bit b ≡ 0 → b ≡ false
    bit-none true z = absurd (omega arith)
    bit-none false z = refl
none-counted f k (suc n) e (suc i) l = ap f (omega arith) ∙ none-counted f (suc k) n (omega arith) i (omega arith)

-- at most one number is a
pub count_at : (a k n : ℕ) → count_from (λ i. eqb i a) k n ≤ 1
count_at a k zero = omega arith
count_at a k (suc n) = go (eqb k a) refl (count_at a (suc k) n)
  where
    go : (b : Bool) → eqb k a ≡ b → count_from (λ i. eqb i a) (suc k) n ≤ 1 → bit b + count_from (λ i. eqb i a) (suc k) n ≤ 1
    go true e rest =
        let none = count_none (λ i. eqb i a) (suc k) n (λ i l. ne_eqb (suc k + i) a (λ q. omega (arith, eqb-true k a e, q))) in
        omega arith
    go false e rest = omega arith

-- of the first c + d numbers at most d are c or more
pub count_after : (c d : ℕ) → count_from (λ i. leb c i) 0 (c + d) ≤ d
count_after c d =
    let none = count_none (λ i. leb c i) 0 c (λ i l. lt-leb c (0 + i) (omega arith)) in
    omega (arith, count-append (λ i. leb c i) 0 c d, count-le (λ i. leb c i) (0 + c) d)

-- of n + 1 numbers at most the last passes
pub count-last : (f : ℕ → Bool) (k n : ℕ) → ((i : ℕ) → i < n → f (k + i) ≡ false) → count_from f k (n + 1) ≤ 1
count-last f k n h = omega (arith, count-append f k n 1, count_none f k n h, count-le f (k + n) 1)

-- one more number passes
pub count_flip :
    (f g : ℕ → Bool) (k n i : ℕ) → i < n → ((j : ℕ) → j < n → (j ≡ i → ⊥) → f (k + j) ≡ g (k + j)) → f (k + i) ≡ false → g (k + i) ≡ true
    → count_from g k n ≡ count_from f k n + 1
count_flip f g k zero i l h a b = absurd (omega arith)
count_flip f g k (suc n) zero l h a b =
    let x : f k ≡ false = ap f (omega arith) ∙ a in
    let y : g k ≡ true = ap g (omega arith) ∙ b in
    let e : count_from f (suc k) n ≡ count_from g (suc k) n =
    count_same f g (suc k) (suc k) n (λ j m. ap f (omega arith) ∙ h (suc j) (suc-le-suc m) (λ q. omega (arith, q)) ∙ ap g (omega arith)) in
    omega (arith, ap bit x, ap bit y)
count_flip f g k (suc n) (suc i) l h a b =
    let x : f k ≡ g k = ap f (omega arith) ∙ h 0 (omega arith) (λ q. omega (arith, q)) ∙ ap g (omega arith) in
    let e : count_from g (suc k) n ≡ count_from f (suc k) n + 1 =
    count_flip f g (suc k) n i (omega arith) (λ j m ne. ap f (omega arith) ∙ h (suc j) (suc-le-suc m) (λ q. ne (omega (arith, q))) ∙ ap g (omega arith))
    (ap f (omega arith) ∙ a) (ap g (omega arith) ∙ b) in
    omega (arith, ap bit x)

bit-order : (a b : Bool) → (T a → T b) → bit a ≤ bit b
bit-order true true h = omega arith
bit-order true false h = absurd (h tt)
bit-order false b h = omega arith

-- where a number passes one test only if it passes another, no more pass it
pub count-order : (f g : ℕ → Bool) (k n : ℕ) → ((i : ℕ) → i < k + n → T (f i) → T (g i)) → count_from f k n ≤ count_from g k n
count-order f g k n h = sum-order (λ i. bit (f i)) (λ i. bit (g i)) k n (λ i l. bit-order (f i) (g i) (h i l))

bit_split : (a b : Bool) → (b ≡ false → a ≡ false) → bit (not a && b) + bit a ≡ bit b
bit_split true true h = refl
bit_split true false h = absurd (false≢true (sym (h refl)))
bit_split false b h = omega arith

-- and those that pass the other are these and the ones that pass it alone
pub count_split :
    (f g : ℕ → Bool) (k n : ℕ) → ((i : ℕ) → i < k + n → g i ≡ false → f i ≡ false) → count_from (λ i. not (f i) && g i) k n + count_from f k n ≡ count_from g k n
count_split f g k zero h = refl
count_split f g k (suc n) h =
    let here = bit_split (f k) (g k) (h k (omega arith)) in
    let rest = count_split f g (suc k) n (λ i l. h i (omega arith)) in
    omega arith

-- where a number passes one test only if it passes one of two others, no more pass it than those together
pub count-sum :
    (f g h : ℕ → Bool) (k n : ℕ) → ((i : ℕ) → i < k + n → bit (f i) ≤ bit (g i) + bit (h i)) → count_from f k n ≤ count_from g k n + count_from h k n
count-sum f g h k n l =
    omega (arith, sum-order (λ i. bit (f i)) (λ i. bit (g i) + bit (h i)) k n l, sum-add (λ i. bit (g i)) (λ i. bit (h i)) k n)
