-- A computed test, turned into its rule at each number or entry.
-- Assumes nothing.
use mathlib.Core.Path.{◌≡◌, refl, sym, ap, ap₂, subst, ◌∙◌}
use mathlib.Core.Bool.{Bool, true, false, false≢true, cond, ◌&&◌, ◌||◌}
use mathlib.Core.List.{List, [], ◌∷◌}
use mathlib.Core.Logic.{◌⊎◌, inl, inr}
use Prim.Native.Nat.{ℕ, zero, suc, ◌+◌, ◌<◌}
use native.Mathlib.Nat.{le_of_suc-le-suc, not-suc-le-zero, eq-or-lt_of_le, add-zero, zero-add, add-suc, suc-add}
use native.Mathlib.Omega.{arith}
use lib.Dec.{T}
use lib.ListN.{length, get_or}
use Rattle.lists.specs.Test.{below, every_from, every, last_below}

pub and_left : (a b : Bool) → T (a && b) → T a
and_left true b t = tt
and_left false b t = t

pub and_right : (a b : Bool) → T (a && b) → T b
and_right true b t = t
and_right false b t = absurd t

pub and_both : (a b : Bool) → T a → T b → T (a && b)
and_both true b t u = u
and_both false b t u = t

pub and_false : (a : Bool) → a && false ≡ false
and_false true = refl
and_false false = refl

pub truth : (b : Bool) → T b → b ≡ true
truth true t = refl
truth false t = absurd t

pub truth_of : (b : Bool) → b ≡ true → T b
truth_of b e = subst T (sym e) tt

pub below_at : (n : ℕ) (f : ℕ → Bool) → T (below n f) → (k : ℕ) → k < n → T (f k)
below_at zero f t k h = absurd (not-suc-le-zero h)
below_at (suc n) f t k h = go (eq-or-lt_of_le (le_of_suc-le-suc h)) (λ l. below_at n f (and_right (f n) (below n f) t) k l)
  where
    go : (k ≡ n) ⊎ (k < n) → (k < n → T (f k)) → T (f k)
    go (inl e) r = subst (λ (x : ℕ). T (f x)) (sym e) (and_left (f n) (below n f) t)
    go (inr l) r = r l

pub below_all : (n : ℕ) (f : ℕ → Bool) → ((k : ℕ) → k < n → T (f k)) → T (below n f)
below_all zero f h = tt
below_all (suc n) f h = and_both (f n) (below n f) (h n (omega arith)) (below_all n f (λ k l. h k (omega arith)))

pub below-same : (n : ℕ) (f g : ℕ → Bool) → ((k : ℕ) → k < n → f k ≡ g k) → below n f ≡ below n g
below-same zero f g h = refl
below-same (suc n) f g h = ap₂ ◌&&◌ (h n (omega arith)) (below-same n f g (λ k l. h k (omega arith)))

pub below_false : (n : ℕ) (f : ℕ → Bool) (k : ℕ) → k < n → f k ≡ false → below n f ≡ false
below_false n f k l e = go (below n f) refl
  where
    go : (b : Bool) → below n f ≡ b → b ≡ false
    go true q = absurd (false≢true (sym e ∙ truth (f k) (below_at n f (truth_of (below n f) q) k l)))
    go false q = refl

from : (f : ℕ → ℕ → Bool) (xs : List ℕ) (i : ℕ) → T (every_from f i xs) → (k : ℕ) → k < length xs → T (f (i + k) (get_or xs k 0))
from f [] i t k h = absurd (not-suc-le-zero h)
from f (x ∷ xs) i t zero h = subst (λ (m : ℕ). T (f m x)) (sym (add-zero i)) (and_left (f i x) (every_from f (suc i) xs) t)
from f (x ∷ xs) i t (suc k) h =
    subst (λ (m : ℕ). T (f m (get_or xs k 0))) (suc-add i k ∙ sym (add-suc i k))
    (from f xs (suc i) (and_right (f i x) (every_from f (suc i) xs) t) k (le_of_suc-le-suc h))

-- the rule of a table at each of its entries, from one test over the table
pub every-at : (f : ℕ → ℕ → Bool) (xs : List ℕ) → T (every f xs) → (k : ℕ) → k < length xs → T (f k (get_or xs k 0))
every-at f xs t k h = subst (λ (m : ℕ). T (f m (get_or xs k 0))) (zero-add k) (from f xs 0 t k h)

-- one of two tests passes
pub or_left : (a b : Bool) → T a → T (a || b)
or_left true b t = tt
or_left false b t = absurd t

pub or_right : (a b : Bool) → T b → T (a || b)
or_right true b t = tt
or_right false b t = t

-- neither does
pub or_none : (a b : Bool) → (a || b) ≡ false → (a ≡ false) × (b ≡ false)
or_none true b e = absurd (false≢true (sym e))
or_none false b e = (refl, e)

-- a test that is asked only where another passes
pub implied : (a b : Bool) → T a → T (cond a b true) → T b
implied true b t u = u
implied false b t u = absurd t

-- ---- the largest number that passes a test

-- where exactly one number passes the test, it is found
pub last_unique : (f : ℕ → Bool) (n b : ℕ) → b < n → f b ≡ true → ((k : ℕ) → k < n → f k ≡ true → k ≡ b) → last_below f n ≡ b
unfolding last_below
last_unique f zero b l e u = absurd (not-suc-le-zero l)
last_unique f (suc n) b l e u = go (f n) refl (eq-or-lt_of_le (le_of_suc-le-suc l)) (λ k. last_unique f n b k e (λ j m. u j (omega arith)))
  where
    go : (t : Bool) → f n ≡ t → (b ≡ n) ⊎ (b < n) → (b < n → last_below f n ≡ b) → elim t [ true ↦ n | false ↦ last_below f n ] ≡ b
    go true q c r = u n (omega arith) q
    go false q (inl p) r = absurd (false≢true (sym q ∙ ap f (sym p) ∙ e))
    go false q (inr k) r = r k
