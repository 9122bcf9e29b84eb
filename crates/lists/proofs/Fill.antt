-- Buffers that a loop fills or changes from the front on, one entry a turn. Holds for any f.
-- Assumes nothing.
use mathlib.Core.Path.{◌≡◌, refl, sym, ap, ◌∙◌}
use mathlib.Core.List.{List, ◌∷◌, ◌++◌}
use mathlib.Core.Logic.{dite}
use Prim.Native.Nat.{ℕ, zero, suc, ◌+◌, ◌<◌, ◌≤◌}
use native.Mathlib.Nat.{add-zero, add-suc, suc-add}
use native.Mathlib.Decide.{ℕ_discrete}
use native.Mathlib.Omega.{arith}
use lib.ListN.{get_or, set, length, take, drop, length-set, length-drop}
use lib.Seq.{ext_get_or, get_or-set_same, get_or-set_other, get_or-take, get_or-drop, length-take-le}
use Rattle.lists.specs.Fill.{tabulate_from, tabulate}

-- ---- lists given by a function

pub length-tabulate_from : (f : ℕ → ℕ) (k n : ℕ) → length (tabulate_from f k n) ≡ n
unfolding tabulate_from
length-tabulate_from f k zero = refl
length-tabulate_from f k (suc n) = ap suc (length-tabulate_from f (suc k) n)

pub get_or-tabulate_from : (f : ℕ → ℕ) (k n i : ℕ) → i < n → get_or (tabulate_from f k n) i 0 ≡ f (k + i)
unfolding tabulate_from
get_or-tabulate_from f k zero i h = absurd (omega arith)
get_or-tabulate_from f k (suc n) zero h = ap f (sym (add-zero k))
get_or-tabulate_from f k (suc n) (suc i) h = get_or-tabulate_from f (suc k) n i (omega arith) ∙ ap f (suc-add k i ∙ sym (add-suc k i))

pub length-tabulate : (f : ℕ → ℕ) (n : ℕ) → length (tabulate f n) ≡ n
length-tabulate f n = length-tabulate_from f 0 n

pub get_d_tabulate : (f : ℕ → ℕ) (n i : ℕ) → i < n → get_or (tabulate f n) i 0 ≡ f i
get_d_tabulate f n i h = get_or-tabulate_from f 0 n i h ∙ ap f (omega arith)

-- a list is known by its entries
pub is-tabulate : (f : ℕ → ℕ) (xs : List ℕ) (n : ℕ) → length xs ≡ n → ((i : ℕ) → i < n → get_or xs i 0 ≡ f i) → xs ≡ tabulate f n
is-tabulate f xs n e h =
    ext_get_or 0 xs (tabulate f n) (e ∙ sym (length-tabulate f n)) (λ i l. h i (omega arith) ∙ sym (get_d_tabulate f n i (omega arith)))

pub tabulate_self : (xs : List ℕ) (n : ℕ) → length xs ≡ n → tabulate (λ i. get_or xs i 0) n ≡ xs
tabulate_self xs n e = sym (is-tabulate (λ i. get_or xs i 0) xs n e (λ i l. refl))

-- ---- the loop's invariant: the entries below j are done, and those from j on are as they were

pub record Upto (f : ℕ → ℕ) (old xs : List ℕ) (j : ℕ) : Type 0 where
  pub same : length xs ≡ length old
  pub done : (k : ℕ) → k < j → get_or xs k 0 ≡ f k
  pub left : (k : ℕ) → j ≤ k → get_or xs k 0 ≡ get_or old k 0

pub upto_none : (f : ℕ → ℕ) (xs : List ℕ) → Upto f xs xs 0
upto_none f xs = record { same = refl; done = λ k l. absurd (omega arith); left = λ k l. refl }

pub upto_more : (f : ℕ → ℕ) (old xs : List ℕ) (j v : ℕ) → j < length xs → v ≡ f j → Upto f old xs j → Upto f old (set xs j v) (j + 1)
upto_more f old xs j v h e w = record {
  same = length-set xs j v ∙ w.same;
  done = λ k l. dite (ℕ_discrete k j) (λ q. rw q (get_or-set_same xs j v 0 h ∙ e)) (λ q. get_or-set_other xs j k v 0 q ∙ w.done k (omega (arith, q)));
  left = λ k l. get_or-set_other xs j k v 0 (λ q. omega (arith, q)) ∙ w.left k (omega arith);
}

pub upto_all : (f : ℕ → ℕ) (old xs : List ℕ) (n : ℕ) → length old ≡ n → Upto f old xs n → xs ≡ tabulate f n
upto_all f old xs n e w = is-tabulate f xs n (w.same ∙ e) (λ i h. w.done i h)

-- ---- parts of such lists

pub tabulate-same : (f g : ℕ → ℕ) (k l n : ℕ) → ((i : ℕ) → i < n → f (k + i) ≡ g (l + i)) → tabulate_from f k n ≡ tabulate_from g l n
tabulate-same f g k l n h =
    ext_get_or 0 (tabulate_from f k n) (tabulate_from g l n) (length-tabulate_from f k n ∙ sym (length-tabulate_from g l n))
    (λ i m. let j : i < n = omega (arith, length-tabulate_from f k n) in get_or-tabulate_from f k n i j ∙ h i j ∙ sym (get_or-tabulate_from g l n i j))

pub tabulate-append : (f : ℕ → ℕ) (k n m : ℕ) → tabulate_from f k n ++ tabulate_from f (k + n) m ≡ tabulate_from f k (n + m)
unfolding tabulate_from
tabulate-append f k zero m =
    let e : k + 0 ≡ k = omega arith in
    let g : 0 + m ≡ m = omega arith in
    rw (e, g)
tabulate-append f k (suc n) m =
    let e : k + suc n ≡ suc k + n = omega arith in
    let g : suc n + m ≡ suc (n + m) = omega arith in
    rw (e, g) (ap (λ (xs : List ℕ). f k ∷ xs) (tabulate-append f (suc k) n m))

-- a part of n from place j on
pub part_tabulate : (f : ℕ → ℕ) (k j n m : ℕ) → j + n ≤ m → take n (drop j (tabulate_from f k m)) ≡ tabulate_from f (k + j) n
part_tabulate f k j n m h =
    let d : n ≤ length (drop j (tabulate_from f k m)) = omega (arith, length-drop j (tabulate_from f k m), length-tabulate_from f k m) in
    let l : length (take n (drop j (tabulate_from f k m))) ≡ n = length-take-le n (drop j (tabulate_from f k m)) d in
    ext_get_or 0 (take n (drop j (tabulate_from f k m))) (tabulate_from f (k + j) n) (l ∙ sym (length-tabulate_from f (k + j) n))
    (λ i b. let a : i < n = omega (arith, l) in
    get_or-take n (drop j (tabulate_from f k m)) i 0 a ∙ get_or-drop j (tabulate_from f k m) i 0 ∙ get_or-tabulate_from f k m (j + i) (omega arith) ∙ ap f (omega arith)
    ∙ sym (get_or-tabulate_from f (k + j) n i a))
