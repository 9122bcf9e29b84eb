-- The definitions as loops compute them.
-- Assumes nothing.
use mathlib.Core.Path.{◌≡◌, refl, sym, ap, ap₂, ◌∙◌}
use mathlib.Core.Bool.{Bool, true, false, cond}
use mathlib.Core.List.{List, [], ◌∷◌}
use Prim.Native.Nat.{ℕ, zero, suc, ◌+◌, ◌*◌, ◌-◌, ◌<◌, ◌≤◌}
use native.Mathlib.Nat.{mul-le-mul_right}
use native.Mathlib.Numerals.{add-one}
use native.Mathlib.Omega.{arith}
use mathlib.Core.Logic.{dite}
use native.Mathlib.Decide.{ℕ_discrete}
use borrow.Author.Tests.{eq-eqb, ne_eqb}
use lib.ListN.{length, get_or, take, drop, replicate, drop_of_length-le, get_or-eq_default}
use lib.Seq.{drop-cons}
use Rattle.std.proofs.Common.{reverse}
use Rattle.std.specs.List.{fold}
use Rattle.std.proofs.lemmas.Grind.{reverse_onto}
use Rattle.std.proofs.lemmas.List.Sums.{fold_push}
use Rattle.lists.specs.Fill.{tabulate}
use Rattle.lists.proofs.Fill.{length-tabulate, get_d_tabulate}
use Rattle.field.specs.Field.{add, mul, pow}
use Rattle.field.proofs.Field.{add_assoc, add-zero, zero-add, mul-zero}
use Rattle.codes.specs.Inner.{at, dot, poly_at, Locator, without, without_marked, without_others, spread, error_value, change, mend_from}

-- ---- a key equation, from the front on

pub dot_start : (c : List ℕ) (S : ℕ → ℕ) (i : ℕ) → add 0 (dot (drop 0 c) S (i + 0)) ≡ dot c S i
dot_start c S i = zero-add (dot c S (i + 0)) ∙ ap (dot c S) (omega arith)

pub dot_next : (c : List ℕ) (S : ℕ → ℕ) (i j sum v : ℕ) → j < length c → v ≡ mul (get_or c j 0) (S (i + j))
    → add (add sum v) (dot (drop (j + 1) c) S (i + (j + 1))) ≡ add sum (dot (drop j c) S (i + j))
unfolding dot
dot_next c S i j sum v h e =
    add_assoc sum v (dot (drop (j + 1) c) S (i + (j + 1)))
    ∙ ap (add sum) (ap₂ add e (ap₂ (λ (n m : ℕ). dot (drop n c) S m) (add-one j) (omega arith)) ∙ sym (ap (λ (l : List ℕ). dot l S (i + j)) (drop-cons c j 0 h)))

pub dot_end : (c : List ℕ) (S : ℕ → ℕ) (i j sum : ℕ) → length c ≤ j → add sum (dot (drop j c) S (i + j)) ≡ sum
unfolding dot
dot_end c S i j sum h = ap (λ (l : List ℕ). add sum (dot l S (i + j))) (drop_of_length-le c h) ∙ add-zero sum

-- ---- the value of a polynomial, from the end on

pub poly-fold : (x : ℕ) (c : List ℕ) → fold (λ (v p : ℕ). add p (mul x v)) 0 (reverse c) ≡ poly_at c x
unfolding poly_at
poly-fold x [] = refl
poly-fold x (a ∷ c) =
    ap (fold (λ (v p : ℕ). add p (mul x v)) 0) (reverse_onto c a [])
    ∙ fold_push (λ (v p : ℕ). add p (mul x v)) 0 (reverse c) a ∙ ap (λ (v : ℕ). add a (mul x v)) (poly-fold x c)

-- ---- the marked places, taken out of the syndromes one after the other

marked_same : (f : ℕ → Bool) (n : ℕ) (S R : ℕ → ℕ) → ((i : ℕ) → S i ≡ R i) → (i : ℕ) → without_marked f n S i ≡ without_marked f n R i
unfolding without_marked
marked_same f zero S R h i = h i
marked_same f (suc n) S R h i = marked_same f n (cond (f n) (without (pow 2 n) S) S) (cond (f n) (without (pow 2 n) R) R) (each (f n)) i
  where
    each : (t : Bool) (j : ℕ) → cond t (without (pow 2 n) S) S j ≡ cond t (without (pow 2 n) R) R j
    each true j = unfold without in ap₂ (λ (a b : ℕ). add a (mul (pow 2 n) b)) (h (suc j)) (h j)
    each false j = h j

module _ (f : ℕ → Bool) (k : ℕ) (pos : 0 < k) (S : ℕ → ℕ) where
  next : suc (k - 1) ≡ k
  next = omega arith

  -- place k - 1 is marked, and its error is taken out,
  pub marked_take : f (k - 1) ≡ true → (R : ℕ → ℕ) → ((i : ℕ) → R i ≡ without (pow 2 (k - 1)) S i) → (i : ℕ) → without_marked f (k - 1) R i ≡ without_marked f k S i
  unfolding without_marked
  marked_take e R h i =
      marked_same f (k - 1) R (without (pow 2 (k - 1)) S) h i
      ∙ ap (λ (t : Bool). without_marked f (k - 1) (cond t (without (pow 2 (k - 1)) S) S) i) (sym e) ∙ ap (λ (n : ℕ). without_marked f n S i) next

  -- or it is not, and the syndromes stay
  pub marked_skip : f (k - 1) ≡ false → (i : ℕ) → without_marked f (k - 1) S i ≡ without_marked f k S i
  unfolding without_marked
  marked_skip e i =
      ap (λ (t : Bool). without_marked f (k - 1) (cond t (without (pow 2 (k - 1)) S) S) i) (sym e) ∙ ap (λ (n : ℕ). without_marked f n S i) next

-- where nothing is marked they stay
pub marked_none : (f : ℕ → Bool) (n : ℕ) (S : ℕ → ℕ) → ((k : ℕ) → f k ≡ false) → (i : ℕ) → without_marked f n S i ≡ S i
unfolding without_marked
marked_none f zero S h i = refl
marked_none f (suc n) S h i = ap (λ (t : Bool). without_marked f n (cond t (without (pow 2 n) S) S) i) (h n) ∙ marked_none f n S h i

dot-same : (c : List ℕ) (S R : ℕ → ℕ) → ((i : ℕ) → S i ≡ R i) → (i : ℕ) → dot c S i ≡ dot c R i
unfolding dot
dot-same [] S R h i = refl
dot-same (c ∷ cs) S R h i = ap₂ add (ap (mul c) (h i)) (dot-same cs S R h (suc i))

-- a locator for syndromes is one for the same syndromes
pub locator-same : (S R : ℕ → ℕ) (t : ℕ) (c : List ℕ) → ((i : ℕ) → S i ≡ R i) → Locator S t c → Locator R t c
locator-same S R t c h l = record { size = l.size; some = l.some; zeros = λ i k. sym (dot-same c S R h i) ∙ l.zeros i k }

-- ---- the scratch of the locator: as much of it as t errors need

pub take-zeros : (k n : ℕ) → k ≤ n → take k (replicate n 0) ≡ replicate {A = ℕ} k 0
take-zeros zero n h = refl
take-zeros (suc k) zero h = absurd (omega arith)
take-zeros (suc k) (suc n) h = ap (λ (l : List ℕ). 0 ∷ l) (take-zeros k n (omega arith))

pub pivots_fit : (t : ℕ) → t ≤ 8 → t * (t + 1) ≤ 72
pivots_fit t h = let a : t * (t + 1) ≤ 8 * (t + 1) = mul-le-mul_right (t + 1) h in omega arith

-- ---- the value of an error: the other errors taken out of the syndromes, one after the other

module _ (ks : List ℕ) (j l : ℕ) where
  pub others_skip : l ≡ j → (S : ℕ → ℕ) (i : ℕ) → without_others ks j (l + 1) S i ≡ without_others ks j l S i
  unfolding without_others
  others_skip e S i = rw (add-one l, eq-eqb l j e)

  pub spread_skip : l ≡ j → (x : ℕ) → spread ks j (l + 1) x ≡ spread ks j l x
  unfolding spread
  spread_skip e x = rw (add-one l, eq-eqb l j e)

  pub others_take : (l ≡ j → ⊥) → (S : ℕ → ℕ) (i : ℕ) → without_others ks j (l + 1) S i ≡ without (pow 2 (get_or ks l 0)) (without_others ks j l S) i
  unfolding without_others
  others_take e S i = rw (add-one l, ne_eqb l j e)

  pub spread-take : (l ≡ j → ⊥) → (x : ℕ) → spread ks j (l + 1) x ≡ mul (spread ks j l x) (add x (pow 2 (get_or ks l 0)))
  unfolding spread
  spread-take e x = rw (add-one l, ne_eqb l j e)

-- a list of syndromes with one error taken out, as a function
pub without_at : (y : ℕ) (s r : List ℕ) → r ≡ tabulate (without y (at s)) (length s) → (i : ℕ) → at r i ≡ without y (at s) i
unfolding without
without_at y s r e i = dite (ℕ_discrete (1 - (length s - i)) 0)
    (λ q. ap (λ (x : List ℕ). at x i) e ∙ get_d_tabulate (λ i. add (at s (suc i)) (mul y (at s i))) (length s) i (omega (arith, q)))
    (λ q.
    let l : length s ≤ i = omega (arith, q) in
    ap (λ (x : List ℕ). at x i) e ∙ get_or-eq_default (tabulate (λ i. add (at s (suc i)) (mul y (at s i))) (length s)) 0 (rw (length-tabulate (λ i. add (at s (suc i)) (mul y (at s i))) (length s)) l)
    ∙ sym (ap₂ (λ (a b : ℕ). add a (mul y b)) (get_or-eq_default s 0 (omega arith)) (get_or-eq_default s 0 l) ∙ ap (add 0) (mul-zero y) ∙ zero-add 0))

without-same : (y : ℕ) (S R : ℕ → ℕ) → ((i : ℕ) → S i ≡ R i) → (i : ℕ) → without y S i ≡ without y R i
unfolding without
without-same y S R h i = ap₂ (λ (a b : ℕ). add a (mul y b)) (h (suc i)) (h i)

pub others_next : (ks s r r' : List ℕ) (j l y : ℕ) → (l ≡ j → ⊥) → y ≡ pow 2 (get_or ks l 0) → r' ≡ tabulate (without y (at r)) (length r)
    → ((i : ℕ) → at r i ≡ without_others ks j l (at s) i) → (i : ℕ) → at r' i ≡ without_others ks j (l + 1) (at s) i
others_next ks s r r' j l y ne e t h i =
    without_at y r r' t i ∙ without-same y (at r) (without_others ks j l (at s)) h i
    ∙ ap (λ (x : ℕ). without x (without_others ks j l (at s)) i) e ∙ sym (others_take ks j l ne (at s) i)

-- ---- the word without its errors

pub mend_next : (S : ℕ → ℕ) (ks w : List ℕ) (j : ℕ) → j < length ks
    → mend_from S ks (j + 1) (length ks - (j + 1)) (change w (get_or ks j 0) (error_value S ks j)) ≡ mend_from S ks j (length ks - j) w
unfolding mend_from
mend_next S ks w j h =
    let e : length ks - j ≡ suc (length ks - (j + 1)) = omega arith in
    sym (ap (λ (n : ℕ). mend_from S ks j n w) e ∙ ap (λ (m : ℕ). mend_from S ks m (length ks - (j + 1)) (change w (get_or ks j 0) (error_value S ks j))) (sym (add-one j)))

pub mend_end : (S : ℕ → ℕ) (ks w : List ℕ) (j : ℕ) → length ks ≤ j → mend_from S ks j (length ks - j) w ≡ w
unfolding mend_from
mend_end S ks w j h =
    let e : length ks - j ≡ 0 = omega arith in
    ap (λ (n : ℕ). mend_from S ks j n w) e
