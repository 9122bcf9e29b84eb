-- The syndromes without the errors at the marked places are those of a word in which these bytes are 0 and the others are 0 just where they were (without_marked_lem,
-- factor_zero, factor_nonzero), so that a locator for them has every other error's place for a root (marked_covered).
-- Assumes nothing.
use mathlib.Core.Path.{◌≡◌, refl, sym, ap, ap₂, subst, ◌∙◌}
use mathlib.Core.Bool.{Bool, true, false, not, cond, ◌&&◌, ◌||◌}
use mathlib.Core.List.{List, [], ◌∷◌}
use mathlib.Core.Logic.{◌≢◌, dite}
use Prim.Native.Nat.{ℕ, zero, suc, ◌+◌, ◌-◌, ◌<◌, ◌≤◌}
use native.Mathlib.Decide.{ℕ_discrete}
use native.Mathlib.Omega.{arith}
use native.Mathlib.Numerals.{add-one}
use borrow.Author.Tests.{eq-eqb, ne_eqb, eqb-true}
use lib.Dec.{T, eqb}
use lib.ListN.{length, get_or}
use Rattle.lists.specs.Bytes.{Bytes}
use Rattle.lists.specs.Count.{bit, count_from}
use Rattle.lists.proofs.Count.{count_same, count_snoc, count-order}
use Rattle.field.specs.Field.{add, mul, pow}
use Rattle.field.proofs.Field.{add_self, zero-add, add_swap, eq_of_add, add-lt, mul-add, mul_assoc, mul-zero, zero-mul, mul-one, mul-lt, zero_of_mul}
use Rattle.field.proofs.Powers.{alpha_lt, powers_differ}
use Rattle.codes.specs.Word.{syndrome}
use Rattle.codes.specs.Parity.{add_words}
use Rattle.codes.specs.Erasures.{is_erased, error_count}
use Rattle.codes.specs.Inner.{dot, poly_at, Locator, erased_place, without, without_marked, is_root, is_suspect}
use Rattle.codes.proofs.Vandermonde.{Err, sum, All, term}
use Rattle.codes.proofs.Words.{errs, weight, if_nonzero, syndrome-cons, syndrome-nil, syndrome_errs, errs_length, errs_small, errs_distinct, add_words-length}
use Rattle.codes.proofs.KeyEquation.{roots}
use Rattle.codes.proofs.Roots.{poly_at-lt}

-- ---- words with each byte times a function of its locator

unfoldable pub weighted : (ℕ → ℕ) → List ℕ → List ℕ
weighted g [] = []
weighted g (b ∷ r) = mul b (g (pow 2 (length r))) ∷ weighted g r

pub weighted_length : (g : ℕ → ℕ) (d : List ℕ) → length (weighted g d) ≡ length d
unfolding weighted
weighted_length g [] = refl
weighted_length g (b ∷ r) = ap suc (weighted_length g r)

pub weighted_bytes : (g : ℕ → ℕ) (d : List ℕ) → Bytes (weighted g d)
unfolding weighted Bytes
weighted_bytes g [] = tt
weighted_bytes g (b ∷ r) = (mul-lt b (g (pow 2 (length r))), weighted_bytes g r)

weighted_one : (d : List ℕ) → Bytes d → weighted (λ y. 1) d ≡ d
unfolding weighted Bytes
weighted_one [] h = refl
weighted_one (b ∷ r) h = ap₂ {C = List ℕ} (λ (x : ℕ) (y : List ℕ). x ∷ y) (mul-one b h.0) (weighted_one r h.1)

weighted_twice : (g h : ℕ → ℕ) (d : List ℕ) → weighted h (weighted g d) ≡ weighted (λ y. mul (g y) (h y)) d
unfolding weighted
weighted_twice g h [] = refl
weighted_twice g h (b ∷ r) =
    ap₂ {C = List ℕ} (λ (x : ℕ) (y : List ℕ). x ∷ y)
    (ap (λ (n : ℕ). mul (mul b (g (pow 2 (length r)))) (h (pow 2 n))) (weighted_length g r) ∙ mul_assoc b (g (pow 2 (length r))) (h (pow 2 (length r))))
    (weighted_twice g h r)

weighted_at : (g : ℕ → ℕ) (d : List ℕ) (i : ℕ) → i < length d → get_or (weighted g d) i 0 ≡ mul (get_or d i 0) (g (pow 2 (length d - suc i)))
unfolding weighted
weighted_at g [] i l = absurd (omega arith)
weighted_at g (b ∷ r) zero l = ap (λ (n : ℕ). mul b (g (pow 2 n))) (omega arith)
weighted_at g (b ∷ r) (suc i) l = weighted_at g r i (omega arith) ∙ ap (λ (n : ℕ). mul (get_or r i 0) (g (pow 2 n))) (omega arith)

-- one syndrome and x times the one before it
without_word : (x : ℕ) (d : List ℕ) → Bytes d → (i : ℕ) → add (syndrome d (suc i)) (mul x (syndrome d i)) ≡ syndrome (weighted (λ y. add y x) d) i
unfolding weighted Bytes
without_word x [] h i =
    ap₂ (λ (a b : ℕ). add a (mul x b)) (syndrome-nil (suc i)) (syndrome-nil i) ∙ zero-add (mul x 0) ∙ mul-zero x ∙ sym (syndrome-nil i)
without_word x (b ∷ r) h i =
    let l : ℕ = pow 2 (length r) in
    let v : ℕ = mul b (add l x) in
    ap₂ (λ (u w : ℕ). add u (mul x w)) (syndrome-cons b r h (suc i)) (syndrome-cons b r h i)
    ∙ ap (add (add (mul b (pow l (suc i))) (syndrome r (suc i)))) (mul-add x (mul b (pow l i)) (syndrome r i))
    ∙ add_swap (mul b (pow l (suc i))) (syndrome r (suc i)) (mul x (mul b (pow l i))) (mul x (syndrome r i))
    ∙ ap₂ add (term x l b i (alpha_lt (length r)) ∙ ap (λ (n : ℕ). mul v (pow (pow 2 n) i)) (sym (weighted_length (λ y. add y x) r))) (without_word x r h.1 i)
    ∙ sym (syndrome-cons v (weighted (λ y. add y x) r) (mul-lt b (add l x), weighted_bytes (λ y. add y x) r) i)

-- ---- the marked places taken out, one after the other. f says of a place whether it is marked

-- the product of y + α^k over the marked places k below n
factor : (ℕ → Bool) → ℕ → ℕ → ℕ
factor f zero y = 1
factor f (suc n) y = cond (f n) (mul (add y (pow 2 n)) (factor f n y)) (factor f n y)

-- as many places as are marked, so many syndromes fewer are known
without_marked_lem :
    (f : ℕ → Bool) (n k : ℕ) (S : ℕ → ℕ) (d : List ℕ) → Bytes d → ((i : ℕ) → i < k + count_from f 0 n → S i ≡ syndrome d i)
    → (i : ℕ) → i < k → without_marked f n S i ≡ syndrome (weighted (factor f n) d) i
unfolding without_marked factor
without_marked_lem f zero k S d h agree i l = agree i (omega arith) ∙ ap (λ (w : List ℕ). syndrome w i) (sym (weighted_one d h))
without_marked_lem f (suc n) k S d h agree i l = go (f n) refl (λ R c hc same. without_marked_lem f n k R c hc same i l)
  where
    x : ℕ
    x = pow 2 n

    one_more : count_from f 0 (suc n) ≡ count_from f 0 n + bit (f n)
    one_more = ap (count_from f 0) (sym (add-one n)) ∙ count_snoc f n

    go : (t : Bool) → f n ≡ t
        → ((R : ℕ → ℕ) (c : List ℕ) → Bytes c → ((j : ℕ) → j < k + count_from f 0 n → R j ≡ syndrome c j) → without_marked f n R i ≡ syndrome (weighted (factor f n) c) i)
        → without_marked f n (cond t (without x S) S) i ≡ syndrome (weighted (λ y. cond t (mul (add y x) (factor f n y)) (factor f n y)) d) i
    go true e rest =
        rest (without x S) (weighted (λ y. add y x) d) (weighted_bytes (λ y. add y x) d)
        (λ j m. unfold without in
        ap₂ (λ (u v : ℕ). add u (mul x v)) (agree (suc j) (omega (arith, m, one_more, ap bit e))) (agree j (omega (arith, m, one_more, ap bit e))) ∙ without_word x d h j)
        ∙ ap (λ (w : List ℕ). syndrome w i) (weighted_twice (λ y. add y x) (factor f n) d)
    go false e rest = rest S d h (λ j m. agree j (omega (arith, m, one_more, ap bit e)))

-- at a marked place it is 0,
factor_zero : (f : ℕ → Bool) (n j : ℕ) → j < n → f j ≡ true → factor f n (pow 2 j) ≡ 0
unfolding factor
factor_zero f zero j l e = absurd (omega arith)
factor_zero f (suc n) j l e = dite (ℕ_discrete j n)
    (λ q.
    let z : f n ≡ true = ap f (sym q) ∙ e in
    ap (λ (t : Bool). cond t (mul (add (pow 2 j) (pow 2 n)) (factor f n (pow 2 j))) (factor f n (pow 2 j))) z
    ∙ ap (λ (k : ℕ). mul (add (pow 2 j) (pow 2 k)) (factor f n (pow 2 j))) (sym q) ∙ ap (λ (y : ℕ). mul y (factor f n (pow 2 j))) (add_self (pow 2 j)) ∙ zero-mul (factor f n (pow 2 j)))
    (λ q. below (f n) (factor_zero f n j (omega (arith, q)) e))
  where
    below : (t : Bool) → factor f n (pow 2 j) ≡ 0 → cond t (mul (add (pow 2 j) (pow 2 n)) (factor f n (pow 2 j))) (factor f n (pow 2 j)) ≡ 0
    below true z = ap (mul (add (pow 2 j) (pow 2 n))) z ∙ mul-zero (add (pow 2 j) (pow 2 n))
    below false z = z

factor_lt : (f : ℕ → Bool) (n y : ℕ) → factor f n y < 256
unfolding factor
factor_lt f zero y = omega arith
factor_lt f (suc n) y = go (f n) (factor_lt f n y)
  where
    go : (t : Bool) → factor f n y < 256 → cond t (mul (add y (pow 2 n)) (factor f n y)) (factor f n y) < 256
    go true l = mul-lt (add y (pow 2 n)) (factor f n y)
    go false l = l

powers_apart : (j k : ℕ) → j < 255 → k < 255 → (j ≡ k → ⊥) → pow 2 j ≢ pow 2 k
powers_apart j k hj hk ne e = dite (ℕ_discrete (1 - (k - j)) 0)
    (λ q. powers_differ j k (omega (arith, q)) hk e) (λ q. powers_differ k j (omega (arith, q, ne)) hj (sym e))

-- and at any other it is not
factor_nonzero : (f : ℕ → Bool) (n j : ℕ) → n ≤ 255 → j < 255 → f j ≡ false → factor f n (pow 2 j) ≢ 0
unfolding factor
factor_nonzero f zero j hn hj e = λ z. omega (arith, z)
factor_nonzero f (suc n) j hn hj e = go (f n) refl (factor_nonzero f n j (omega arith) hj e)
  where
    go : (t : Bool) → f n ≡ t → factor f n (pow 2 j) ≢ 0 → cond t (mul (add (pow 2 j) (pow 2 n)) (factor f n (pow 2 j))) (factor f n (pow 2 j)) ≢ 0
    go true q r = λ z.
        r (zero_of_mul (add (pow 2 j) (pow 2 n)) (factor f n (pow 2 j)) (add-lt (alpha_lt j) (alpha_lt n)) (factor_lt f n (pow 2 j))
        (λ s. powers_apart j n hj hn (λ i. true_false (sym q ∙ ap f (sym i) ∙ e)) (eq_of_add (pow 2 j) (pow 2 n) s)) z)
      where
        true_false : true ≡ false → ⊥
        true_false i = subst T i tt
    go false q r = r

-- ---- how many errors are left

weight_count : (d : List ℕ) → weight d ≡ count_from (λ i. not (eqb (get_or d i 0) 0)) 0 (length d)
unfolding weight
weight_count [] = refl
weight_count (b ∷ r) = head b ∙ ap (λ (n : ℕ). bit (not (eqb b 0)) + n) (weight_count r ∙ rest)
  where
    head : (b : ℕ) → if_nonzero b (weight r) ≡ bit (not (eqb b 0)) + weight r
    head zero = omega arith
    head (suc b) = omega (arith, ap (λ (t : Bool). bit (not t)) (ne_eqb (suc b) 0 (λ e. omega (arith, e))))

    rest : count_from (λ i. not (eqb (get_or r i 0) 0)) 0 (length r) ≡ count_from (λ i. not (eqb (get_or (b ∷ r) i 0) 0)) 1 (length r)
    rest = count_same (λ i. not (eqb (get_or r i 0) 0)) (λ i. not (eqb (get_or (b ∷ r) i 0) 0)) 0 1 (length r)
        (λ i h.
        let x : 0 + i ≡ i = omega arith in
        let y : 1 + i ≡ suc i = omega arith in
        rw (x, y))

add_at : (w c : List ℕ) → length w ≡ length c → (i : ℕ) → i < length w → get_or (add_words w c) i 0 ≡ add (get_or w i 0) (get_or c i 0)
unfolding add_words
add_at [] c l i h = absurd (omega arith)
add_at (a ∷ w) [] l i h = absurd (omega arith)
add_at (a ∷ w) (b ∷ c) l zero h = refl
add_at (a ∷ w) (b ∷ c) l (suc i) h = add_at w c (omega arith) i (omega arith)

-- a product that is not 0 is of bytes that differ at a place that is not marked
left_differs : (m : Bool) (a b x : ℕ) → (m ≡ true → x ≡ 0) → T (not (eqb (mul (add a b) x) 0)) → T (not m && not (eqb a b))
left_differs true a b x z h = absurd (subst (λ (t : Bool). T (not t)) (eq-eqb (mul (add a b) x) 0 (ap (mul (add a b)) (z refl) ∙ mul-zero (add a b))) h)
left_differs false a b x z h = go (eqb a b) refl
  where
    go : (t : Bool) → eqb a b ≡ t → T (not t)
    go true e =
        absurd (subst (λ (t : Bool). T (not t)) (eq-eqb (mul (add a b) x) 0 (ap (λ (y : ℕ). mul (add y b) x) (eqb-true a b e) ∙ ap (λ (y : ℕ). mul y x) (add_self b) ∙ zero-mul x)) h)
    go false e = tt

-- where a function is 0 at the marked places, no more errors are left than there are at the others
pub errors_left :
    (g : ℕ → ℕ) (m w c : List ℕ) → length w ≡ length c → ((i : ℕ) → i < length w → is_erased m i ≡ true → g (pow 2 (length w - suc i)) ≡ 0)
    → weight (weighted g (add_words w c)) ≤ error_count m w c
unfolding error_count
errors_left g m w c l z =
    let d : List ℕ = add_words w c in
    let n : length (weighted g d) ≡ length w = weighted_length g d ∙ add_words-length w c l in
    let at : (i : ℕ) → i < length w → get_or (weighted g d) i 0 ≡ mul (add (get_or w i 0) (get_or c i 0)) (g (pow 2 (length w - suc i))) = λ i h.
    weighted_at g d i (omega (arith, add_words-length w c l))
    ∙ ap₂ (λ (x k : ℕ). mul x (g (pow 2 (k - suc i)))) (add_at w c l i h) (add_words-length w c l) in
    subst (λ (k : ℕ). k ≤ error_count m w c)
    (sym (weight_count (weighted g d) ∙ ap (count_from (λ i. not (eqb (get_or (weighted g d) i 0) 0)) 0) n))
    (count-order (λ i. not (eqb (get_or (weighted g d) i 0) 0)) (λ i. not (is_erased m i) && not (eqb (get_or w i 0) (get_or c i 0))) 0 (length w)
    (λ i h t.
    let k : i < length w = omega arith in
    left_differs (is_erased m i) (get_or w i 0) (get_or c i 0) (g (pow 2 (length w - suc i))) (z i k) (subst (λ (x : ℕ). T (not (eqb x 0))) (at i k) t)))

-- ---- their places are roots

abbrev Root : List ℕ → Err → Type 0
Root c e = poly_at c e.loc ≡ 0

dot-agree : (c : List ℕ) (S R : ℕ → ℕ) (i : ℕ) → ((j : ℕ) → j < i + length c → S j ≡ R j) → dot c S i ≡ dot c R i
unfolding dot
dot-agree [] S R i h = refl
dot-agree (c ∷ cs) S R i h = ap₂ add (ap (mul c) (h i (omega arith))) (dot-agree cs S R (suc i) (λ j l. h j (omega arith)))

-- a value that is not 0 leaves the root
errs_roots : (c d : List ℕ) → Bytes c → Bytes d → All (λ e. mul e.val (poly_at c e.loc) ≡ 0) (errs d) → All (Root c) (errs d)
unfolding errs Bytes
errs_roots c [] h k a = tt
errs_roots c (zero ∷ r) h k a = errs_roots c r h k.1 a
errs_roots c (suc b ∷ r) h k a =
    (zero_of_mul (suc b) (poly_at c (pow 2 (length r))) k.0 (poly_at-lt c (pow 2 (length r)) h) (λ z. omega (arith, z)) a.0, errs_roots c r h k.1 a.1)

-- a locator for the first 2t syndromes of a word with at most t errors
located :
    (t : ℕ) (S : ℕ → ℕ) (d : List ℕ) → Bytes d → length d ≤ 255 → weight d ≤ t → ((i : ℕ) → i < t + t → S i ≡ syndrome d i)
    → (q : List ℕ) → Bytes q → Locator S t q → All (Root q) (errs d)
located t S d hd short few agree q hq loc =
    errs_roots q d hq hd
    (roots t q (errs d) (omega (arith, errs_length d)) (errs_small d hd) (errs_distinct d short)
    (λ i l. sym (dot-agree q S (sum (errs d)) i (λ j m. agree j (omega (arith, loc.size)) ∙ syndrome_errs d hd j)) ∙ loc.zeros i l))

-- each byte of a word that is not 0 stands at a place that passes a test
abbrev pub Covered : (ℕ → Bool) → List ℕ → Type 0
Covered f [] = Unit {0}
Covered f (zero ∷ r) = Covered f r
Covered f (suc b ∷ r) = (f (length r) ≡ true) × Covered f r

errs_tail : (P : Err → Type 0) (b : ℕ) (r : List ℕ) → All P (errs (b ∷ r)) → All P (errs r)
unfolding errs
errs_tail P zero r a = a
errs_tail P (suc b) r a = a.1

errs_head : (c : List ℕ) (b : ℕ) (r : List ℕ) → b ≢ 0 → All (Root c) (errs (b ∷ r)) → poly_at c (pow 2 (length r)) ≡ 0
unfolding errs
errs_head c zero r ne a = absurd (ne refl)
errs_head c (suc b) r ne a = a.0

-- the places of a word's errors are marked, or roots
covered :
    (f : ℕ → Bool) (g : ℕ → ℕ) (q d : List ℕ) → Bytes d → ((y : ℕ) → g y < 256) → ((j : ℕ) → j < length d → f j ≡ false → g (pow 2 j) ≢ 0)
    → All (Root q) (errs (weighted g d)) → Covered (λ k. f k || is_root q k) d
unfolding weighted Bytes
covered f g q [] hd small other a = tt
covered f g q (zero ∷ r) hd small other a = covered f g q r hd.1 small (λ j l. other j (omega arith)) (errs_tail (Root q) (mul 0 (g (pow 2 (length r)))) (weighted g r) a)
covered f g q (suc b ∷ r) hd small other a =
    (here (f (length r)) refl, covered f g q r hd.1 small (λ j l. other j (omega arith)) (errs_tail (Root q) (mul (suc b) (g (pow 2 (length r)))) (weighted g r) a))
  where
    here : (t : Bool) → f (length r) ≡ t → (f (length r) || is_root q (length r)) ≡ true
    here true e = ap (λ (t : Bool). t || is_root q (length r)) e
    here false e =
        ap₂ ◌||◌ e
        (eq-eqb (poly_at q (pow 2 (length r))) 0
        (ap (λ (n : ℕ). poly_at q (pow 2 n)) (sym (weighted_length g r))
        ∙ errs_head q (mul (suc b) (g (pow 2 (length r)))) (weighted g r)
        (λ z. other (length r) (omega arith) e (zero_of_mul (suc b) (g (pow 2 (length r))) hd.0 (small (pow 2 (length r))) (λ y. omega (arith, y)) z)) a))

-- ---- together: m marks the bytes of w, c is a word of as many bytes that differs from it in at most t that are not marked, and the syndromes S are those of the
-- difference as far as 2t and the marks ask for
module _ (t : ℕ) (m w c : List ℕ) (sized : length m ≡ length w) (same : length w ≡ length c) (short : length w ≤ 255) (few : error_count m w c ≤ t)
    (hd : Bytes (add_words w c)) (S : ℕ → ℕ) (agree : (i : ℕ) → i < t + t + count_from (erased_place m) 0 (length m) → S i ≡ syndrome (add_words w c) i) where
  abbrev g : ℕ → ℕ
  g = factor (erased_place m) (length m)

  left : weight (weighted g (add_words w c)) ≤ error_count m w c
  left = errors_left g m w c same
      (λ i l e.
      let k : length m - suc (length w - suc i) ≡ i = omega arith in
      factor_zero (erased_place m) (length m) (length w - suc i) (omega arith) (ap (is_erased m) k ∙ e))

  -- a locator for the syndromes without the errors at the marked places covers all errors, with the marks
  pub marked_covered : (q : List ℕ) → Bytes q → Locator (without_marked (erased_place m) (length m) S) t q → Covered (is_suspect m q) (add_words w c)
  marked_covered q hq loc =
      let d : List ℕ = add_words w c in
      let n : length d ≡ length w = add_words-length w c same in
      covered (erased_place m) g q d hd (factor_lt (erased_place m) (length m)) (λ j l e. factor_nonzero (erased_place m) (length m) j (omega arith) (omega arith) e)
      (located t (without_marked (erased_place m) (length m) S) (weighted g d) (weighted_bytes g d) (omega (arith, weighted_length g d)) (omega (arith, left))
      (without_marked_lem (erased_place m) (length m) (t + t) S d hd agree) q hq loc)
