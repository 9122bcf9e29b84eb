-- The values of errors whose places are known: the syndromes without the other errors, over what each of them took along.
-- Assumes nothing.
use mathlib.Core.Path.{◌≡◌, refl, sym, ap, ap₂, ◌∙◌}
use mathlib.Core.Bool.{Bool, true, false, cond}
use mathlib.Core.List.{List, [], ◌∷◌, map}
use mathlib.Core.Logic.{◌≢◌, dite}
use Prim.Native.Nat.{ℕ, zero, suc, ◌+◌, ◌-◌, ◌<◌, ◌≤◌}
use native.Mathlib.Decide.{ℕ_discrete}
use native.Mathlib.Nat.{le_of_suc-le-suc}
use lib.Arith.{lt_of_le-ne}
use native.Mathlib.Omega.{arith}
use borrow.Author.Tests.{eqb-true, eqb-false}
use lib.Dec.{eqb}
use lib.ListN.{length, get_or}
use Rattle.field.specs.Field.{add, mul, pow, inverse}
use Rattle.field.proofs.Field.{add_self, add-zero, zero-add, eq_of_add, add-lt, mul_assoc, mul-zero, zero-mul, mul-one, mul-lt, zero_of_mul}
use Rattle.field.proofs.Powers.{pow-zero, alpha_lt, powers_differ}
use Rattle.field.proofs.Inverse.{mul-inverse}
use Rattle.codes.specs.Inner.{without, without_others, spread, error_value, places_where}
use Rattle.codes.proofs.Vandermonde.{Err, sum, All, Small, All-map, less, sum_less, sum_zeros}

-- ---- places that fall

-- places below n, each below the one before it
pub Descending : ℕ → List ℕ → Type 0
Descending n [] = Unit {0}
Descending n (k ∷ ks) = (k < n) × Descending k ks

pub descending_up : (m n : ℕ) (ks : List ℕ) → m ≤ n → Descending m ks → Descending n ks
unfolding Descending
descending_up m n [] l d = tt
descending_up m n (k ∷ ks) l d = (omega (arith, d.0), d.1)

pub places_descending : (f : ℕ → Bool) (n : ℕ) → Descending n (places_where f n)
unfolding Descending places_where
places_descending f zero = tt
places_descending f (suc n) = go (f n) (places_descending f n)
  where
    go : (t : Bool) → Descending n (places_where f n) → Descending (suc n) (cond t (n ∷ places_where f n) (places_where f n))
    go true d = (omega arith, d)
    go false d = descending_up n (suc n) (places_where f n) (omega arith) d

pub descending_at : (n : ℕ) (ks : List ℕ) (j : ℕ) → Descending n ks → j < length ks → get_or ks j 0 < n
unfolding Descending
descending_at n [] j d l = absurd (omega arith)
descending_at n (k ∷ ks) zero d l = d.0
descending_at n (k ∷ ks) (suc j) d l = omega (arith, d.0, descending_at k ks j d.1 (omega arith))

descending_differ : (n : ℕ) (ks : List ℕ) (i j : ℕ) → Descending n ks → i < j → j < length ks → get_or ks j 0 < get_or ks i 0
unfolding Descending
descending_differ n [] i j d h l = absurd (omega arith)
descending_differ n (k ∷ ks) i zero d h l = absurd (omega arith)
descending_differ n (k ∷ ks) zero (suc j) d h l = descending_at k ks j d.1 (omega arith)
descending_differ n (k ∷ ks) (suc i) (suc j) d h l = descending_differ k ks i j d.1 (omega arith) (omega arith)

-- different places have different locators
locators_differ : (n : ℕ) (ks : List ℕ) (i j : ℕ) → n ≤ 255 → Descending n ks → i < length ks → j < length ks → (i ≡ j → ⊥) → pow 2 (get_or ks i 0) ≢ pow 2 (get_or ks j 0)
locators_differ n ks i j h d li lj ne e = dite (ℕ_discrete (1 - (j - i)) 0)
    (λ q. powers_differ (get_or ks j 0) (get_or ks i 0) (descending_differ n ks i j d (omega (arith, q)) lj) (omega (arith, descending_at n ks i d li)) (sym e))
    (λ q. powers_differ (get_or ks i 0) (get_or ks j 0) (descending_differ n ks j i d (omega (arith, q, ne)) li) (omega (arith, descending_at n ks j d lj)) e)

-- ---- the syndromes without the other errors

abbrev none : Err
none = record { loc = 0; val = 0 }

-- each error's value times a function of its locator
abbrev pub scaled : (ℕ → ℕ) → Err → Err
scaled f e = record { loc = e.loc; val = mul e.val (f e.loc) }

same_errs : (f g : Err → Err) → ((e : Err) → f e ≡ g e) → (es : List Err) → map f es ≡ map g es
same_errs f g h [] = refl
same_errs f g h (e ∷ es) = ap₂ {C = List Err} (λ (x : Err) (y : List Err). x ∷ y) (h e) (same_errs f g h es)

map_twice : (f g : Err → Err) (es : List Err) → map f (map g es) ≡ map (λ e. f (g e)) es
map_twice f g [] = refl
map_twice f g (e ∷ es) = ap {B = List Err} (λ y. f (g e) ∷ y) (map_twice f g es)

scaled_small : (f : ℕ → ℕ) (es : List Err) → All Small es → All Small (map (scaled f) es)
scaled_small f = All-map Small Small (scaled f) (λ e h. (h.0, mul-lt e.val (f e.loc)))

scaled_one : (es : List Err) → All Small es → (i : ℕ) → sum (map (scaled (λ x. 1)) es) i ≡ sum es i
unfolding sum
scaled_one [] s i = refl
scaled_one (e ∷ es) s i = ap₂ (λ (v r : ℕ). add (mul v (pow e.loc i)) r) (mul-one e.val s.0.1) (scaled_one es s.1 i)

less_scaled : (x : ℕ) (f : ℕ → ℕ) (es : List Err) → map (less x) (map (scaled f) es) ≡ map (scaled (λ y. mul (f y) (add y x))) es
less_scaled x f es =
    map_twice (less x) (scaled f) es
    ∙ same_errs (λ e. less x (scaled f e)) (scaled (λ y. mul (f y) (add y x)))
    (λ e. ap (λ (v : ℕ). record { loc = e.loc; val = v }) (mul_assoc e.val (f e.loc) (add e.loc x))) es

module _ (ks : List ℕ) (j : ℕ) (es : List Err) (S : ℕ → ℕ) (n : ℕ) (small : All Small es) (agree : (i : ℕ) → i < n → S i ≡ sum es i) where
  -- as many errors as are taken out, so many sums fewer are known
  abbrev Room : ℕ → ℕ → Type 0
  Room l i = (l ≤ j → i + l < n) × (j < l → i + l ≤ n)

  without_others_lem : (l i : ℕ) → Room l i → without_others ks j l S i ≡ sum (map (scaled (spread ks j l)) es) i
  unfolding without_others spread
  without_others_lem zero i h = agree i (omega (arith, h.0 (omega arith))) ∙ sym (scaled_one es small i)
  without_others_lem (suc l) i h = go (eqb l j) refl (without_others_lem l i) (without_others_lem l (suc i))
    where
      x : ℕ
      x = pow 2 (get_or ks l 0)

      go : (t : Bool) → eqb l j ≡ t → (Room l i → without_others ks j l S i ≡ sum (map (scaled (spread ks j l)) es) i)
          → (Room l (suc i) → without_others ks j l S (suc i) ≡ sum (map (scaled (spread ks j l)) es) (suc i))
          → cond t (without_others ks j l S) (without x (without_others ks j l S)) i
          ≡ sum (map (scaled (λ y. cond t (spread ks j l y) (mul (spread ks j l y) (add y x)))) es) i
      go true q a b = a (λ k. omega (arith, h.1 (omega (arith, eqb-true l j q))), λ k. absurd (omega (arith, eqb-true l j q)))
      go false q a b =
          let ne : l ≡ j → ⊥ = eqb-false l j q in
          let u = b (λ k. omega (arith, h.0 (omega (arith, ne))), λ k. omega (arith, h.1 (omega arith))) in
          let v = a (λ k. omega (arith, h.0 (omega (arith, ne))), λ k. omega (arith, h.1 (omega arith))) in
          unfold without in
          ap₂ (λ (u v : ℕ). add u (mul x v)) u v ∙ sum_less x (map (scaled (spread ks j l)) es) (scaled_small (spread ks j l) es small) i
          ∙ ap (λ (e : List Err). sum e i) (less_scaled x (spread ks j l) es)

-- ---- one error is left

spread_own : (ks : List ℕ) (j l m : ℕ) → m < l → (m ≡ j → ⊥) → spread ks j l (pow 2 (get_or ks m 0)) ≡ 0
unfolding spread
spread_own ks j zero m h ne = absurd (omega arith)
spread_own ks j (suc l) m h ne = go (eqb l j) refl (λ k. spread_own ks j l m k ne)
  where
    x : ℕ
    x = pow 2 (get_or ks m 0)

    go : (t : Bool) → eqb l j ≡ t → (m < l → spread ks j l x ≡ 0) → cond t (spread ks j l x) (mul (spread ks j l x) (add x (pow 2 (get_or ks l 0)))) ≡ 0
    go true q r = r (lt_of_le-ne (le_of_suc-le-suc h) (λ z. ne (z ∙ eqb-true l j q)))
    go false q r = dite (ℕ_discrete m l)
        (λ z. ap (λ (y : ℕ). mul (spread ks j l x) (add x (pow 2 (get_or ks y 0)))) (sym z) ∙ ap (mul (spread ks j l x)) (add_self x) ∙ mul-zero (spread ks j l x))
        (λ z. ap (λ (y : ℕ). mul y (add x (pow 2 (get_or ks l 0)))) (r (lt_of_le-ne (le_of_suc-le-suc h) z)) ∙ zero-mul (add x (pow 2 (get_or ks l 0))))

module _ (n : ℕ) (ks : List ℕ) (j : ℕ) (short : n ≤ 255) (falls : Descending n ks) (lj : j < length ks) where
  spread-lt : (l x : ℕ) → spread ks j l x < 256
  unfolding spread
  spread-lt zero x = omega arith
  spread-lt (suc l) x = go (eqb l j) (spread-lt l x)
    where
      go : (t : Bool) → spread ks j l x < 256 → cond t (spread ks j l x) (mul (spread ks j l x) (add x (pow 2 (get_or ks l 0)))) < 256
      go true r = r
      go false r = mul-lt (spread ks j l x) (add x (pow 2 (get_or ks l 0)))

  spread_nonzero : (l : ℕ) → l ≤ length ks → spread ks j l (pow 2 (get_or ks j 0)) ≢ 0
  unfolding spread
  spread_nonzero zero h = λ e. omega (arith, e)
  spread_nonzero (suc l) h = go (eqb l j) refl (spread_nonzero l (omega arith))
    where
      x : ℕ
      x = pow 2 (get_or ks j 0)

      go : (t : Bool) → eqb l j ≡ t → spread ks j l x ≢ 0 → cond t (spread ks j l x) (mul (spread ks j l x) (add x (pow 2 (get_or ks l 0)))) ≢ 0
      go true q r = r
      go false q r = λ e.
          locators_differ n ks j l short falls lj h (λ z. eqb-false l j q (sym z))
          (eq_of_add x (pow 2 (get_or ks l 0))
          (zero_of_mul (spread ks j l x) (add x (pow 2 (get_or ks l 0))) (spread-lt l x) (add-lt (alpha_lt (get_or ks j 0)) (alpha_lt (get_or ks l 0))) r e))

  -- a sum in which a function is 0 at every locator but one
  all_zero_lem : (f : ℕ → ℕ) (es : List Err) → ((m : ℕ) → m < length es → f (get_or es m none).loc ≡ 0) → All (λ e. e.val ≡ 0) (map (scaled f) es)
  all_zero_lem f [] h = tt
  all_zero_lem f (e ∷ es) h = (ap (mul e.val) (h 0 (omega arith)) ∙ mul-zero e.val, all_zero_lem f es (λ m l. h (suc m) (omega arith)))

  one_left : (f : ℕ → ℕ) (es : List Err) (i : ℕ) → i < length es → All Small es → ((m : ℕ) → m < length es → (m ≡ i → ⊥) → f (get_or es m none).loc ≡ 0)
      → sum (map (scaled f) es) 0 ≡ mul (get_or es i none).val (f (get_or es i none).loc)
  unfolding sum
  one_left f [] i l s h = absurd (omega arith)
  one_left f (e ∷ es) zero l s h =
      ap₂ add (ap (mul (mul e.val (f e.loc))) (pow-zero e.loc) ∙ mul-one (mul e.val (f e.loc)) (mul-lt e.val (f e.loc)))
      (sum_zeros (map (scaled f) es) (all_zero_lem f es (λ m k. h (suc m) (omega arith) (λ z. omega (arith, z)))) 0)
      ∙ add-zero (mul e.val (f e.loc))
  one_left f (e ∷ es) (suc i) l s h =
      ap₂ add (ap (λ (v : ℕ). mul v (pow e.loc 0)) (ap (mul e.val) (h 0 (omega arith) (λ z. omega (arith, z))) ∙ mul-zero e.val) ∙ zero-mul (pow e.loc 0))
      (one_left f es i (omega arith) s.1 (λ m k ne. h (suc m) (omega arith) (λ z. ne (omega (arith, z)))))
      ∙ zero-add (mul (get_or es i none).val (f (get_or es i none).loc))

  -- THE VALUE: where the errors have these places, and the syndromes are theirs, error j has this value
  pub value_right : (es : List Err) (S : ℕ → ℕ) → length es ≡ length ks → ((m : ℕ) → m < length es → (get_or es m none).loc ≡ pow 2 (get_or ks m 0))
      → All Small es → ((i : ℕ) → i < length es → S i ≡ sum es i) → error_value S ks j ≡ (get_or es j none).val
  unfolding error_value
  value_right es S len locs small agree =
      let e : ℕ = length ks in
      let f : ℕ → ℕ = spread ks j e in
      let x : ℕ = pow 2 (get_or ks j 0) in
      let v : ℕ = (get_or es j none).val in
      ap (λ (u : ℕ). mul u (inverse (f x)))
      (without_others_lem ks j es S (length es) small agree e 0 ((λ k. absurd (omega arith)), λ k. omega arith)
      ∙ one_left f es j (omega arith) small (λ m l ne. ap f (locs m l) ∙ spread_own ks j e m (omega arith) ne)
      ∙ ap (λ (y : ℕ). mul v (f y)) (locs j (omega arith)))
      ∙ mul_assoc v (f x) (inverse (f x)) ∙ ap (mul v) (mul-inverse (f x) (spread-lt e x) (spread_nonzero e (omega arith)))
      ∙ mul-one v (value_small es j small (omega arith))
    where
      value_small : (es : List Err) (j : ℕ) → All Small es → j < length es → (get_or es j none).val < 256
      value_small [] j s l = absurd (omega arith)
      value_small (e ∷ es) zero s l = s.0.1
      value_small (e ∷ es) (suc j) s l = value_small es j s.1 (omega arith)
