-- Places that pass a test, as the search finds them; and a polynomial that is not 0 has fewer roots than coefficients: each root is divided off.
-- Assumes nothing.
use mathlib.Core.Path.{◌≡◌, refl, sym, ap, ap₂, ◌∙◌}
use mathlib.Core.Bool.{Bool, true, false, cond, ◌||◌}
use mathlib.Core.List.{List, [], ◌∷◌, ◌++◌, append_assoc}
use Prim.Native.Nat.{ℕ, zero, suc, ◌+◌, ◌-◌, ◌<◌, ◌≤◌}
use native.Mathlib.Omega.{arith}
use borrow.Author.Tests.{eq-eqb, ne_eqb, eqb-true, eqb-false}
use lib.Dec.{eqb}
use native.Mathlib.Numerals.{add-one}
use lib.ListN.{length, get_or, set, take, length-append}
use lib.Seq.{length-take-le, take-suc-set}
use Rattle.lists.specs.Bytes.{Bytes}
use Rattle.lists.specs.Count.{bit, count_from}
use Rattle.lists.proofs.Count.{count_same, count_snoc}
use Rattle.field.specs.Field.{add, mul, pow}
use Rattle.field.proofs.Field.{add_assoc, add_comm, add_left_comm, add-zero, zero-add, add_cancel, eq_of_add, add-lt, add-mul, mul-add, mul_left_comm, mul-zero, mul-lt, zero_of_mul}
use Rattle.field.proofs.Powers.{alpha_lt, powers_differ}
use Rattle.codes.specs.Erasures.{is_erased, erasure_count}
use Rattle.codes.specs.Inner.{poly_at, erased_place, is_root, is_suspect, places_where, NonZero}

-- ---- division by x + a

-- a polynomial divided by x + a
divide : ℕ → List ℕ → List ℕ
divide a [] = []
divide a (c ∷ []) = []
divide a (c ∷ d ∷ cs) = poly_at (d ∷ cs) a ∷ divide a (d ∷ cs)

divide_term : (x a c p q : ℕ) → add c (mul x (add (mul (add x a) p) q)) ≡ add (mul (add x a) (add q (mul x p))) (add c (mul a q))
divide_term x a c p q = simp (mul-add, add-mul, mul_left_comm, add_assoc, add_left_comm, add_comm, add_cancel)

divide_value : (a x : ℕ) (c : List ℕ) → poly_at c x ≡ add (mul (add x a) (poly_at (divide a c) x)) (poly_at c a)
unfolding poly_at divide
divide_value a x [] = sym (add-zero (mul (add x a) 0) ∙ mul-zero (add x a))
divide_value a x (c ∷ []) = simp (mul-zero, zero-add)
divide_value a x (c ∷ d ∷ cs) =
    ap (λ (u : ℕ). add c (mul x u)) (divide_value a x (d ∷ cs)) ∙ divide_term x a c (poly_at (divide a (d ∷ cs)) x) (poly_at (d ∷ cs) a)

divide_length : (a : ℕ) (c : List ℕ) → 0 < length c → suc (length (divide a c)) ≡ length c
unfolding divide
divide_length a [] h = absurd (omega arith)
divide_length a (c ∷ []) h = refl
divide_length a (c ∷ d ∷ cs) h = ap suc (divide_length a (d ∷ cs) (omega arith))

pub poly_at-lt : (c : List ℕ) (x : ℕ) → Bytes c → poly_at c x < 256
unfolding poly_at Bytes
poly_at-lt [] x h = omega arith
poly_at-lt (c ∷ cs) x h = add-lt h.0 (mul-lt x (poly_at cs x))

divide_bytes : (a : ℕ) (c : List ℕ) → Bytes c → Bytes (divide a c)
unfolding divide Bytes
divide_bytes a [] h = tt
divide_bytes a (c ∷ []) h = tt
divide_bytes a (c ∷ d ∷ cs) h = (poly_at-lt (d ∷ cs) a h.1, divide_bytes a (d ∷ cs) h.1)

-- ---- polynomials that are not 0

pub AllZero : List ℕ → Type 0
AllZero [] = Unit {0}
AllZero (c ∷ cs) = (c ≡ 0) × AllZero cs

-- where the quotient and the remainder are 0, so is the polynomial
divide_zero : (a : ℕ) (c : List ℕ) → poly_at c a ≡ 0 → AllZero (divide a c) → AllZero c
unfolding AllZero divide poly_at
divide_zero a [] e z = tt
divide_zero a (c ∷ []) e z = (sym (ap (add c) (mul-zero a) ∙ add-zero c) ∙ e, tt)
divide_zero a (c ∷ d ∷ cs) e z =
    (sym (ap (λ (x : ℕ). add c (mul a x)) z.0 ∙ ap (add c) (mul-zero a) ∙ add-zero c) ∙ e, divide_zero a (d ∷ cs) z.0 z.1)

one_nonzero : (c : List ℕ) (d : ℕ) → get_or c d 0 ≡ 1 → AllZero c → ⊥
unfolding AllZero
one_nonzero [] d e z = omega arith
one_nonzero (c ∷ cs) zero e z = omega (arith, z.0)
one_nonzero (c ∷ cs) (suc d) e z = one_nonzero cs d e z.1

pub lead_nonzero : (c : List ℕ) → NonZero c → AllZero c → ⊥
lead_nonzero c n = one_nonzero c n.degree n.lead

-- ---- places that pass a test

module _ (f : ℕ → Bool) where
  pub places_hit : (n : ℕ) → f n ≡ true → places_where f (suc n) ≡ n ∷ places_where f n
  unfolding places_where
  places_hit n e = ap (λ (t : Bool). cond t (n ∷ places_where f n) (places_where f n)) e

  pub places_miss : (n : ℕ) → f n ≡ false → places_where f (suc n) ≡ places_where f n
  unfolding places_where
  places_miss n e = ap (λ (t : Bool). cond t (n ∷ places_where f n) (places_where f n)) e

  -- as many as pass, counted from the end of a word of n bytes
  pub places_count : (n : ℕ) → length (places_where f n) ≡ count_from (λ i. f (n - suc i)) 0 n
  unfolding places_where
  places_count zero = refl
  places_count (suc n) = go (f n) refl (places_count n)
    where
      rest : count_from (λ i. f (suc n - suc i)) 1 n ≡ count_from (λ i. f (n - suc i)) 0 n
      rest = count_same (λ i. f (suc n - suc i)) (λ i. f (n - suc i)) 1 0 n (λ i l. ap f (omega arith))

      first : bit (f (suc n - 1)) ≡ bit (f n)
      first = ap (λ (k : ℕ). bit (f k)) (omega arith)

      go : (t : Bool) → f n ≡ t → length (places_where f n) ≡ count_from (λ i. f (n - suc i)) 0 n
          → length (cond t (n ∷ places_where f n) (places_where f n)) ≡ bit (f (suc n - 1)) + count_from (λ i. f (suc n - suc i)) 1 n
      go true e ih = omega (arith, first, rest, ap bit e)
      go false e ih = omega (arith, first, rest, ap bit e)

  -- and counted from place 0 on
  pub places_total : (n : ℕ) → length (places_where f n) ≡ count_from f 0 n
  unfolding places_where
  places_total zero = refl
  places_total (suc n) = go (f n) refl (places_total n)
    where
      go : (t : Bool) → f n ≡ t → length (places_where f n) ≡ count_from f 0 n → length (cond t (n ∷ places_where f n) (places_where f n)) ≡ count_from f 0 (suc n)
      go true e ih = omega (arith, ap bit e, ap (count_from f 0) (sym (add-one n)), count_snoc f n)
      go false e ih = omega (arith, ap bit e, ap (count_from f 0) (sym (add-one n)), count_snoc f n)

  -- each of them passes
  pub places_pass : (n j : ℕ) → j < length (places_where f n) → f (get_or (places_where f n) j 0) ≡ true
  unfolding places_where
  places_pass zero j l = absurd (omega arith)
  places_pass (suc n) j l = go (f n) refl j l (places_pass n)
    where
      go : (t : Bool) → f n ≡ t → (j : ℕ) → j < length (cond t (n ∷ places_where f n) (places_where f n))
          → ((j : ℕ) → j < length (places_where f n) → f (get_or (places_where f n) j 0) ≡ true)
          → f (get_or (cond t (n ∷ places_where f n) (places_where f n)) j 0) ≡ true
      go true e zero l ih = e
      go true e (suc j) l ih = ih j (omega arith)
      go false e j l ih = ih j l

-- as many places are marked as bytes are
pub erased_places : (m : List ℕ) → length (places_where (erased_place m) (length m)) ≡ erasure_count m (length m)
unfolding erasure_count
erased_places m =
    places_count (erased_place m) (length m)
    ∙ count_same (λ i. erased_place m (length m - suc i)) (is_erased m) 0 0 (length m) (λ i l. ap (is_erased m) (omega arith))

-- the places of one test or another are no more than those of both together
places_either : (f g : ℕ → Bool) (n : ℕ) → length (places_where (λ k. f k || g k) n) ≤ length (places_where f n) + length (places_where g n)
unfolding places_where
places_either f g zero = omega arith
places_either f g (suc n) = go (f n) (g n) (places_either f g n)
  where
    either : ℕ → Bool
    either k = f k || g k

    go : (a b : Bool) → length (places_where either n) ≤ length (places_where f n) + length (places_where g n)
        → length (cond (a || b) (n ∷ places_where either n) (places_where either n)) ≤ length (cond a (n ∷ places_where f n) (places_where f n)) + length (cond b (n ∷ places_where g n) (places_where g n))
    go true true ih = omega arith
    go true false ih = omega arith
    go false true ih = omega arith
    go false false ih = omega arith

-- ---- the roots among the powers of α

abbrev pub root_places : List ℕ → ℕ → List ℕ
root_places c n = places_where (is_root c) n

-- one root divided off leaves the roots at the lower powers
divide_roots : (c : List ℕ) (m n : ℕ) → Bytes c → n ≤ m → m < 255 → poly_at c (pow 2 m) ≡ 0 → root_places (divide (pow 2 m) c) n ≡ root_places c n
unfolding places_where
divide_roots c m zero hc l h e = refl
divide_roots c m (suc n) hc l h e =
    ap₂ (λ (t : Bool) (ks : List ℕ). cond t (n ∷ ks) ks) (same (eqb (poly_at (divide a c) x) 0) refl) (divide_roots c m n hc (omega arith) h e)
  where
    a : ℕ
    a = pow 2 m

    x : ℕ
    x = pow 2 n

    value : poly_at c x ≡ mul (add x a) (poly_at (divide a c) x)
    value = divide_value a x c ∙ ap (add (mul (add x a) (poly_at (divide a c) x))) e ∙ add-zero (mul (add x a) (poly_at (divide a c) x))

    same : (t : Bool) → eqb (poly_at (divide a c) x) 0 ≡ t → t ≡ eqb (poly_at c x) 0
    same true q = sym (eq-eqb (poly_at c x) 0 (value ∙ ap (mul (add x a)) (eqb-true (poly_at (divide a c) x) 0 q) ∙ mul-zero (add x a)))
    same false q =
        sym (ne_eqb (poly_at c x) 0 (λ z. eqb-false (poly_at (divide a c) x) 0 q
        (zero_of_mul (add x a) (poly_at (divide a c) x) (add-lt (alpha_lt n) (alpha_lt m)) (poly_at-lt (divide a c) x (divide_bytes a c hc))
        (λ s. powers_differ n m l h (eq_of_add x a s)) (sym value ∙ z))))

-- THE NUMBER OF ROOTS
pub roots_few : (n : ℕ) (c : List ℕ) → Bytes c → n ≤ 255 → (AllZero c → ⊥) → length (root_places c n) < length c
unfolding AllZero
roots_few zero [] hc l nz = absurd (nz tt)
roots_few zero (c ∷ cs) hc l nz = unfold places_where in omega arith
roots_few (suc n) c hc l nz = go (eqb (poly_at c (pow 2 n)) 0) refl (some c nz) (λ d hd k. roots_few n d hd (omega arith) k)
  where
    some : (c : List ℕ) → (AllZero c → ⊥) → 0 < length c
    some [] nz = absurd (nz tt)
    some (c ∷ cs) nz = omega arith

    go : (t : Bool) → eqb (poly_at c (pow 2 n)) 0 ≡ t → 0 < length c
        → ((d : List ℕ) → Bytes d → (AllZero d → ⊥) → length (root_places d n) < length d) → length (root_places c (suc n)) < length c
    go true q s rec =
        let e : poly_at c (pow 2 n) ≡ 0 = eqb-true (poly_at c (pow 2 n)) 0 q in
        let k : length (root_places (divide (pow 2 n) c) n) < length (divide (pow 2 n) c) =
        rec (divide (pow 2 n) c) (divide_bytes (pow 2 n) c hc) (λ z. nz (divide_zero (pow 2 n) c e z)) in
        omega (arith, ap length (places_hit (is_root c) n q), ap length (divide_roots c n n hc (omega arith) l e), divide_length (pow 2 n) c s)
    go false q s rec = omega (arith, ap length (places_miss (is_root c) n q), rec c hc nz)

-- the marked places and the roots
pub suspects_few : (m c : List ℕ) → Bytes c → length m ≤ 255 → NonZero c → length (places_where (is_suspect m c) (length m)) < erasure_count m (length m) + length c
suspects_few m c hc l nz = omega (arith, places_either (erased_place m) (is_root c) (length m), erased_places m, roots_few (length m) c hc l (lead_nonzero c nz))

-- ---- the search, as its loop goes: count places are found, and those below k are to come

module _ (f : ℕ → Bool) (out : List ℕ) (count k n : ℕ) (pos : 0 < k) (inside : count ≤ length out) (inv : take count out ++ places_where f k ≡ places_where f n) where
  next : suc (k - 1) ≡ k
  next = omega arith

  pub search_miss : f (k - 1) ≡ false → take count out ++ places_where f (k - 1) ≡ places_where f n
  search_miss e = ap (◌++◌ (take count out)) (sym (places_miss f (k - 1) e) ∙ ap (places_where f) next) ∙ inv

  module _ (e : f (k - 1) ≡ true) where
    here : places_where f k ≡ (k - 1) ∷ places_where f (k - 1)
    here = sym (ap (places_where f) next) ∙ places_hit f (k - 1) e

    pub search_room : length (places_where f n) ≤ length out → count < length out
    search_room few =
        omega (arith, sym (ap length inv) ∙ length-append (take count out) (places_where f k), length-take-le count out inside, ap length here)

    pub search_hit : count < length out → take (count + 1) (set out count (k - 1)) ++ places_where f (k - 1) ≡ places_where f n
    search_hit l =
        ap (λ (x : List ℕ). x ++ places_where f (k - 1)) (ap (λ (m : ℕ). take m (set out count (k - 1))) (add-one count) ∙ take-suc-set out count (k - 1) l)
        ∙ append_assoc (take count out) ((k - 1) ∷ []) (places_where f (k - 1)) ∙ ap (◌++◌ (take count out)) (sym here) ∙ inv
