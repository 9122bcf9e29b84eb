-- Distances: of a list from itself (distance_self) and with one byte set (distance-set); as a count of places (distance_differing, distance-tabulate) and part by
-- part (distance_parts). Lists that differ in no place (distance_none), in one (one_apart), in some (distance_some); at most where a test passes (distance-count),
-- from a place on (distance_after), and in one place before it (distance_after_but).
-- Assumes nothing.
use mathlib.Core.Path.{◌≡◌, refl, sym, ap, ap₂, subst, ◌∙◌}
use mathlib.Core.Bool.{Bool, true, false, not, ◌||◌}
use mathlib.Core.List.{List, [], ◌∷◌}
use mathlib.Core.Logic.{◌≢◌}
use Prim.Native.Nat.{ℕ, zero, suc, ◌+◌, ◌*◌, ◌≤◌, ◌<◌}
use native.Mathlib.Nat.{mul-le-mul_right}
use native.Mathlib.Omega.{arith}
use borrow.Author.Tests.{eq-eqb, ne_eqb, eqb-true, eqb-false, leb-false}
use lib.Dec.{T, eqb, leb}
use lib.ListN.{length, get_or, set, take, drop, length-drop}
use lib.Seq.{get_or-take, get_or-drop, length-take-le}
use Rattle.lists.specs.Count.{bit, sum_from, count_from, distance}
use Rattle.lists.specs.Fill.{tabulate_from}
use Rattle.lists.proofs.Sum.{sum_same, sum_parts, sum-some}
use Rattle.lists.proofs.Count.{bit_or, count_same, count_at, count_after, count-order, count-sum}
use Rattle.lists.proofs.Test.{or_none}

pub distance_self : (xs : List ℕ) → distance xs xs ≡ 0
unfolding distance
distance_self [] = refl
distance_self (x ∷ xs) = rw (eq-eqb x x refl) (omega (arith, distance_self xs))

-- the distance of two lists counts the places at which they differ
pub distance_differing : (xs ys : List ℕ) → length xs ≡ length ys → distance xs ys ≡ count_from (λ i. not (eqb (get_or xs i 0) (get_or ys i 0))) 0 (length xs)
unfolding distance
distance_differing [] ys l = refl
distance_differing (x ∷ xs) [] l = absurd (omega arith)
distance_differing (x ∷ xs) (y ∷ ys) l =
    ap (λ (n : ℕ). bit (not (eqb x y)) + n)
    (distance_differing xs ys (omega arith)
    ∙ count_same (λ i. not (eqb (get_or xs i 0) (get_or ys i 0))) (λ i. not (eqb (get_or (x ∷ xs) i 0) (get_or (y ∷ ys) i 0))) 0 1 (length xs)
    (λ i h.
    let a : 0 + i ≡ i = omega arith in
    let b : 1 + i ≡ suc i = omega arith in
    rw (a, b)))

-- so they differ in no more places than pass a test, where they are alike at each place that does not
pub distance-count :
    (xs ys : List ℕ) (t : ℕ → Bool) → length xs ≡ length ys → ((i : ℕ) → i < length xs → t i ≡ false → get_or xs i 0 ≡ get_or ys i 0)
    → distance xs ys ≤ count_from t 0 (length xs)
distance-count xs ys t e h =
    subst (λ (n : ℕ). n ≤ count_from t 0 (length xs)) (sym (distance_differing xs ys e))
    (count-order (λ i. not (eqb (get_or xs i 0) (get_or ys i 0))) t 0 (length xs) (λ i l. passes (t i) (get_or xs i 0) (get_or ys i 0) (h i (omega arith))))
  where
    passes : (b : Bool) (x y : ℕ) → (b ≡ false → x ≡ y) → T (not (eqb x y)) → T b
    passes true x y alike d = tt
    passes false x y alike d = subst (λ (c : Bool). T (not c)) (eq-eqb x y (alike refl)) d

-- ---- no place, one place, some place

pub distance_none : (xs ys : List ℕ) → length xs ≡ length ys → distance xs ys ≡ 0 → xs ≡ ys
unfolding distance
distance_none [] [] l d = refl
distance_none [] (y ∷ ys) l d = absurd (omega arith)
distance_none (x ∷ xs) [] l d = absurd (omega arith)
distance_none (x ∷ xs) (y ∷ ys) l d = go (eqb x y) refl (distance_none xs ys (omega arith)) d
  where
    go : (b : Bool) → eqb x y ≡ b → (distance xs ys ≡ 0 → xs ≡ ys) → bit (not b) + distance xs ys ≡ 0 → x ∷ xs ≡ y ∷ ys
    go true e rest z = ap₂ {C = List ℕ} (λ (a : ℕ) (r : List ℕ). a ∷ r) (eqb-true x y e) (rest (omega arith))
    go false e rest z = absurd (omega arith)

-- two lists that are alike but for one place
pub record OneApart (xs ys : List ℕ) : Type 0 where
  pub place : ℕ
  pub alike : (i : ℕ) → i ≢ place → get_or xs i 0 ≡ get_or ys i 0

pub one_apart : (xs ys : List ℕ) → length xs ≡ length ys → distance xs ys ≡ 1 → OneApart xs ys
unfolding distance
one_apart [] ys l d = absurd (omega arith)
one_apart (x ∷ xs) [] l d = absurd (omega arith)
one_apart (x ∷ xs) (y ∷ ys) l d = go (eqb x y) refl (one_apart xs ys (omega arith)) d
  where
    later : x ≡ y → OneApart xs ys → OneApart (x ∷ xs) (y ∷ ys)
    later e rest = record { place = suc rest.place; alike = each }
      where
        each : (i : ℕ) → i ≢ suc rest.place → get_or (x ∷ xs) i 0 ≡ get_or (y ∷ ys) i 0
        each zero n = e
        each (suc i) n = rest.alike i (λ q. n (ap suc q))

    here : xs ≡ ys → OneApart (x ∷ xs) (y ∷ ys)
    here e = record { place = 0; alike = each }
      where
        each : (i : ℕ) → i ≢ 0 → get_or (x ∷ xs) i 0 ≡ get_or (y ∷ ys) i 0
        each zero n = absurd (n refl)
        each (suc i) n = ap (λ (r : List ℕ). get_or r i 0) e

    go : (b : Bool) → eqb x y ≡ b → (distance xs ys ≡ 1 → OneApart xs ys) → bit (not b) + distance xs ys ≡ 1 → OneApart (x ∷ xs) (y ∷ ys)
    go true e rest z = later (eqb-true x y e) (rest (omega arith))
    go false e rest z = here (distance_none xs ys (omega arith) (omega arith))

pub distance-set : (xs : List ℕ) (i v : ℕ) → i < length xs → get_or xs i 0 ≢ v → distance xs (set xs i v) ≡ 1
unfolding distance
distance-set [] i v h n = absurd (omega arith)
distance-set (x ∷ xs) zero v h n = rw (ne_eqb x v n, distance_self xs)
distance-set (x ∷ xs) (suc i) v h n = rw (eq-eqb x x refl) (omega (arith, distance-set xs i v (omega arith) n))

pub distance_some : (xs ys : List ℕ) → length xs ≡ length ys → 0 < distance xs ys → (i : ℕ) × (i < length xs) × (get_or xs i 0 ≢ get_or ys i 0)
distance_some xs ys l d =
    let some = sum-some (λ i. bit (not (eqb (get_or xs i 0) (get_or ys i 0)))) 0 (length xs) (rw (distance_differing xs ys l) at d) in
    let same : 0 + some.0 ≡ some.0 = omega arith in
    (some.0, some.1, differs (get_or xs some.0 0) (get_or ys some.0 0) (rw same at some.2))
  where
    differs : (x y : ℕ) → 0 < bit (not (eqb x y)) → x ≢ y
    differs x y h e = omega (arith, rw (eq-eqb x y e) at h)

-- ---- part by part

pub distance-tabulate : (f g : ℕ → ℕ) (k n : ℕ) → distance (tabulate_from f k n) (tabulate_from g k n) ≡ count_from (λ i. not (eqb (f i) (g i))) k n
unfolding distance tabulate_from
distance-tabulate f g k zero = refl
distance-tabulate f g k (suc n) = ap (λ (m : ℕ). bit (not (eqb (f k) (g k))) + m) (distance-tabulate f g (suc k) n)

-- lists of m parts of n bytes
pub distance_parts :
    (xs ys : List ℕ) (m n : ℕ) → length xs ≡ m * n → length ys ≡ m * n
    → distance xs ys ≡ sum_from (λ q. distance (take n (drop (q * n) xs)) (take n (drop (q * n) ys))) 0 m
distance_parts xs ys m n hx hy =
    distance_differing xs ys (hx ∙ sym hy) ∙ ap₂ (λ (k l : ℕ). count_from differs k l) (omega arith) hx ∙ sum_parts (λ i. bit (differs i)) n 0 m
    ∙ sum_same (λ q. count_from differs (q * n) n) (λ q. distance (part xs q) (part ys q)) 0 0 m (λ q h. each (0 + q) (omega arith))
  where
    differs : ℕ → Bool
    differs i = not (eqb (get_or xs i 0) (get_or ys i 0))

    part : List ℕ → ℕ → List ℕ
    part zs q = take n (drop (q * n) zs)

    size : (zs : List ℕ) → length zs ≡ m * n → (q : ℕ) → q < m → length (part zs q) ≡ n
    size zs e q h = length-take-le n (drop (q * n) zs) (omega (arith, length-drop (q * n) zs, mul-le-mul_right n h))

    at : (zs : List ℕ) (q i : ℕ) → i < n → get_or (part zs q) i 0 ≡ get_or zs (q * n + i) 0
    at zs q i l = get_or-take n (drop (q * n) zs) i 0 l ∙ get_or-drop (q * n) zs i 0

    each : (q : ℕ) → q < m → count_from differs (q * n) n ≡ distance (part xs q) (part ys q)
    each q h =
        sym (distance_differing (part xs q) (part ys q) (size xs hx q h ∙ sym (size ys hy q h))
        ∙ ap (count_from (λ i. not (eqb (get_or (part xs q) i 0) (get_or (part ys q) i 0))) 0) (size xs hx q h)
        ∙ count_same (λ i. not (eqb (get_or (part xs q) i 0) (get_or (part ys q) i 0))) differs 0 (q * n) n
        (λ i l. ap₂ (λ (x y : ℕ). not (eqb x y)) (at xs q (0 + i) (omega arith) ∙ ap (λ (j : ℕ). get_or xs (q * n + j) 0) (omega arith))
        (at ys q (0 + i) (omega arith) ∙ ap (λ (j : ℕ). get_or ys (q * n + j) 0) (omega arith))))

-- ---- alike in the first c of c + d bytes, or in all of these but one

module _ (xs ys : List ℕ) (c d : ℕ) (hx : length xs ≡ c + d) (hy : length ys ≡ c + d) where
  pub distance_after : ((i : ℕ) → i < c → get_or xs i 0 ≡ get_or ys i 0) → distance xs ys ≤ d
  distance_after alike =
      let few = distance-count xs ys (λ i. leb c i) (hx ∙ sym hy) (λ i h t. alike i (leb-false c i t)) in
      omega (arith, ap (count_from (λ i. leb c i) 0) hx, count_after c d)

  pub distance_after_but : (a : ℕ) → ((i : ℕ) → i < c → i ≢ a → get_or xs i 0 ≡ get_or ys i 0) → distance xs ys ≤ 1 + d
  distance_after_but a alike =
      let test : ℕ → Bool = λ i. eqb i a || leb c i in
      let few =
      distance-count xs ys test (hx ∙ sym hy)
      (λ i h t. let fails = or_none (eqb i a) (leb c i) t in alike i (leb-false c i fails.1) (eqb-false i a fails.0)) in
      let both = count-sum test (λ i. eqb i a) (λ i. leb c i) 0 (c + d) (λ i l. bit_or (eqb i a) (leb c i)) in
      omega (arith, ap (count_from test 0) hx, count_at a 0 (c + d), count_after c d)
