-- The elimination finds a locator: among 1, x, .. x^t one becomes a polynomial that satisfies the key equations.
-- Assumes nothing.
use mathlib.Core.Path.{◌≡◌, refl, sym, ap, ap₂, ◌∙◌, subst}
use mathlib.Core.Bool.{Bool, true, false, true≢false, false≢true, not}
use mathlib.Core.List.{List, [], ◌∷◌}
use mathlib.Core.Logic.{◌⊎◌, inl, inr, dite}
use Prim.Native.Nat.{ℕ, zero, suc, ◌+◌, ◌*◌, ◌-◌, ◌<◌, ◌≤◌}
use native.Mathlib.Nat.{mul-le-mul_right}
use native.Mathlib.Decide.{ℕ_discrete}
use native.Mathlib.Omega.{arith}
use borrow.Author.Tests.{eq-eqb, ne_eqb}
use lib.Dec.{eqb}
use lib.ListN.{length, get_or, take, drop, replicate, length-take, length-drop, length-replicate, get_or-eq_default}
use lib.Seq.{sets, length-sets, length-take-le, ext_get_or, get_or-take, get_or-drop}
use Rattle.lists.specs.Count.{bit}
use Rattle.lists.proofs.Fill.{length-tabulate, get_d_tabulate}
use Rattle.lists.proofs.Count.{count-le, count_none, count_flip}
use Rattle.octets.proofs.Copies.{get_or-sets_in, get_d_sets_before, get_or-sets_after}
use Rattle.field.specs.Field.{add, mul, inverse}
use Rattle.field.proofs.Field.{add_assoc, add_left_comm, add_self, add-zero, add-lt, add-mul, mul-add, mul_assoc, mul_comm, mul-zero, zero-mul, mul-one, mul-lt}
use Rattle.field.proofs.Inverse.{mul-inverse}
use Rattle.codes.specs.Inner.{dot, mix, unit, Locator, poly_of, is_pivot, Pivots, Candidate, Cleared}

-- ---- one polynomial added to another

pub dot-lt : (c : List ℕ) (S : ℕ → ℕ) (i : ℕ) → dot c S i < 256
unfolding dot
dot-lt [] S i = omega arith
dot-lt (c ∷ cs) S i = add-lt (mul-lt c (S i)) (dot-lt cs S (suc i))

mix_term : (f a b s x y : ℕ) → add (mul (add b (mul f a)) s) (add x (mul f y)) ≡ add (add (mul b s) x) (mul f (add (mul a s) y))
mix_term f a b s x y = simp (add-mul, mul-add, mul_assoc, add_assoc, add_left_comm)

dot-mix : (f : ℕ) (c v : List ℕ) → length c ≡ length v → (S : ℕ → ℕ) (i : ℕ) → dot (mix f c v) S i ≡ add (dot v S i) (mul f (dot c S i))
unfolding dot mix
dot-mix f [] [] l S i = sym (ap (add 0) (mul-zero f) ∙ add-zero 0)
dot-mix f [] (b ∷ v) l S i = absurd (omega arith)
dot-mix f (a ∷ c) [] l S i = absurd (omega arith)
dot-mix f (a ∷ c) (b ∷ v) l S i =
    ap (add (mul (add b (mul f a)) (S i))) (dot-mix f c v (omega arith) S (suc i)) ∙ mix_term f a b (S i) (dot v S (suc i)) (dot c S (suc i))

pub mix-length : (f : ℕ) (c v : List ℕ) → length c ≡ length v → length (mix f c v) ≡ length v
unfolding mix
mix-length f [] v l = refl
mix-length f (a ∷ c) [] l = refl
mix-length f (a ∷ c) (b ∷ v) l = ap suc (mix-length f c v (omega arith))

pub mix-at : (f : ℕ) (c v : List ℕ) (j : ℕ) → length c ≡ length v → get_or (mix f c v) j 0 ≡ add (get_or v j 0) (mul f (get_or c j 0))
unfolding mix
mix-at f [] [] j l = sym (ap (add 0) (mul-zero f) ∙ add-zero 0)
mix-at f [] (b ∷ v) j l = absurd (omega arith)
mix-at f (a ∷ c) [] j l = absurd (omega arith)
mix-at f (a ∷ c) (b ∷ v) zero l = refl
mix-at f (a ∷ c) (b ∷ v) (suc j) l = mix-at f c v j (omega arith)

-- ---- the pivots as parts of one list

pub fits_part : (i t w : ℕ) → i < t → i * w + w ≤ t * w
fits_part i t w l =
    let h : suc i * w ≤ t * w = mul-le-mul_right w l in
    let e : suc i * w ≡ i * w + w = omega arith in
    omega arith

pub poly_length : (w : ℕ) (m : List ℕ) (t i : ℕ) → length m ≡ t * w → i < t → length (poly_of w m i) ≡ w
poly_length w m t i e l = simp (length-take, length-drop) (omega (arith, fits_part i t w l))

poly_at_lem : (w : ℕ) (m : List ℕ) (i j : ℕ) → j < w → get_or (poly_of w m i) j 0 ≡ get_or m (i * w + j) 0
poly_at_lem w m i j l = get_or-take w (drop (i * w) m) j 0 l ∙ get_or-drop (i * w) m j 0

zero-dot : (c : List ℕ) → ((j : ℕ) → get_or c j 0 ≡ 0) → (S : ℕ → ℕ) (i : ℕ) → dot c S i ≡ 0
unfolding dot
zero-dot [] z S i = refl
zero-dot (c ∷ cs) z S i = ap₂ add (ap (λ (x : ℕ). mul x (S i)) (z 0) ∙ zero-mul (S i)) (zero-dot cs (λ j. z (suc j)) S (suc i)) ∙ add_self 0

one_more : {n : ℕ} (f : ℕ → ℕ) → ((i : ℕ) → i < n → f i ≡ 0) → f n ≡ 0 → (i : ℕ) → i < n + 1 → f i ≡ 0
one_more {n} f h e i l = dite (ℕ_discrete i n) (λ q. ap f q ∙ e) (λ q. h i (omega (arith, q)))

-- ---- the steps

module _ (S : ℕ → ℕ) (t w k : ℕ) where
  pub pivots_none : (m : List ℕ) → k ≡ 0 → m ≡ replicate (t * w) 0 → Pivots S t w k m
  pivots_none m z e = record {
    size = ap length e ∙ length-replicate (t * w) 0;
    zeros = λ i j l h. zero-dot (poly_of w m i) (empty i) S j;
    low = λ i j l h. empty i j;
    used = count_none (is_pivot S w m) 0 t (λ i l. ap not (eq-eqb (dot (poly_of w m (0 + i)) S (0 + i)) 0 (zero-dot (poly_of w m (0 + i)) (empty (0 + i)) S (0 + i)))) ∙ sym z;
  }
    where
      nought : (n j : ℕ) → ◌≡◌ {A = ℕ} (get_or (replicate n 0) j 0) 0
      nought zero j = refl
      nought (suc n) zero = refl
      nought (suc n) (suc j) = nought n j

      empty : (i j : ℕ) → get_or (poly_of w m i) j 0 ≡ 0
      empty i j = part w j (drop (i * w) m) (λ j. get_or-drop (i * w) m j 0 ∙ ap (λ (l : List ℕ). get_or l (i * w + j) 0) e ∙ nought (t * w) (i * w + j))
        where
          part : (n j : ℕ) (l : List ℕ) → ((j : ℕ) → get_or l j 0 ≡ 0) → get_or (take n l) j 0 ≡ 0
          part zero j l h = refl
          part (suc n) j [] h = refl
          part (suc n) zero (x ∷ l) h = h 0
          part (suc n) (suc j) (x ∷ l) h = part n j l (λ j. h (suc j))

  -- there are no more pivots than equations
  pub pivots_few : (m : List ℕ) → Pivots S t w k m → k ≤ t
  pivots_few m p = omega (arith, p.used, count-le (is_pivot S w m) 0 t)

  module _ (i : ℕ) (v : List ℕ) (c : Candidate S w k i v) where
    -- equation i holds already
    pub holds : dot v S i ≡ 0 → Candidate S w k (i + 1) v
    holds e = record { size = c.size; lead = c.lead; high = c.high; zeros = one_more (dot v S) c.zeros e }

    module _ (m : List ℕ) (p : Pivots S t w k m) (l : i < t) where
      -- the pivot of equation i makes it hold
      pub clears : (f : ℕ) → (dot (poly_of w m i) S i ≡ 0 → ⊥) → f ≡ mul (dot v S i) (inverse (dot (poly_of w m i) S i)) → Candidate S w k (i + 1) (mix f (poly_of w m i) v)
      clears f nz e =
          let q : List ℕ = poly_of w m i in
          let n : length q ≡ length v = poly_length w m t i p.size l ∙ sym c.size in
          record {
            size = mix-length f q v n ∙ c.size;
            lead = mix-at f q v k n ∙ ap₂ (λ (x y : ℕ). add x (mul f y)) c.lead (p.low i k l (omega arith)) ∙ ap (add 1) (mul-zero f) ∙ add-zero 1;
            high = λ j h.
                mix-at f q v j n ∙ ap₂ (λ (x y : ℕ). add x (mul f y)) (c.high j h) (p.low i j l (omega arith)) ∙ ap (add 0) (mul-zero f) ∙ add-zero 0;
            zeros = one_more (dot (mix f q v) S)
                (λ j h. dot-mix f q v n S j ∙ ap₂ (λ (x y : ℕ). add x (mul f y)) (c.zeros j h) (p.zeros i j l h) ∙ ap (add 0) (mul-zero f) ∙ add-zero 0)
                (dot-mix f q v n S i
                ∙ ap (add (dot v S i)) (ap (λ (x : ℕ). mul x (dot q S i)) e ∙ mul_assoc (dot v S i) (inverse (dot q S i)) (dot q S i)
                ∙ ap (mul (dot v S i)) (mul_comm (inverse (dot q S i)) (dot q S i) ∙ mul-inverse (dot q S i) (dot-lt q S i) nz) ∙ mul-one (dot v S i) (dot-lt v S i))
                ∙ add_self (dot v S i));
          }

      -- it is put in the place of the pivot of equation i
      module _ (m' : List ℕ) (put : m' ≡ sets m (i * w) v) where
        size : length m' ≡ t * w
        size = ap length put ∙ length-sets m (i * w) v ∙ p.size

        byte : (q : ℕ) → get_or m' q 0 ≡ get_or (sets m (i * w) v) q 0
        byte q = ap (λ (x : List ℕ). get_or x q 0) put

        own : poly_of w m' i ≡ v
        own =
            let n : length (poly_of w m' i) ≡ w = poly_length w m' t i size l in
            let fits : i * w + length v ≤ length m = omega (arith, p.size, c.size, fits_part i t w l) in
            ext_get_or 0 (poly_of w m' i) v (n ∙ sym c.size)
            (λ j h. poly_at_lem w m' i j (omega arith) ∙ byte (i * w + j) ∙ get_or-sets_in v m (i * w) j fits (omega (arith, c.size)))

        others : (a : ℕ) → a < t → (a ≡ i → ⊥) → poly_of w m' a ≡ poly_of w m a
        others a h ne =
            let n : length (poly_of w m' a) ≡ w = poly_length w m' t a size h in
            ext_get_or 0 (poly_of w m' a) (poly_of w m a) (n ∙ sym (poly_length w m t a p.size h))
            (λ j b. poly_at_lem w m' a j (omega arith) ∙ outside j (omega arith) (ℕ-lt a i ne) ∙ sym (poly_at_lem w m a j (omega arith)))
          where
            ℕ-lt : (a i : ℕ) → (a ≡ i → ⊥) → (a < i) ⊎ (i < a)
            ℕ-lt zero zero ne = absurd (ne refl)
            ℕ-lt zero (suc i) ne = inl (omega arith)
            ℕ-lt (suc a) zero ne = inr (omega arith)
            ℕ-lt (suc a) (suc i) ne = up (ℕ-lt a i (λ q. ne (ap suc q)))
              where
                up : (a < i) ⊎ (i < a) → (suc a < suc i) ⊎ (suc i < suc a)
                up (inl x) = inl (omega arith)
                up (inr x) = inr (omega arith)

            outside : (j : ℕ) → j < w → (a < i) ⊎ (i < a) → get_or m' (a * w + j) 0 ≡ get_or m (a * w + j) 0
            outside j b (inl x) = byte (a * w + j) ∙ get_d_sets_before v m (i * w) (a * w + j) (omega (arith, fits_part a i w x))
            outside j b (inr x) = byte (a * w + j) ∙ get_or-sets_after v m (i * w) (a * w + j) (omega (arith, fits_part i a w x, c.size))

        pub keeps : dot (poly_of w m i) S i ≡ 0 → (dot v S i ≡ 0 → ⊥) → Pivots S t w (k + 1) m'
        keeps z nz = record {
          size = size;
          zeros = λ a j h b. dite (ℕ_discrete a i)
              (λ q. ap (λ (x : List ℕ). dot x S j) (ap (poly_of w m') q ∙ own) ∙ c.zeros j (omega (arith, q)))
              (λ q. ap (λ (x : List ℕ). dot x S j) (others a h q) ∙ p.zeros a j h b);
          low = λ a j h b. dite (ℕ_discrete a i)
              (λ q. ap (λ (x : List ℕ). get_or x j 0) (ap (poly_of w m') q ∙ own) ∙ c.high j (omega arith))
              (λ q. ap (λ (x : List ℕ). get_or x j 0) (others a h q) ∙ p.low a j h (omega arith));
          used = count_flip (is_pivot S w m) (is_pivot S w m') 0 t i l
              (λ j h ne.
              let e : 0 + j ≡ j = omega arith in
              rw e (sym (ap (λ (x : List ℕ). not (eqb (dot x S j) 0)) (others j h ne))))
              (let e : 0 + i ≡ i = omega arith in rw e (ap not (eq-eqb (dot (poly_of w m i) S i) 0 z)))
              (let e : 0 + i ≡ i = omega arith in
              rw e (ap (λ (x : List ℕ). not (eqb (dot x S i) 0)) own ∙ ap not (ne_eqb (dot v S i) 0 nz)))
              ∙ ap (λ (x : ℕ). x + 1) p.used;
        }

-- coefficients that are 0 add nothing to a key equation
dot-none : (c : List ℕ) (S : ℕ → ℕ) (i : ℕ) → ((j : ℕ) → get_or c j 0 ≡ 0) → dot c S i ≡ 0
unfolding dot
dot-none [] S i h = refl
dot-none (c ∷ cs) S i h = ap₂ add (ap (λ (x : ℕ). mul x (S i)) (h 0) ∙ zero-mul (S i)) (dot-none cs S (suc i) (λ j. h (suc j))) ∙ add_self 0

dot-take : (n : ℕ) (c : List ℕ) (S : ℕ → ℕ) (i : ℕ) → ((j : ℕ) → n ≤ j → get_or c j 0 ≡ 0) → dot (take n c) S i ≡ dot c S i
unfolding dot
dot-take n [] S i h = ap (λ (x : List ℕ). dot x S i) (take_none n)
  where
    take_none : (n : ℕ) → take {A = ℕ} n [] ≡ []
    take_none zero = refl
    take_none (suc n) = refl
dot-take zero (c ∷ cs) S i h = sym (dot-none (c ∷ cs) S i (λ j. h j (omega arith)))
dot-take (suc n) (c ∷ cs) S i h = ap (add (mul c (S i))) (dot-take n cs S (suc i) (λ j l. h (suc j) (omega arith)))

-- a candidate x^k + .. that satisfies all equations is a locator, as far as x^k
pub locates : (S : ℕ → ℕ) (w k : ℕ) (v : List ℕ) → k < w → Candidate S w k (w - 1) v → Locator S (w - 1) (take (k + 1) v)
locates S w k v l c = record {
  size = omega (arith, length-take-le (k + 1) v (omega (arith, c.size, l)));
  some = record { degree = k; lead = get_or-take (k + 1) v k 0 (omega arith) ∙ c.lead };
  zeros = λ i h. dot-take (k + 1) v S i (λ j m. c.high j (omega arith)) ∙ c.zeros i h;
}

-- ---- the steps as the code takes them

part_is : (m : List ℕ) (a w i : ℕ) → a ≡ i * w → take (a + w - a) (drop a m) ≡ poly_of w m i
part_is m a w i e =
    let n : a + w - a ≡ w = omega arith in
    ap₂ (λ (x y : ℕ). take x (drop y m)) n e

module _ (S : ℕ → ℕ) (e k : ℕ) (m v : List ℕ) (i a : ℕ) (l : i < e) (start : a ≡ i * length v) (p : Pivots S e (length v) k m) (c : Candidate S (length v) k i v) where
  abbrev part : List ℕ
  part = take (a + length v - a) (drop a m)

  own_part : dot part S i ≡ dot (poly_of (length v) m i) S i
  own_part = ap (λ (x : List ℕ). dot x S i) (part_is m a (length v) i start)

  pub cleared_holds : dot v S i ≡ 0 → Cleared S e (length v) k (i + 1) m m v true
  cleared_holds z = record { goes = λ q. (refl, holds S e (length v) k i v c z); stops = λ q. absurd (true≢false q) }

  pub cleared_kept : (m' v' : List ℕ) → m' ≡ sets m a v → dot part S i ≡ 0 → (dot v S i ≡ 0 → ⊥) → Cleared S e (length v) k (i + 1) m m' v' false
  cleared_kept m' v' s z nz = record {
    goes = λ q. absurd (false≢true q);
    stops = λ q. keeps S e (length v) k i v c m p l m' (s ∙ ap (λ (x : ℕ). sets m x v) start) (sym own_part ∙ z) nz;
  }

  pub cleared_mixed :
      (f : ℕ) → (dot part S i ≡ 0 → ⊥) → f ≡ mul (dot v S i) (inverse (dot part S i)) → Cleared S e (length v) k (i + 1) m m (mix f part v) true
  cleared_mixed f nz q = record {
    goes = λ r. (
      refl,
      subst (λ (x : List ℕ). Candidate S (length v) k (i + 1) (mix f x v)) (sym (part_is m a (length v) i start))
          (clears S e (length v) k i v c m p l f (λ z. nz (own_part ∙ z)) (q ∙ ap (λ (x : ℕ). mul (dot v S i) (inverse x)) own_part)),
    );
    stops = λ r. absurd (true≢false r);
  }

-- one equation after the others
pub cleared_next : (S : ℕ → ℕ) (e w k i : ℕ) (m₀ m m' v v' : List ℕ) (r : Bool) → length v ≡ w
    → ((e k : ℕ) → i < e → Pivots S e (length v) k m → Candidate S (length v) k i v → Cleared S e (length v) k (i + 1) m m' v' r)
    → i < e → (m ≡ m₀) × Candidate S w k i v → Pivots S e w k m₀ → Cleared S e w k (i + 1) m₀ m' v' r
cleared_next S e w k i m₀ m m' v v' r len f l h p =
    subst (λ (n : ℕ). Cleared S e n k (i + 1) m₀ m' v' r) len
    (subst (λ (x : List ℕ). Cleared S e (length v) k (i + 1) x m' v' r) h.0
    (f e k l (subst (λ (x : List ℕ). Pivots S e (length v) k x) (sym h.0) (subst (λ (n : ℕ). Pivots S e n k m₀) (sym len) p))
    (subst (λ (n : ℕ). Candidate S n k i v) (sym len) h.1)))

-- x^k satisfies none of the equations yet
pub unit_candidate : (S : ℕ → ℕ) (w k : ℕ) → k < w → Candidate S w k 0 (unit w k)
unit_candidate S w k l = record {
  size = length-tabulate (λ j. bit (eqb j k)) w;
  lead = get_d_tabulate (λ j. bit (eqb j k)) w k l ∙ ap bit (eq-eqb k k refl);
  high = λ j h. dite (ℕ_discrete (1 - (w - j)) 0)
      (λ q. get_d_tabulate (λ j. bit (eqb j k)) w j (omega (arith, q)) ∙ ap bit (ne_eqb j k (λ z. omega (arith, z))))
      (λ q. get_or-eq_default (unit w k) 0 (rw (length-tabulate (λ j. bit (eqb j k)) w) (omega (arith, q))));
  zeros = λ j h. absurd (omega arith);
}

-- one power of x after the others
pub reduced : (S : ℕ → ℕ) (w k : ℕ) (m m' u v' : List ℕ) (r : Bool) → u ≡ unit w k → k < w
    → ((k : ℕ) → Pivots S (length u - 1) (length u) k m → Candidate S (length u) k 0 u → Cleared S (length u - 1) (length u) k (length u - 1) m m' v' r)
    → Pivots S (w - 1) w k m → Cleared S (w - 1) w k (w - 1) m m' v' r
reduced S w k m m' u v' r e l f p =
    let len : length u ≡ w = ap length e ∙ length-tabulate (λ j. bit (eqb j k)) w in
    subst (λ (n : ℕ). Cleared S (n - 1) n k (n - 1) m m' v' r) len
    (f k (subst (λ (n : ℕ). Pivots S (n - 1) n k m) (sym len) p)
    (subst (λ (n : ℕ). Candidate S n k 0 u) (sym len) (subst (λ (x : List ℕ). Candidate S w k 0 x) (sym e) (unit_candidate S w k l))))
