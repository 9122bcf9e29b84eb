-- Sums of values times powers of distinct elements: if as many of them are 0 as there are elements, every value is 0.
-- Assumes nothing.
use mathlib.Core.Path.{◌≡◌, refl, sym, ap, ap₂, ◌∙◌}
use mathlib.Core.List.{List, [], ◌∷◌, map}
use mathlib.Core.Logic.{◌≢◌}
use Prim.Native.Nat.{ℕ, zero, suc, ◌<◌, ◌≤◌}
use native.Mathlib.Nat.{not-suc-le-zero}
use native.Mathlib.Omega.{arith}
use lib.ListN.{length, length-map}
use Rattle.field.specs.Field.{add, mul, pow}
use Rattle.field.proofs.Field.{add_self, add_swap, add-zero, zero-add, eq_of_add, add-lt, add-mul, mul-add, mul_assoc, mul_comm, mul_left_comm, mul-zero, zero-mul, mul-one, mul-lt, zero_of_mul}
use Rattle.field.proofs.Powers.{pow-zero, pow-suc}

-- an error: its locator, and its value
pub record Err : Type 0 where
  pub loc : ℕ
  pub val : ℕ

-- the sum over the errors of value times the i-th power of the locator
unfoldable pub sum : List Err → ℕ → ℕ
sum [] i = 0
sum (e ∷ es) i = add (mul e.val (pow e.loc i)) (sum es i)

abbrev pub All : (Err → Type 0) → List Err → Type 0
All P [] = Unit {0}
All P (e ∷ es) = P e × All P es

abbrev pub Small : Err → Type 0
Small e = (e.loc < 256) × (e.val < 256)

abbrev pub Distinct : List Err → Type 0
Distinct [] = Unit {0}
Distinct (e ∷ es) = All (λ d. d.loc ≢ e.loc) es × Distinct es

-- each value times what its locator differs from x
abbrev pub less : ℕ → Err → Err
less x e = record { loc = e.loc; val = mul e.val (add e.loc x) }

pub All-map : (P Q : Err → Type 0) (f : Err → Err) → ((e : Err) → P e → Q (f e)) → (es : List Err) → All P es → All Q (map f es)
All-map P Q f h [] a = tt
All-map P Q f h (e ∷ es) a = (h e a.0, All-map P Q f h es a.1)

-- and back, where a second property holds too
pub All-back : (P Q R : Err → Type 0) (f : Err → Err) → ((e : Err) → P e → Q (f e) → R e) → (es : List Err) → All P es → All Q (map f es) → All R es
All-back P Q R f h [] p q = tt
All-back P Q R f h (e ∷ es) p q = (h e p.0 q.0, All-back P Q R f h es p.1 q.1)

pub All-and : (P Q : Err → Type 0) (es : List Err) → All P es → All Q es → All (λ e. P e × Q e) es
All-and P Q [] p q = tt
All-and P Q (e ∷ es) p q = ((p.0, q.0), All-and P Q es p.1 q.1)

pub All-loc : (x : ℕ) (f : Err → Err) → ((e : Err) → (f e).loc ≡ e.loc) → (es : List Err) → All (λ d. d.loc ≢ x) es → All (λ d. d.loc ≢ x) (map f es)
All-loc x f h = All-map (λ d. d.loc ≢ x) (λ d. d.loc ≢ x) f (λ d a e. a (sym (h d) ∙ e))

pub Distinct-map : (f : Err → Err) → ((e : Err) → (f e).loc ≡ e.loc) → (es : List Err) → Distinct es → Distinct (map f es)
Distinct-map f h [] d = tt
Distinct-map f h (e ∷ es) d = (rw (h e) (All-loc e.loc f h es d.0), Distinct-map f h es d.1)

pub term : (x l v i : ℕ) → l < 256 → add (mul v (pow l (suc i))) (mul x (mul v (pow l i))) ≡ mul (mul v (add l x)) (pow l i)
term x l v i hl = rw (pow-suc l hl i) (simp (mul-add, add-mul, mul_assoc, mul_left_comm))

-- one sum and x times the one before it: the sum of what is less by x
pub sum_less : (x : ℕ) (es : List Err) → All Small es → (i : ℕ) → add (sum es (suc i)) (mul x (sum es i)) ≡ sum (map (less x) es) i
unfolding sum
sum_less x [] a i = zero-add (mul x 0) ∙ mul-zero x
sum_less x (e ∷ es) a i =
    ap (add (add (mul e.val (pow e.loc (suc i))) (sum es (suc i)))) (mul-add x (mul e.val (pow e.loc i)) (sum es i))
    ∙ add_swap (mul e.val (pow e.loc (suc i))) (sum es (suc i)) (mul x (mul e.val (pow e.loc i))) (mul x (sum es i))
    ∙ ap₂ add (term x e.loc e.val i a.0.0) (sum_less x es a.1 i)

pub own : (l v p s : ℕ) → add (mul (mul v (add l l)) p) s ≡ s
own l v p s = simp (add_self, mul-zero, zero-mul, zero-add)

pub sum_zeros : (es : List Err) → All (λ e. e.val ≡ 0) es → (i : ℕ) → sum es i ≡ 0
unfolding sum
sum_zeros [] z i = refl
sum_zeros (e ∷ es) z i = ap₂ add (ap (λ (v : ℕ). mul v (pow e.loc i)) z.0 ∙ zero-mul (pow e.loc i)) (sum_zeros es z.1 i) ∙ add_self 0

-- the step: one error less and one sum less
module _ (e : Err) (es : List Err) (s : All Small (e ∷ es)) where
  lessened : (i : ℕ) → sum (e ∷ es) (suc i) ≡ 0 → sum (e ∷ es) i ≡ 0 → sum (map (less e.loc) es) i ≡ 0
  unfolding sum
  lessened i p q =
      sym (own e.loc e.val (pow e.loc i) (sum (map (less e.loc) es) i))
      ∙ sym (sum_less e.loc (e ∷ es) s i) ∙ ap₂ add p (ap (mul e.loc) q ∙ mul-zero e.loc) ∙ add_self 0

  rest_zero : All (λ d. d.loc ≢ e.loc) es → All (λ d. d.val ≡ 0) (map (less e.loc) es) → All (λ d. d.val ≡ 0) es
  rest_zero a z =
      All-back (λ d. Small d × (d.loc ≢ e.loc)) (λ d. d.val ≡ 0) (λ d. d.val ≡ 0) (less e.loc)
      (λ d h q. zero_of_mul (add d.loc e.loc) d.val (add-lt h.0.0 s.0.0) h.0.1
      (λ r. h.1 (eq_of_add d.loc e.loc r)) (mul_comm (add d.loc e.loc) d.val ∙ q))
      es (All-and Small (λ d. d.loc ≢ e.loc) es s.1 a) z

  first_zero : All (λ d. d.val ≡ 0) es → sum (e ∷ es) 0 ≡ 0 → e.val ≡ 0
  unfolding sum
  first_zero z q =
      sym (mul-one e.val s.0.1) ∙ ap (mul e.val) (sym (pow-zero e.loc))
      ∙ sym (add-zero (mul e.val (pow e.loc 0))) ∙ ap (add (mul e.val (pow e.loc 0))) (sym (sum_zeros es z 0)) ∙ q

-- the sums 0 .. n-1 of at most n errors with distinct locators are 0 only where every value is
pub vandermonde : (n : ℕ) (es : List Err) → length es ≤ n → All Small es → Distinct es
    → ((i : ℕ) → i < n → sum es i ≡ 0) → All (λ e. e.val ≡ 0) es
vandermonde zero [] l s d z = tt
vandermonde zero (e ∷ es) l s d z = absurd (not-suc-le-zero l)
vandermonde (suc n) [] l s d z = tt
vandermonde (suc n) (e ∷ es) l s d z =
    let r : All (λ d. d.val ≡ 0) es =
    rest_zero e es s d.0
    (vandermonde n (map (less e.loc) es) (omega (arith, length-map es (less e.loc)))
    (All-map Small Small (less e.loc) (λ d h. (h.0, mul-lt d.val (add d.loc e.loc))) es s.1)
    (Distinct-map (less e.loc) (λ d. refl) es d.1)
    (λ i hi. lessened e es s i (z (suc i) (omega arith)) (z i (omega arith)))) in
    (first_zero e es s r (z 0 (omega arith)), r)
