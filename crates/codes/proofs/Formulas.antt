-- The formulas of one and of two wrong bytes, from the sums alone, over length and number of sums.
--   one_explains, two_explain         what the formulas give explains the sums, where all of them follow from the two before them
--   OneWrong, TwoWrong                what each formula gives of the sums of one wrong byte, and of two
--   unexplained_one, unexplained_two  so sums of which that does not hold are not those of one wrong byte, or of two
--   root_cases, other_inside          the roots of x² + a x + b: there are two, and where one stands among the places, where the other stands
-- Assumes nothing.
use mathlib.Core.Path.{◌≡◌, refl, sym, ap, ap₂, ◌∙◌, ◌≡⟨◌⟩◌, ◌∎}
use mathlib.Core.Bool.{true, false}
use mathlib.Core.List.{List, [], ◌∷◌}
use mathlib.Core.Logic.{◌≢◌, dite, ◌⊎◌, inl, inr}
use Prim.Native.Nat.{ℕ, zero, suc, ◌+◌, ◌-◌, ◌<◌, ◌≤◌}
use native.Mathlib.Decide.{ℕ_discrete}
use native.Mathlib.Omega.{arith}
use borrow.Author.Tests.{eq-eqb, ne_eqb}
use lib.Dec.{eqb, eqb→eq}
use Rattle.lists.proofs.Test.{below_at, below_all, below_false, truth, truth_of}
use Rattle.field.specs.Field.{add, mul, pow, inverse}
use Rattle.field.proofs.Field.{add_assoc, add_comm, add_left_comm, add_self, add-zero, zero-add, add_cancel, eq_of_add, add-lt, add-mul, mul-add, mul_assoc, mul_comm, mul_left_comm, mul-zero, mul-one, mul-lt, zero_of_mul}
use Rattle.field.proofs.Powers.{pow-zero, pow-suc, alpha_lt, alpha_nonzero, powers_differ}
use Rattle.field.proofs.Inverse.{mul-inverse}
use Rattle.field.proofs.Tables.{same_logarithm}
use Rattle.codes.specs.Inner.{sum_of, SumsOf, Inside, Explains, InOrder, Unexplained, follows, determinant, cramer_a, cramer_b}
use Rattle.codes.specs.declared.WrongByte.{WrongByte}

-- ---- the field

-- b times a over b
times_over : (a b : ℕ) → a < 256 → b < 256 → b ≢ 0 → mul b (mul a (inverse b)) ≡ a
times_over a b ha hb nz = mul_left_comm b a (inverse b) ∙ ap (mul a) (mul-inverse b hb nz) ∙ mul-one a ha

-- a b over b
over_times : (a b c : ℕ) → a < 256 → b < 256 → b ≢ 0 → c ≡ mul a b → mul c (inverse b) ≡ a
over_times a b c ha hb nz e = ap (λ (x : ℕ). mul x (inverse b)) e ∙ mul_assoc a b (inverse b) ∙ ap (mul a) (mul-inverse b hb nz) ∙ mul-one a ha

pub over_nonzero : (a b : ℕ) → a < 256 → b < 256 → a ≢ 0 → b ≢ 0 → 0 < mul a (inverse b)
over_nonzero a b ha hb na nb =
    dite (ℕ_discrete (mul a (inverse b)) 0) (λ z. absurd (na (sym (times_over a b ha hb nb) ∙ ap (mul b) z ∙ mul-zero b))) (λ nz. omega (arith, nz))

product_nonzero : (a b : ℕ) → a < 256 → b < 256 → a ≢ 0 → b ≢ 0 → mul a b ≢ 0
product_nonzero a b ha hb na nb e = nb (zero_of_mul a b ha hb na e)

nonzero : (a : ℕ) → 0 < a → a ≢ 0
nonzero a h e = omega (arith, h, e)

-- ---- sums that follow from the two before them

-- sum i + 2 is a times the one before it and b times the one before that
abbrev Next : (ℕ → ℕ) → ℕ → ℕ → ℕ → Type 0
Next S a b i = S (suc (suc i)) ≡ add (mul a (S (suc i))) (mul b (S i))

module _ (S : ℕ → ℕ) (p a b : ℕ) where
  -- the test as the loop over the sums makes it
  abbrev due : ℕ → ℕ
  due i = add (mul a (S (i + 1))) (mul b (S i))

  pub follows_true : ((i : ℕ) → i < p - 2 → S (i + 2) ≡ due i) → follows S p a b ≡ true
  unfolding follows
  follows_true h = truth _ (below_all (p - 2) (λ i. eqb (S (i + 2)) (due i)) (λ i l. truth_of _ (eq-eqb (S (i + 2)) (due i) (h i l))))

  pub follows_false : (i : ℕ) → i < p - 2 → (S (i + 2) ≡ due i → ⊥) → follows S p a b ≡ false
  unfolding follows
  follows_false i l ne = below_false (p - 2) (λ i. eqb (S (i + 2)) (due i)) i l (ne_eqb (S (i + 2)) (due i) ne)

  step : (i : ℕ) → (i + 2 ≡ suc (suc i)) × (i + 1 ≡ suc i)
  step i = (omega arith, omega arith)

  follows-at : follows S p a b ≡ true → (i : ℕ) → suc (suc i) < p → Next S a b i
  unfolding follows
  follows-at h i l =
      sym (ap S (step i).0) ∙ eqb→eq (S (i + 2)) (due i) (below_at (p - 2) (λ i. eqb (S (i + 2)) (due i)) (truth_of _ h) i (omega arith))
      ∙ ap (λ (j : ℕ). add (mul a (S j)) (mul b (S i))) (step i).1

  follows_all : ((i : ℕ) → suc (suc i) < p → Next S a b i) → follows S p a b ≡ true
  follows_all h =
      follows_true (λ i l. ap S (step i).0 ∙ h i (omega arith) ∙ sym (ap (λ (j : ℕ). add (mul a (S j)) (mul b (S i))) (step i).1))

-- two such lists of sums that begin alike are alike
module _ (S T : ℕ → ℕ) (p a b : ℕ) (fs : (i : ℕ) → suc (suc i) < p → Next S a b i) (ft : (i : ℕ) → Next T a b i) (first : S 0 ≡ T 0) (second : S 1 ≡ T 1) where
  two_alike : (i : ℕ) → suc i < p → (S i ≡ T i) × (S (suc i) ≡ T (suc i))
  two_alike zero l = (first, second)
  two_alike (suc i) l =
      let h = two_alike i (omega arith) in
      (h.1, fs i l ∙ ap₂ (λ (x y : ℕ). add (mul a x) (mul b y)) h.1 h.0 ∙ sym (ft i))

  alike : (i : ℕ) → i < p → S i ≡ T i
  alike zero l = first
  alike (suc i) l = (two_alike i l).1

-- every locator is a root of x² + a x + b
Roots : ℕ → ℕ → List WrongByte → Type 0
Roots a b [] = Unit {0}
Roots a b (e ∷ es) = (mul (pow 2 e.place) (add (pow 2 e.place) a) ≡ b) × Roots a b es

root_term : (a x v p : ℕ) → mul v (mul x (mul x p)) ≡ add (mul a (mul v (mul x p))) (mul (mul x (add x a)) (mul v p))
root_term a x v p = simp (mul-add, add-mul, mul_assoc, mul_left_comm, mul_comm, add_comm, add_cancel)

both_terms : (a b s t q r : ℕ) → add (add (mul a s) (mul b t)) (add (mul a q) (mul b r)) ≡ add (mul a (add s q)) (mul b (add t r))
both_terms a b s t q r = simp (mul-add, add_assoc, add_left_comm)

-- then their sums follow from the two before them
roots_next : (a b : ℕ) (es : List WrongByte) → Roots a b es → (i : ℕ) → Next (sum_of es) a b i
unfolding Roots sum_of
roots_next a b [] r i = sym (ap₂ add (mul-zero a) (mul-zero b) ∙ add_self 0)
roots_next a b (e ∷ es) r i =
    let x : ℕ = pow 2 e.place in
    let v : ℕ = e.value in
    let hx : x < 256 = alpha_lt e.place in
    ap₂ add
    (ap (mul v) (pow-suc x hx (suc i) ∙ ap (mul x) (pow-suc x hx i)) ∙ root_term a x v (pow x i)
    ∙ ap₂ (λ (y z : ℕ). add (mul a (mul v y)) (mul z (mul v (pow x i)))) (sym (pow-suc x hx i)) r.0)
    (roots_next a b es r.1 i)
    ∙ both_terms a b (mul v (pow x (suc i))) (mul v (pow x i)) (sum_of es (suc i)) (sum_of es i)

-- the first two sums
sum_0 : (e : WrongByte) (es : List WrongByte) → e.value < 256 → sum_of (e ∷ es) 0 ≡ add e.value (sum_of es 0)
unfolding sum_of
sum_0 e es h = ap (λ (y : ℕ). add y (sum_of es 0)) (ap (mul e.value) (pow-zero (pow 2 e.place)) ∙ mul-one e.value h)

sum_1 : (e : WrongByte) (es : List WrongByte) → sum_of (e ∷ es) 1 ≡ add (mul e.value (pow 2 e.place)) (sum_of es 1)
unfolding sum_of
sum_1 e es =
    let x : ℕ = pow 2 e.place in
    ap (λ (y : ℕ). add (mul e.value y) (sum_of es 1)) (pow-suc x (alpha_lt e.place) 0 ∙ ap (mul x) (pow-zero x) ∙ mul-one x (alpha_lt e.place))

sum-none : (i : ℕ) → sum_of [] i ≡ 0
unfolding sum_of
sum-none i = refl

-- u X + v Y for Y = X + a, where a v = S1 + X S0 and u = S0 + v
second-sum : (s0 s1 x v a : ℕ) → mul a v ≡ add s1 (mul x s0) → add (mul (add s0 v) x) (add (mul v (add x a)) 0) ≡ s1
second-sum s0 s1 x v a e =
    add (mul (add s0 v) x) (add (mul v (add x a)) 0)
    ≡⟨ (simp (add-mul, mul-add, mul_comm, add_assoc, add_comm, zero-add, add_cancel)) ⟩
    add (mul x s0) (mul a v)
    ≡⟨ ap (add (mul x s0)) (e ∙ add_comm s1 (mul x s0)) ⟩
    add (mul x s0) (add (mul x s0) s1)
    ≡⟨ add_cancel (mul x s0) s1 ⟩
    s1 ∎

-- ---- what the formulas give

-- S are p sums of a word of n bytes
module _ (S : ℕ → ℕ) (p n : ℕ) (small : (i : ℕ) → S i < 256) where
  -- X = S1 / S0 is the locator of place k, S0 the value
  pub one_explains :
      (k : ℕ) → S 0 ≢ 0 → k < n → pow 2 k ≡ mul (S 1) (inverse (S 0)) → follows S p (mul (S 1) (inverse (S 0))) 0 ≡ true
      → Explains S p n (record { place = k; value = S 0 } ∷ [])
  unfolding Inside Roots
  one_explains k nz l ek h =
      let x : ℕ = mul (S 1) (inverse (S 0)) in
      let e : WrongByte = record { place = k; value = S 0 } in
      let root : mul (pow 2 k) (add (pow 2 k) x) ≡ 0 = ap (λ (y : ℕ). mul (pow 2 k) (add y x)) ek ∙ ap (mul (pow 2 k)) (add_self x) ∙ mul-zero (pow 2 k) in
      record {
        inside = (l, small 0, tt);
        sums =
            alike S (sum_of (e ∷ [])) p x 0 (follows-at S p x 0 h) (roots_next x 0 (e ∷ []) (root, tt))
            (sym (sum_0 e [] (small 0) ∙ ap (add (S 0)) (sum-none 0) ∙ add-zero (S 0)))
            (sym (sum_1 e [] ∙ ap₂ add (ap (mul (S 0)) ek ∙ times_over (S 1) (S 0) (small 1) (small 0) nz) (sum-none 1) ∙ add-zero (S 1)));
      }

  -- X is the locator of place k and Y = X + a that of place l; v = (S1 + X S0) / a is the value at Y, S0 + v that at X
  pub two_explain :
      (a b k l v : ℕ) → a < 256 → a ≢ 0 → k < n → l < n → mul (pow 2 k) (add (pow 2 k) a) ≡ b → pow 2 l ≡ add (pow 2 k) a
      → v ≡ mul (add (S 1) (mul (pow 2 k) (S 0))) (inverse a) → follows S p a b ≡ true
      → Explains S p n (record { place = k; value = add (S 0) v } ∷ record { place = l; value = v } ∷ [])
  unfolding Inside Roots
  two_explain a b k l v ha nz hk hl root el ev h =
      let x : ℕ = pow 2 k in
      let top : ℕ = add (S 1) (mul x (S 0)) in
      let e : WrongByte = record { place = k; value = add (S 0) v } in
      let f : WrongByte = record { place = l; value = v } in
      let hv : v < 256 = rw ev (mul-lt top (inverse a)) in
      let other : mul (pow 2 l) (add (pow 2 l) a) ≡ b =
      ap (λ (y : ℕ). mul y (add y a)) el ∙ ap (mul (add x a)) (ap (λ (y : ℕ). add y a) (add_comm x a) ∙ add_comm (add a x) a ∙ add_cancel a x)
      ∙ mul_comm (add x a) x ∙ root in
      let av : mul a v ≡ top = ap (mul a) ev ∙ times_over top a (add-lt (small 1) (mul-lt x (S 0))) ha nz in
      record {
        inside = (hk, add-lt (small 0) hv, (hl, hv, tt));
        sums =
            alike S (sum_of (e ∷ f ∷ [])) p a b (follows-at S p a b h) (roots_next a b (e ∷ f ∷ []) (root, (other, tt)))
            (sym (sum_0 e (f ∷ []) (add-lt (small 0) hv) ∙ ap (add (add (S 0) v)) (sum_0 f [] hv ∙ ap (add v) (sum-none 0)) ∙ simp (add_assoc, add-zero, add_self)))
            (sym (sum_1 e (f ∷ []) ∙ ap (add (mul (add (S 0) v) x)) (sum_1 f [] ∙ ap₂ (λ (y z : ℕ). add (mul v y) z) el (sum-none 1)) ∙ second-sum (S 0) (S 1) x v a av));
      }

-- ---- the sums of one wrong byte

-- what the formulas give of the sums S of the wrong byte e
pub record OneWrong (S : ℕ → ℕ) (p : ℕ) (e : WrongByte) : Type 0 where
  pub first : S 0 ≢ 0
  pub second : S 1 ≢ 0
  pub locator : mul (S 1) (inverse (S 0)) ≡ pow 2 e.place
  pub follow : follows S p (mul (S 1) (inverse (S 0))) 0 ≡ true

-- e is the only wrong byte of a word of n bytes, and S are p sums of it
module _ (S : ℕ → ℕ) (p n : ℕ) (two : 2 ≤ p) (e : WrongByte) (order : InOrder n (e ∷ [])) (sums : SumsOf S p (e ∷ [])) where
  wrong : (0 < e.value) × (e.value < 256)
  unfolding InOrder
  wrong = (order.1, order.2)

  abbrev x : ℕ
  x = pow 2 e.place

  one_0 : S 0 ≡ e.value
  one_0 = sums 0 (omega arith) ∙ sum_0 e [] wrong.1 ∙ ap (add e.value) (sum-none 0) ∙ add-zero e.value

  one_1 : S 1 ≡ mul e.value x
  one_1 = sums 1 (omega arith) ∙ sum_1 e [] ∙ ap (add (mul e.value x)) (sum-none 1) ∙ add-zero (mul e.value x)

  quotient : mul (S 1) (inverse (S 0)) ≡ x
  quotient =
      ap (λ (s : ℕ). mul (S 1) (inverse s)) one_0
      ∙ over_times x e.value (S 1) (alpha_lt e.place) wrong.1 (nonzero e.value wrong.0) (one_1 ∙ mul_comm e.value x)

  pub one_wrong : OneWrong S p e
  unfolding Roots
  one_wrong = record {
    first = λ z. nonzero e.value wrong.0 (sym one_0 ∙ z);
    second = λ z. product_nonzero e.value x wrong.1 (alpha_lt e.place) (nonzero e.value wrong.0) (alpha_nonzero e.place) (sym one_1 ∙ z);
    locator = quotient;
    follow =
        follows_all S p (mul (S 1) (inverse (S 0))) 0
        (λ i l. sums (suc (suc i)) l
        ∙ roots_next (mul (S 1) (inverse (S 0))) 0 (e ∷ []) (root, tt) i
        ∙ sym (ap₂ (λ (y z : ℕ). add (mul (mul (S 1) (inverse (S 0))) y) (mul 0 z)) (sums (suc i) (omega arith)) (sums i (omega arith))));
  }
    where
      root : mul x (add x (mul (S 1) (inverse (S 0)))) ≡ 0
      root = ap (λ (y : ℕ). mul x (add x y)) quotient ∙ ap (mul x) (add_self x) ∙ mul-zero x

-- so no one wrong byte explains sums of which that does not hold
pub unexplained_one : (S : ℕ → ℕ) (p n : ℕ) → 2 ≤ p → ((e : WrongByte) → e.place < n → OneWrong S p e → ⊥) → Unexplained S p n 1
unfolding InOrder
unexplained_one S p n two never [] l order sums = omega arith
unexplained_one S p n two never (e ∷ []) l order sums = never e order.0 (one_wrong S p n two e order sums)
unexplained_one S p n two never (e ∷ f ∷ es) l order sums = omega arith

-- ---- the sums of two wrong bytes

-- what the formulas give of the sums S of the wrong bytes e and f
pub record TwoWrong (S : ℕ → ℕ) (p : ℕ) (e f : WrongByte) : Type 0 where
  pub regular : determinant S ≢ 0
  pub sum : cramer_a S ≡ add (pow 2 e.place) (pow 2 f.place)
  pub product : cramer_b S ≡ mul (pow 2 e.place) (pow 2 f.place)
  pub apart : add (pow 2 e.place) (pow 2 f.place) ≢ 0
  pub solid : mul (pow 2 e.place) (pow 2 f.place) ≢ 0
  pub follow : follows S p (cramer_a S) (cramer_b S) ≡ true

-- the numerators, where S2 = a S1 + b S0 and S3 = a S2 + b S1
numerator_a : (a b s0 s1 s2 : ℕ) → add (mul s1 (add (mul a s1) (mul b s0))) (mul s0 (add (mul a s2) (mul b s1))) ≡ mul a (add (mul s1 s1) (mul s0 s2))
numerator_a a b s0 s1 s2 = simp (mul-add, mul_left_comm, mul_comm, add_assoc, add_left_comm, add_comm, add_self, zero-add)

numerator_b : (a b s0 s1 s2 : ℕ) → add (mul s2 (add (mul a s1) (mul b s0))) (mul s1 (add (mul a s2) (mul b s1))) ≡ mul b (add (mul s1 s1) (mul s0 s2))
numerator_b a b s0 s1 s2 = simp (mul-add, mul_left_comm, mul_comm, add_assoc, add_left_comm, add_comm, add_cancel)

-- the determinant, where S0 = u + v, S1 = u x + v y and S2 = (x + y) S1 + x y S0
two-determinant : (u v x y : ℕ) →
    let s0 = add u v in
    let s1 = add (mul u x) (mul v y) in
    add (mul s1 s1) (mul s0 (add (mul (add x y) s1) (mul (mul x y) s0))) ≡ mul (mul u v) (mul (add x y) (add x y))
two-determinant u v x y = simp (mul-add, add-mul, mul_assoc, mul_left_comm, mul_comm, add_assoc, add_left_comm, add_comm, add_cancel, add_self, zero-add)

-- e and f are the wrong bytes of a word of n bytes, and S are p sums of it
module _ (S : ℕ → ℕ) (p n : ℕ) (four : 4 ≤ p) (short : n ≤ 255) (e f : WrongByte) (order : InOrder n (e ∷ f ∷ [])) (sums : SumsOf S p (e ∷ f ∷ [])) where
  abbrev X : ℕ
  X = pow 2 e.place

  abbrev Y : ℕ
  Y = pow 2 f.place

  placed : (f.place < e.place) × (e.place < n)
  unfolding InOrder
  placed = (order.3.0, order.0)

  bytes : (e.value < 256) × (f.value < 256)
  unfolding InOrder
  bytes = (order.2, order.3.2)

  wrongs : (e.value ≢ 0) × (f.value ≢ 0)
  unfolding InOrder
  wrongs = (nonzero e.value order.1, nonzero f.value order.3.1)

  differ : add X Y ≢ 0
  differ z = powers_differ f.place e.place placed.0 (omega (arith, placed.1)) (sym (eq_of_add X Y z))

  two_0 : S 0 ≡ add e.value f.value
  two_0 = sums 0 (omega arith) ∙ sum_0 e (f ∷ []) bytes.0 ∙ ap (add e.value) (sum_0 f [] bytes.1 ∙ ap (add f.value) (sum-none 0) ∙ add-zero f.value)

  two_1 : S 1 ≡ add (mul e.value X) (mul f.value Y)
  two_1 = sums 1 (omega arith) ∙ sum_1 e (f ∷ []) ∙ ap (add (mul e.value X)) (sum_1 f [] ∙ ap (add (mul f.value Y)) (sum-none 1) ∙ add-zero (mul f.value Y))

  -- X and Y are the roots of x² + (X + Y) x + X Y
  both_roots : Roots (add X Y) (mul X Y) (e ∷ f ∷ [])
  unfolding Roots
  both_roots = (ap (mul X) (add_cancel X Y), (ap (mul Y) (ap (add Y) (add_comm X Y) ∙ add_cancel Y X) ∙ mul_comm Y X, tt))

  next : (i : ℕ) → suc (suc i) < p → Next S (add X Y) (mul X Y) i
  next i l =
      sums (suc (suc i)) l ∙ roots_next (add X Y) (mul X Y) (e ∷ f ∷ []) both_roots i
      ∙ sym (ap₂ (λ (y z : ℕ). add (mul (add X Y) y) (mul (mul X Y) z)) (sums (suc i) (omega arith)) (sums i (omega arith)))

  two_regular : determinant S ≢ 0
  two_regular z =
      product_nonzero (mul e.value f.value) (mul (add X Y) (add X Y)) (mul-lt e.value f.value) (mul-lt (add X Y) (add X Y))
      (product_nonzero e.value f.value bytes.0 bytes.1 wrongs.0 wrongs.1)
      (product_nonzero (add X Y) (add X Y) sum_small sum_small differ differ) (sym value ∙ z)
    where
      sum_small : add X Y < 256
      sum_small = add-lt (alpha_lt e.place) (alpha_lt f.place)

      value : determinant S ≡ mul (mul e.value f.value) (mul (add X Y) (add X Y))
      value =
          ap (λ (s : ℕ). add (mul (S 1) (S 1)) (mul (S 0) s)) (next 0 (omega arith))
          ∙ ap₂ (λ (s0 s1 : ℕ). add (mul s1 s1) (mul s0 (add (mul (add X Y) s1) (mul (mul X Y) s0)))) two_0 two_1
          ∙ two-determinant e.value f.value X Y

  pub two_wrong : TwoWrong S p e f
  two_wrong = record {
    regular = two_regular;
    sum = is_sum;
    product = is_product;
    apart = differ;
    solid = product_nonzero X Y (alpha_lt e.place) (alpha_lt f.place) (alpha_nonzero e.place) (alpha_nonzero f.place);
    follow = ap₂ (follows S p) is_sum is_product ∙ follows_all S p (add X Y) (mul X Y) next;
  }
    where
      small : determinant S < 256
      small = add-lt (mul-lt (S 1) (S 1)) (mul-lt (S 0) (S 2))

      is_sum : cramer_a S ≡ add X Y
      is_sum =
          over_times (add X Y) (determinant S) (add (mul (S 1) (S 2)) (mul (S 0) (S 3))) (add-lt (alpha_lt e.place) (alpha_lt f.place)) small two_regular
          (ap₂ (λ (s2 s3 : ℕ). add (mul (S 1) s2) (mul (S 0) s3)) (next 0 (omega arith)) (next 1 (omega arith)) ∙ numerator_a (add X Y) (mul X Y) (S 0) (S 1) (S 2))

      is_product : cramer_b S ≡ mul X Y
      is_product =
          over_times (mul X Y) (determinant S) (add (mul (S 2) (S 2)) (mul (S 1) (S 3))) (mul-lt X Y) small two_regular
          (ap₂ (λ (s2 s3 : ℕ). add (mul (S 2) s2) (mul (S 1) s3)) (next 0 (omega arith)) (next 1 (omega arith)) ∙ numerator_b (add X Y) (mul X Y) (S 0) (S 1) (S 2))

pub unexplained_two :
    (S : ℕ → ℕ) (p n : ℕ) → 4 ≤ p → n ≤ 255 → ((e f : WrongByte) → e.place < n → f.place < n → TwoWrong S p e f → ⊥) → Unexplained S p n 2
unfolding InOrder
unexplained_two S p n four short never [] l order sums = omega arith
unexplained_two S p n four short never (e ∷ []) l order sums = omega arith
unexplained_two S p n four short never (e ∷ f ∷ []) l order sums =
    never e f order.0 (omega (arith, order.0, order.3.0)) (two_wrong S p n four short e f order sums)
unexplained_two S p n four short never (e ∷ f ∷ g ∷ es) l order sums = omega arith

-- ---- the roots of x² + (X + Y) x + X Y

root_product : (x y z : ℕ) → mul (add z x) (add z y) ≡ add (mul z (add z (add x y))) (mul x y)
root_product x y z = simp (mul-add, add-mul, mul_comm, add_assoc, add_left_comm, add_comm)

-- x or y, and no other
pub root_cases : (x y z : ℕ) → x < 256 → y < 256 → z < 256 → mul z (add z (add x y)) ≡ mul x y → (z ≡ x) ⊎ (z ≡ y)
root_cases x y z hx hy hz e = dite (ℕ_discrete (add z x) 0)
    (λ q. inl (eq_of_add z x q))
    (λ q. inr (eq_of_add z y (zero_of_mul (add z x) (add z y) (add-lt hz hx) (add-lt hz hy) q
    (root_product x y z ∙ ap (λ (u : ℕ). add u (mul x y)) e ∙ add_self (mul x y)))))

-- where the roots are the locators of places k and l below n, whichever of them is at `place`, the other stands below n too
pub other_inside :
    (n a b place other k l : ℕ) → n ≤ 255 → mul (pow 2 place) (add (pow 2 place) a) ≡ b → pow 2 other ≡ add (pow 2 place) a → other < 255
    → k < n → l < n → a ≡ add (pow 2 k) (pow 2 l) → b ≡ mul (pow 2 k) (pow 2 l) → other < n
other_inside n a b place other k l short root eo ho hk hl ea eb = go (root_cases (pow 2 k) (pow 2 l) (pow 2 place) (alpha_lt k) (alpha_lt l) (alpha_lt place) at)
  where
    at : mul (pow 2 place) (add (pow 2 place) (add (pow 2 k) (pow 2 l))) ≡ mul (pow 2 k) (pow 2 l)
    at = ap (λ (s : ℕ). mul (pow 2 place) (add (pow 2 place) s)) (sym ea) ∙ root ∙ eb

    go : (pow 2 place ≡ pow 2 k) ⊎ (pow 2 place ≡ pow 2 l) → other < n
    go (inl e) = omega (arith, hl, same_logarithm other l ho (omega arith) (eo ∙ ap₂ add e ea ∙ add_cancel (pow 2 k) (pow 2 l)))
    go (inr e) = omega (arith, hk, same_logarithm other k ho (omega arith) (eo ∙ ap₂ add e (ea ∙ add_comm (pow 2 k) (pow 2 l)) ∙ add_cancel (pow 2 l) (pow 2 k)))

-- and each of them is a root
pub first_is_root : (a b k l : ℕ) → a ≡ add (pow 2 k) (pow 2 l) → b ≡ mul (pow 2 k) (pow 2 l) → mul (pow 2 k) (add (pow 2 k) a) ≡ b
first_is_root a b k l ea eb = ap (λ (s : ℕ). mul (pow 2 k) (add (pow 2 k) s)) ea ∙ ap (mul (pow 2 k)) (add_cancel (pow 2 k) (pow 2 l)) ∙ sym eb

-- neither root is 0 where b is not
pub other_nonzero : (a b x : ℕ) → mul x (add x a) ≡ b → 0 < b → 0 < add x a
other_nonzero a b x root pos =
    dite (ℕ_discrete (add x a) 0) (λ z. absurd (nonzero b pos (sym root ∙ ap (mul x) z ∙ mul-zero x))) (λ nz. omega (arith, nz))
