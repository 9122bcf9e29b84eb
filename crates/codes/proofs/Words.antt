-- Rows: the sums at the roots are linear, and are those of the row's errors against the row of zeros; so two code rows that differ in few places are one.
-- Assumes nothing.
use mathlib.Core.Path.{◌≡◌, refl, sym, ap, ap₂, ◌∙◌, subst}
use mathlib.Core.List.{List, [], ◌∷◌}
use mathlib.Core.Logic.{◌≢◌}
use Prim.Native.Nat.{ℕ, zero, suc, ◌+◌, ◌<◌, ◌≤◌}
use native.Mathlib.Omega.{arith}
use lib.ListN.{length, get_or, drop, drop_of_length-le}
use lib.Seq.{drop-cons}
use native.Mathlib.Numerals.{add-one}
use Rattle.field.specs.Field.{add, mul, pow}
use lib.Dec.{T, eqb, eqb→eq}
use borrow.Author.Tests.{eq-eqb}
use Rattle.lists.specs.Bytes.{Bytes}
use Rattle.lists.proofs.Test.{below_at, below_all, truth_of}
use Rattle.codes.specs.Word.{value_from, value_at, syndrome, is_code}
use Rattle.codes.specs.Parity.{add_words}
use Rattle.field.proofs.Field.{add_assoc, add_self, add_swap, add-zero, zero-add, add_cancel, eq_of_add, add-lt, add-mul, mul_assoc, zero-mul, mul-one, mul-lt}
use Rattle.field.proofs.Powers.{pow-zero, pow-suc, pow-lt, pow_swap, powers_differ}
use Rattle.codes.proofs.Vandermonde.{Err, sum, All, Small, Distinct, vandermonde}

-- ---- definitions for the proofs

-- a code word with p roots, as a type
abbrev pub IsCode : ℕ → List ℕ → Type 0
IsCode p w = (i : ℕ) → i < p → syndrome w i ≡ 0

pub code_of_test : (p : ℕ) (w : List ℕ) → T (is_code p w) → IsCode p w
unfolding is_code
code_of_test p w h i l = eqb→eq (syndrome w i) 0 (below_at p (λ i. eqb (syndrome w i) 0) h i l)

pub test_of_code : (p : ℕ) (w : List ℕ) → IsCode p w → T (is_code p w)
unfolding is_code
test_of_code p w h = below_all p (λ i. eqb (syndrome w i) 0) (λ i l. truth_of (eqb (syndrome w i) 0) (eq-eqb (syndrome w i) 0 (h i l)))

-- one more where a byte is not 0
abbrev pub if_nonzero : ℕ → ℕ → ℕ
if_nonzero zero n = n
if_nonzero (suc b) n = suc n

-- the weight of a word: how many of its bytes are not 0
unfoldable pub weight : List ℕ → ℕ
weight [] = 0
weight (b ∷ r) = if_nonzero b (weight r)

-- ---- linear

pub value_from-add : (x v w : ℕ) (r s : List ℕ) → length r ≡ length s → value_from x (add v w) (add_words r s) ≡ add (value_from x v r) (value_from x w s)
unfolding value_from add_words
value_from-add x v w [] [] l = refl
value_from-add x v w [] (b ∷ s) l = absurd (omega arith)
value_from-add x v w (a ∷ r) [] l = absurd (omega arith)
value_from-add x v w (a ∷ r) (b ∷ s) l =
    ap (λ (u : ℕ). value_from x u (add_words r s)) (ap (λ (u : ℕ). add u (add a b)) (add-mul v w x) ∙ add_swap (mul v x) (mul w x) a b)
    ∙ value_from-add x (add (mul v x) a) (add (mul w x) b) r s (omega arith)

pub syndrome-add : (r s : List ℕ) → length r ≡ length s → (i : ℕ) → syndrome (add_words r s) i ≡ add (syndrome r i) (syndrome s i)
unfolding syndrome value_at
syndrome-add r s l i = ap (λ (u : ℕ). value_from (pow 2 i) u (add_words r s)) (sym (add_self 0)) ∙ value_from-add (pow 2 i) 0 0 r s l

-- ---- by powers

pub value_from_power : (x v : ℕ) (r : List ℕ) → x < 256 → v < 256 → Bytes r → value_from x v r ≡ add (mul v (pow x (length r))) (value_from x 0 r)
unfolding value_from Bytes
value_from_power x v [] hx hv hr = sym (add-zero (mul v (pow x 0)) ∙ ap (mul v) (pow-zero x) ∙ mul-one v hv)
value_from_power x v (b ∷ r) hx hv hr =
    value_from_power x (add (mul v x) b) r hx (add-lt (mul-lt v x) hr.0) hr.1
    ∙ ap (λ (u : ℕ). add u (value_from x 0 r)) (add-mul (mul v x) b (pow x (length r)) ∙ ap (λ (u : ℕ). add u (mul b (pow x (length r)))) (mul_assoc v x (pow x (length r)) ∙ ap (mul v) (sym (pow-suc x hx (length r)))))
    ∙ add_assoc (mul v (pow x (suc (length r)))) (mul b (pow x (length r))) (value_from x 0 r)
    ∙ ap (add (mul v (pow x (suc (length r)))))
    (sym (ap (λ (u : ℕ). value_from x u r) (ap (λ (u : ℕ). add u b) (zero-mul x) ∙ zero-add b) ∙ value_from_power x b r hx hr.0 hr.1))

pub value_from-lt : (x v : ℕ) (r : List ℕ) → v < 256 → Bytes r → value_from x v r < 256
unfolding value_from Bytes
value_from-lt x v [] l h = l
value_from-lt x v (b ∷ r) l h = value_from-lt x (add (mul v x) b) r (add-lt (mul-lt v x) h.0) h.1

pub two : 2 < 256
two = omega arith

-- the errors of a row against zeros: a byte that is not 0 at n places from the end has the locator α^n
unfoldable pub errs : List ℕ → List Err
errs [] = []
errs (zero ∷ r) = errs r
errs (suc b ∷ r) = record { loc = pow 2 (length r); val = suc b } ∷ errs r

pub syndrome-cons : (b : ℕ) (r : List ℕ) → Bytes (b ∷ r) → (i : ℕ) → syndrome (b ∷ r) i ≡ add (mul b (pow (pow 2 (length r)) i)) (syndrome r i)
unfolding syndrome value_at value_from Bytes
syndrome-cons b r h i =
    ap (λ (u : ℕ). value_from (pow 2 i) u r) (ap (λ (u : ℕ). add u b) (zero-mul (pow 2 i)) ∙ zero-add b)
    ∙ value_from_power (pow 2 i) b r (pow-lt 2 two i) h.0 h.1
    ∙ ap (λ (u : ℕ). add (mul b u) (value_from (pow 2 i) 0 r)) (pow_swap 2 two i (length r))

pub syndrome-nil : (i : ℕ) → syndrome [] i ≡ 0
unfolding syndrome value_at value_from
syndrome-nil i = refl

pub syndrome_errs : (r : List ℕ) → Bytes r → (i : ℕ) → syndrome r i ≡ sum (errs r) i
unfolding errs sum Bytes
syndrome_errs [] h i = syndrome-nil i
syndrome_errs (zero ∷ r) h i = syndrome-cons 0 r h i ∙ ap₂ add (zero-mul (pow (pow 2 (length r)) i)) (syndrome_errs r h.1 i) ∙ zero-add (sum (errs r) i)
syndrome_errs (suc b ∷ r) h i = syndrome-cons (suc b) r h i ∙ ap (add (mul (suc b) (pow (pow 2 (length r)) i))) (syndrome_errs r h.1 i)

pub errs_length : (r : List ℕ) → length (errs r) ≡ weight r
unfolding errs weight
errs_length [] = refl
errs_length (zero ∷ r) = errs_length r
errs_length (suc b ∷ r) = ap suc (errs_length r)

pub errs_small : (r : List ℕ) → Bytes r → All Small (errs r)
unfolding errs Bytes
errs_small [] h = tt
errs_small (zero ∷ r) h = errs_small r h.1
errs_small (suc b ∷ r) h = ((pow-lt 2 two (length r), h.0), errs_small r h.1)

errs_apart : (n : ℕ) (r : List ℕ) → length r ≤ n → n < 255 → All (λ d. d.loc ≢ pow 2 n) (errs r)
unfolding errs
errs_apart n [] l h = tt
errs_apart n (zero ∷ r) l h = errs_apart n r (omega arith) h
errs_apart n (suc b ∷ r) l h = (powers_differ (length r) n l h, errs_apart n r (omega arith) h)

pub errs_distinct : (r : List ℕ) → length r ≤ 255 → Distinct (errs r)
unfolding errs
errs_distinct [] l = tt
errs_distinct (zero ∷ r) l = errs_distinct r (omega arith)
errs_distinct (suc b ∷ r) l = (errs_apart (length r) r (omega arith) l, errs_distinct r (omega arith))

errs_none : (r : List ℕ) → All (λ e. e.val ≡ 0) (errs r) → weight r ≡ 0
unfolding errs weight
errs_none [] z = refl
errs_none (zero ∷ r) z = errs_none r z
errs_none (suc b ∷ r) z = absurd (let e : ◌≡◌ {A = ℕ} (suc b) 0 = z.0 in omega arith)

-- ---- the distance of the code

-- a code row with no more bytes that are not 0 than it has roots has none
pub light : (p : ℕ) (r : List ℕ) → Bytes r → length r ≤ 255 → weight r ≤ p → IsCode p r → weight r ≡ 0
light p r h l w c =
    errs_none r (vandermonde p (errs r) (omega (arith, errs_length r)) (errs_small r h) (errs_distinct r l) (λ i hi. sym (syndrome_errs r h i) ∙ c i hi))

weight_eq : (r s : List ℕ) → length r ≡ length s → weight (add_words r s) ≡ 0 → r ≡ s
unfolding add_words weight
weight_eq [] [] l w = refl
weight_eq [] (b ∷ s) l w = absurd (omega arith)
weight_eq (a ∷ r) [] l w = absurd (omega arith)
weight_eq (a ∷ r) (b ∷ s) l w = go (add a b) refl w (weight_eq r s (omega arith))
  where
    go : (x : ℕ) → add a b ≡ x → if_nonzero x (weight (add_words r s)) ≡ 0 → (weight (add_words r s) ≡ 0 → r ≡ s) → a ∷ r ≡ b ∷ s
    go zero e w ih = ap₂ {C = List ℕ} (λ (x : ℕ) (y : List ℕ). x ∷ y) (eq_of_add a b e) (ih w)
    go (suc x) e w ih = absurd (omega arith)

pub add_words-length : (r s : List ℕ) → length r ≡ length s → length (add_words r s) ≡ length r
unfolding add_words
add_words-length [] s l = refl
add_words-length (a ∷ r) [] l = absurd (omega arith)
add_words-length (a ∷ r) (b ∷ s) l = ap suc (add_words-length r s (omega arith))

pub add_words-bytes : (r s : List ℕ) → Bytes r → Bytes s → Bytes (add_words r s)
unfolding add_words Bytes
add_words-bytes [] s h k = tt
add_words-bytes (a ∷ r) [] h k = tt
add_words-bytes (a ∷ r) (b ∷ s) h k = (add-lt h.0 k.0, add_words-bytes r s h.1 k.1)

-- two code rows that differ in no more places than they have roots are one
pub unique : (p : ℕ) (r s : List ℕ) → Bytes r → Bytes s → length r ≡ length s → length r ≤ 255
    → weight (add_words r s) ≤ p → IsCode p r → IsCode p s → r ≡ s
unique p r s h k l m w c d =
    weight_eq r s l (light p (add_words r s) (add_words-bytes r s h k) (rw (add_words-length r s l) m) w
    (λ i hi. syndrome-add r s l i ∙ ap₂ add (c i hi) (d i hi) ∙ add_self 0))

-- ---- distances add up

nonzero_add : (x y m n₁ n₂ : ℕ) → m ≤ n₁ + n₂ → if_nonzero (add x y) m ≤ if_nonzero x n₁ + if_nonzero y n₂
nonzero_add zero zero m n₁ n₂ h = rw (add_self 0) h
nonzero_add zero (suc y) m n₁ n₂ h = rw (zero-add (suc y)) (omega arith)
nonzero_add (suc x) zero m n₁ n₂ h = rw (add-zero (suc x)) (omega arith)
nonzero_add (suc x) (suc y) m n₁ n₂ h = go (add (suc x) (suc y))
  where
    go : (z : ℕ) → if_nonzero z m ≤ suc n₁ + suc n₂
    go zero = omega arith
    go (suc z) = omega arith

pub triangle : (r s u : List ℕ) → length r ≡ length u → length u ≡ length s → weight (add_words r s) ≤ weight (add_words r u) + weight (add_words u s)
unfolding add_words weight
triangle [] s u l m = omega arith
triangle (a ∷ r) s [] l m = absurd (omega arith)
triangle (a ∷ r) [] (c ∷ u) l m = absurd (omega arith)
triangle (a ∷ r) (b ∷ s) (c ∷ u) l m =
    subst (λ (x : ℕ). if_nonzero x (weight (add_words r s)) ≤ if_nonzero (add a c) (weight (add_words r u)) + if_nonzero (add c b) (weight (add_words u s)))
    (add_assoc a c (add c b) ∙ ap (add a) (add_cancel c b))
    (nonzero_add (add a c) (add c b) (weight (add_words r s)) (weight (add_words r u)) (weight (add_words u s)) (triangle r s u (omega arith) (omega arith)))

-- ---- the value as a loop over the row computes it

pub value_from_next : (x v : ℕ) (r : List ℕ) (i : ℕ) → i < length r → value_from x (add (mul v x) (get_or r i 0)) (drop (i + 1) r) ≡ value_from x v (drop i r)
unfolding value_from
value_from_next x v r i h = rw (drop-cons r i 0, add-one)

pub value_from_end : (x v : ℕ) (r : List ℕ) (i : ℕ) → length r ≤ i → value_from x v (drop i r) ≡ v
unfolding value_from
value_from_end x v r i h = rw (drop_of_length-le r h)
