-- A row with its check bytes is a code row.
-- Assumes nothing.
use mathlib.Core.Path.{◌≡◌, refl, sym, ap, ap₂, ◌∙◌, subst}
use mathlib.Core.List.{List, [], ◌∷◌, ◌++◌, map}
use Prim.Native.Nat.{ℕ, zero, suc, ◌<◌}
use native.Mathlib.Omega.{arith}
use native.Mathlib.Numerals.{add-one}
use lib.ListN.{length, length-map, length-append, replicate, length-replicate}
use Rattle.field.specs.Field.{add, double, mul_bits, mul, square, pow_halves, pow}
use lib.Dec.{T, eqb, eqb→eq}
use Rattle.lists.specs.Test.{below}
use Rattle.lists.specs.Bytes.{Bytes}
use Rattle.lists.proofs.Test.{below_at}
use Rattle.lists.proofs.Bytes.{append-bytes, zeros-bytes}
use Rattle.codes.specs.Word.{value_from, value_at, syndrome}
use Rattle.codes.specs.Parity.{add_words, shift_in, remainder, times_root, generator, generator_tail, parity}
use Rattle.field.proofs.Field.{add_assoc, add_comm, add_self, add-zero, zero-add, add-mul, mul-add, mul_assoc, mul_comm, mul-zero, zero-mul, mul-lt}
use Rattle.field.proofs.Powers.{pow-suc, pow-lt}
use Rattle.codes.proofs.Words.{IsCode, two, value_from-add, value_from_power, value_from-lt, add_words-length, add_words-bytes}

pub value_from-append : (x v : ℕ) (r s : List ℕ) → value_from x v (r ++ s) ≡ value_from x (value_from x v r) s
unfolding value_from
value_from-append x v [] s = refl
value_from-append x v (b ∷ r) s = value_from-append x (add (mul v x) b) r s

pub value_from_scale : (x f v : ℕ) (r : List ℕ) → value_from x (mul f v) (map (mul f) r) ≡ mul f (value_from x v r)
unfolding value_from
value_from_scale x f v [] = refl
value_from_scale x f v (b ∷ r) =
    ap (λ (u : ℕ). value_from x u (map (mul f) r)) (ap (λ (u : ℕ). add u (mul f b)) (mul_assoc f v x) ∙ sym (mul-add f (mul v x) b))
    ∙ value_from_scale x f (add (mul v x) b) r

pub map-bytes : (f : ℕ) (r : List ℕ) → Bytes (map (mul f) r)
unfolding Bytes
map-bytes f [] = tt
map-bytes f (a ∷ r) = (mul-lt f a, map-bytes f r)

-- ---- one byte more

module _ (g : List ℕ) where
  shift_length : (r : List ℕ) (b : ℕ) → length r ≡ length g → length (shift_in g r b) ≡ length g
  unfolding shift_in
  shift_length [] b l = l
  shift_length (h ∷ r) b l =
      add_words-length (r ++ (0 ∷ [])) (map (mul (add b h)) g) (same h r b l) ∙ length-append r (0 ∷ []) ∙ add-one (length r) ∙ l
    where
      same : (h : ℕ) (r : List ℕ) (b : ℕ) → length (h ∷ r) ≡ length g → length (r ++ (0 ∷ [])) ≡ length (map (mul (add b h)) g)
      same h r b l = length-append r (0 ∷ []) ∙ add-one (length r) ∙ l ∙ sym (length-map g (mul (add b h)))

  shift_bytes : (r : List ℕ) (b : ℕ) → Bytes r → Bytes (shift_in g r b)
  unfolding shift_in Bytes
  shift_bytes [] b h = tt
  shift_bytes (a ∷ r) b h = add_words-bytes (r ++ (0 ∷ [])) (map (mul (add b a)) g) (append-bytes r (0 ∷ []) h.1 (omega arith, tt)) (map-bytes (add b a) g)

shift_term : (b h e q x : ℕ) → add (add (mul e x) 0) (mul (add b h) (mul x q)) ≡ add (mul (add (mul h q) e) x) (mul b (mul x q))
shift_term b h e q x = simp (add-zero, add-mul, mul_assoc, mul_comm, add_assoc, add_comm)

horner_term : (v b p x : ℕ) → add (mul (mul v p) x) (mul b p) ≡ mul (add (mul v x) b) p
horner_term v b p x = simp (add-mul, mul_assoc, mul_comm)

-- ---- at a root x of the generator, which there takes x^p to its other coefficients

module _ (g : List ℕ) (x : ℕ) (hx : x < 256) (root : value_from x 0 g ≡ pow x (length g)) where
  shift_value_at : (h : ℕ) (r : List ℕ) (b : ℕ) → length (h ∷ r) ≡ length g → Bytes (h ∷ r)
      → value_from x 0 (shift_in g (h ∷ r) b) ≡ add (mul (value_from x 0 (h ∷ r)) x) (mul b (pow x (length g)))
  unfolding shift_in value_from Bytes
  shift_value_at h r b l k =
      let e : value_from x (add (mul 0 x) h) r ≡ add (mul h (pow x (length r))) (value_from x 0 r) =
      ap (λ (u : ℕ). value_from x u r) (ap (λ (u : ℕ). add u h) (zero-mul x) ∙ zero-add h) ∙ value_from_power x h r hx k.0 k.1 in
      let p : pow x (length g) ≡ mul x (pow x (length r)) = ap (pow x) (sym l) ∙ pow-suc x hx (length r) in
      let s : value_from x 0 (map (mul (add b h)) g) ≡ mul (add b h) (pow x (length g)) =
      ap (λ (u : ℕ). value_from x u (map (mul (add b h)) g)) (sym (mul-zero (add b h))) ∙ value_from_scale x (add b h) 0 g ∙ ap (mul (add b h)) root in
      let a : value_from x 0 (r ++ (0 ∷ [])) ≡ add (mul (value_from x 0 r) x) 0 = value_from-append x 0 r (0 ∷ []) in
      let j : value_from x 0 (add_words (r ++ (0 ∷ [])) (map (mul (add b h)) g)) ≡ add (value_from x 0 (r ++ (0 ∷ []))) (value_from x 0 (map (mul (add b h)) g)) =
      ap (λ (u : ℕ). value_from x u (add_words (r ++ (0 ∷ [])) (map (mul (add b h)) g))) (sym (add_self 0))
      ∙ value_from-add x 0 0 (r ++ (0 ∷ [])) (map (mul (add b h)) g) (length-append r (0 ∷ []) ∙ add-one (length r) ∙ l ∙ sym (length-map g (mul (add b h)))) in
      let t : add (add (mul (value_from x 0 r) x) 0) (mul (add b h) (mul x (pow x (length r))))
      ≡ add (mul (add (mul h (pow x (length r))) (value_from x 0 r)) x) (mul b (mul x (pow x (length r)))) = shift_term b h (value_from x 0 r) (pow x (length r)) x in
      cc

  remainder-value_at : (d r : List ℕ) (v : ℕ) → 0 < length g → length r ≡ length g → Bytes r → value_from x 0 r ≡ mul v (pow x (length g))
      → value_from x 0 (remainder g r d) ≡ mul (value_from x v d) (pow x (length g))
  unfolding remainder value_from
  remainder-value_at [] r v z l k e = e
  remainder-value_at (b ∷ d) [] v z l k e = absurd (omega arith)
  remainder-value_at (b ∷ d) (h ∷ r) v z l k e =
      remainder-value_at d (shift_in g (h ∷ r) b) (add (mul v x) b) z (shift_length g (h ∷ r) b l) (shift_bytes g (h ∷ r) b k)
      (shift_value_at h r b l k ∙ ap (λ (u : ℕ). add (mul u x) (mul b (pow x (length g)))) e ∙ horner_term v b (pow x (length g)) x)

pub zeros-value_at : (x n : ℕ) → value_from x 0 (replicate n 0) ≡ 0
unfolding value_from
zeros-value_at x zero = refl
zeros-value_at x (suc n) = ap (λ (u : ℕ). value_from x u (replicate n 0)) (add-zero (mul 0 x) ∙ zero-mul x) ∙ zeros-value_at x n

pub remainder-length : (g d r : List ℕ) → length r ≡ length g → length (remainder g r d) ≡ length g
unfolding remainder
remainder-length g [] r l = l
remainder-length g (b ∷ d) r l = remainder-length g d (shift_in g r b) (shift_length g r b l)

pub remainder-bytes : (g d r : List ℕ) → Bytes r → Bytes (remainder g r d)
unfolding remainder
remainder-bytes g [] r k = k
remainder-bytes g (b ∷ d) r k = remainder-bytes g d (shift_in g r b) (shift_bytes g r b k)

-- g holds the coefficients of a polynomial x^p + .. that is 0 at α^0 .. α^(p-1)
unfoldable pub Generates : List ℕ → Type 0
Generates g = (i : ℕ) → i < length g → value_from (pow 2 i) 0 g ≡ pow (pow 2 i) (length g)

pub encoded : (g d : List ℕ) → 0 < length g → Generates g → Bytes d → IsCode (length g) (d ++ remainder g (replicate (length g) 0) d)
unfolding syndrome value_at Generates
encoded g d z h k i l =
    let x : ℕ = pow 2 i in
    let q : List ℕ = remainder g (replicate (length g) 0) d in
    let b : Bytes q = remainder-bytes g d (replicate (length g) 0) (zeros-bytes (length g)) in
    let n : length q ≡ length g = remainder-length g d (replicate (length g) 0) (length-replicate (length g) 0) in
    value_from-append x 0 d q
    ∙ value_from_power x (value_from x 0 d) q (pow-lt 2 two i) (value_from-lt x 0 d (omega arith) k) b
    ∙ ap₂ add (ap (λ (m : ℕ). mul (value_from x 0 d) (pow x m)) n)
    (remainder-value_at g x (pow-lt 2 two i) (h i l) d (replicate (length g) 0) 0 z (length-replicate (length g) 0) (zeros-bytes (length g))
    (zeros-value_at x (length g) ∙ sym (zero-mul (pow x (length g)))))
    ∙ add_self (mul (value_from x 0 d) (pow x (length g)))

-- ---- the codes with 2, 10 and 16 roots

-- what a computed test says of the generator with p roots
pub record Code (p : ℕ) : Type 0 where
  pub some : 0 < p
  pub size : length (generator_tail p) ≡ p
  pub roots : T (below p (λ i. eqb (value_from (pow 2 i) 0 (generator_tail p)) (pow (pow 2 i) p)))

pub two_roots : Code 2
unfolding add double mul_bits mul square pow_halves pow value_from add_words times_root generator
two_roots = record { some = omega arith; size = refl; roots = tt }

pub ten_roots : Code 10
unfolding add double mul_bits mul square pow_halves pow value_from add_words times_root generator
ten_roots = record { some = omega arith; size = refl; roots = tt }

pub sixteen_roots : Code 16
unfolding add double mul_bits mul square pow_halves pow value_from add_words times_root generator
sixteen_roots = record { some = omega arith; size = refl; roots = tt }

module _ (p : ℕ) (c : Code p) (d : List ℕ) where
  pub parity-length : length (parity p d) ≡ p
  unfolding parity
  parity-length = remainder-length (generator_tail p) d (replicate p 0) (length-replicate p 0 ∙ sym c.size) ∙ c.size

  pub parity-bytes : Bytes (parity p d)
  unfolding parity
  parity-bytes = remainder-bytes (generator_tail p) d (replicate p 0) (zeros-bytes p)

  generates : Generates (generator_tail p)
  unfolding Generates
  generates i l =
      eqb→eq (value_from (pow 2 i) 0 (generator_tail p)) (pow (pow 2 i) p)
      (below_at p (λ i. eqb (value_from (pow 2 i) 0 (generator_tail p)) (pow (pow 2 i) p)) c.roots i (omega (arith, c.size)))
      ∙ ap (pow (pow 2 i)) (sym c.size)

  -- a word with its parity bytes is a code word
  pub parity_code : Bytes d → IsCode p (d ++ parity p d)
  unfolding parity
  parity_code h =
      subst (λ (n : ℕ). IsCode n (d ++ remainder (generator_tail p) (replicate n 0) d)) c.size
      (encoded (generator_tail p) d (omega (arith, c.some, c.size)) generates h)
