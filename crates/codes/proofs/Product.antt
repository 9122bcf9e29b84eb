-- A product code: where every row of an array is a code word with p roots, and every column but the last p is one with q roots, so are the last p columns
-- (product_code); two such arrays that differ at all differ in at least (p + 1)(q + 1) places (product_distance).
-- Assumes nothing.
use mathlib.Core.Path.{◌≡◌, refl, sym, ap, ap₂, subst, ◌∙◌}
use mathlib.Core.Bool.{Bool, true, false, not}
use mathlib.Core.List.{List, [], ◌∷◌, ◌++◌, map}
use mathlib.Core.Logic.{◌≢◌}
use Prim.Native.Nat.{ℕ, zero, suc, ◌+◌, ◌*◌, ◌-◌, ◌<◌, ◌≤◌, suc-le-suc}
use native.Mathlib.Nat.{mul-le-mul_left}
use native.Mathlib.Omega.{arith}
use borrow.Author.Tests.{eqb-false}
use lib.Dec.{eqb}
use lib.ListN.{length, get_or, replicate, length-replicate, length-map}
use Rattle.lists.specs.Bytes.{Bytes}
use Rattle.lists.specs.Count.{bit, sum_from, count_from, distance}
use Rattle.lists.specs.Fill.{tabulate_from, tabulate}
use Rattle.lists.proofs.Bytes.{zeros-bytes, get_or-byte, tabulate-bytes}
use Rattle.lists.proofs.Distance.{distance-tabulate, distance_some}
use Rattle.lists.proofs.Fill.{length-tabulate, get_d_tabulate}
use Rattle.lists.proofs.Sum.{sum-order, sum_times, sum-some}
use Rattle.field.specs.Field.{add, mul, pow}
use Rattle.field.proofs.Field.{add_self, mul-zero, mul_comm}
use Rattle.codes.specs.Word.{value_from, value_at, syndrome}
use Rattle.codes.specs.Parity.{add_words}
use Rattle.codes.proofs.Words.{IsCode, if_nonzero, weight, syndrome-add, add_words-length, add_words-bytes, light}
use Rattle.codes.proofs.Division.{value_from-append, value_from_scale, map-bytes, zeros-value_at}
use Rattle.codes.proofs.Nearest.{code_words_apart}
use Rattle.codes.proofs.Shift.{add_at, map_at}

-- ---- lists

snoc : (f : ℕ → ℕ) (k m : ℕ) → tabulate_from f k (suc m) ≡ tabulate_from f k m ++ (f (k + m) ∷ [])
unfolding tabulate_from
snoc f k zero = ap (λ (x : ℕ). f x ∷ []) (omega arith)
snoc f k (suc m) = ap (λ (r : List ℕ). f k ∷ r) (snoc f (suc k) m ∙ ap (λ (x : ℕ). tabulate_from f (suc k) m ++ (f x ∷ [])) (omega arith))

zeros-at : (n j : ℕ) → ◌≡◌ {A = ℕ} (get_or (replicate n 0) j 0) 0
zeros-at zero j = refl
zeros-at (suc n) zero = refl
zeros-at (suc n) (suc j) = zeros-at n j

-- ---- weights

one-le : (b n : ℕ) → if_nonzero b n ≤ suc n
one-le zero n = omega arith
one-le (suc b) n = omega arith

weight_le : (w : List ℕ) → weight w ≤ length w
unfolding weight
weight_le [] = omega arith
weight_le (b ∷ w) = omega (arith, one-le b (weight w), weight_le w)

-- a word that starts with m zeros
weight_tail : (m : ℕ) (w : List ℕ) → ((i : ℕ) → i < m → get_or w i 0 ≡ 0) → weight w ≤ length w - m
unfolding weight
weight_tail zero w h = omega (arith, weight_le w)
weight_tail (suc m) [] h = omega arith
weight_tail (suc m) (b ∷ w) h =
    let z : b ≡ 0 = h 0 (omega arith) in
    rw z (omega (arith, weight_tail m w (λ i l. h (suc i) (suc-le-suc l))))

weight_none : (w : List ℕ) → weight w ≡ 0 → (i : ℕ) → get_or w i 0 ≡ 0
unfolding weight
weight_none [] h i = refl
weight_none (zero ∷ w) h zero = refl
weight_none (zero ∷ w) h (suc i) = weight_none w h i
weight_none (suc b ∷ w) h i = absurd (omega arith)

-- ---- the first m rows taken together by Horner's rule at x: entry j is the value of column j

unfoldable combined : ℕ → (ℕ → List ℕ) → ℕ → ℕ → List ℕ
combined x rows n zero = replicate n 0
combined x rows n (suc m) = add_words (map (mul x) (combined x rows n m)) (rows m)

syndrome_scale : (f : ℕ) (r : List ℕ) (i : ℕ) → syndrome (map (mul f) r) i ≡ mul f (syndrome r i)
unfolding syndrome value_at
syndrome_scale f r i = ap (λ (v : ℕ). value_from (pow 2 i) v (map (mul f) r)) (sym (mul-zero f)) ∙ value_from_scale (pow 2 i) f 0 r

module _ (x : ℕ) (rows : ℕ → List ℕ) (n : ℕ) (size : (i : ℕ) → length (rows i) ≡ n) where
  combined_length : (m : ℕ) → length (combined x rows n m) ≡ n
  unfolding combined
  combined_length zero = length-replicate n 0
  combined_length (suc m) =
      let e = length-map (combined x rows n m) (mul x) ∙ combined_length m in
      add_words-length (map (mul x) (combined x rows n m)) (rows m) (e ∙ sym (size m)) ∙ e

  same_length : (m : ℕ) → length (map (mul x) (combined x rows n m)) ≡ length (rows m)
  same_length m = length-map (combined x rows n m) (mul x) ∙ combined_length m ∙ sym (size m)

  combined_bytes : ((i : ℕ) → Bytes (rows i)) → (m : ℕ) → Bytes (combined x rows n m)
  unfolding combined
  combined_bytes h zero = zeros-bytes n
  combined_bytes h (suc m) = add_words-bytes (map (mul x) (combined x rows n m)) (rows m) (map-bytes x (combined x rows n m)) (h m)

  combined_code : (p : ℕ) → ((i : ℕ) → IsCode p (rows i)) → (m : ℕ) → IsCode p (combined x rows n m)
  unfolding combined syndrome value_at
  combined_code p h zero i l = zeros-value_at (pow 2 i) n
  combined_code p h (suc m) i l =
      syndrome-add (map (mul x) (combined x rows n m)) (rows m) (same_length m) i
      ∙ ap₂ add (syndrome_scale x (combined x rows n m) i ∙ ap (mul x) (combined_code p h m i l) ∙ mul-zero x) (h m i l) ∙ add_self 0

  combined_at : (j : ℕ) → j < n → (m : ℕ) → get_or (combined x rows n m) j 0 ≡ value_at (tabulate (λ i. get_or (rows i) j 0) m) x
  unfolding combined value_at value_from tabulate_from
  combined_at j h zero = zeros-at n j
  combined_at j h (suc m) =
      let c = combined x rows n m in
      let f : ℕ → ℕ = λ i. get_or (rows i) j 0 in
      add_at (map (mul x) c) (rows m) j (same_length m) (omega (arith, same_length m, size m))
      ∙ ap (λ (v : ℕ). add v (f m)) (map_at (mul x) c j (omega (arith, combined_length m)) ∙ ap (mul x) (combined_at j h m) ∙ mul_comm x (value_at (tabulate f m) x))
      ∙ ap (λ (i : ℕ). add (mul (value_at (tabulate f m) x) x) (f i)) (omega arith)
      ∙ sym (ap (value_from x 0) (snoc f 0 m) ∙ value_from-append x 0 (tabulate f m) (f (0 + m) ∷ []))

-- ---- the laws

-- an array of m rows of n bytes: every row is a code word with p roots, and every column but the last p one with q roots
pub record ProductWord (p q m n : ℕ) (rows : ℕ → List ℕ) : Type 0 where
  pub size : (i : ℕ) → length (rows i) ≡ n
  pub bytes : (i : ℕ) → Bytes (rows i)
  pub row_code : (i : ℕ) → IsCode p (rows i)
  pub column_code : (j : ℕ) → j + p < n → IsCode q (tabulate (λ i. get_or (rows i) j 0) m)

-- every column is a code word with q roots
pub product_code :
    (p q m n : ℕ) (rows : ℕ → List ℕ) → n ≤ 255 → ProductWord p q m n rows → (j : ℕ) → j < n → IsCode q (tabulate (λ i. get_or (rows i) j 0) m)
unfolding syndrome
product_code p q m n rows short w j h k l =
    let x : ℕ = pow 2 k in
    let c : List ℕ = combined x rows n m in
    let len : length c ≡ n = combined_length x rows n w.size m in
    let few : weight c ≤ length c - (n - p) =
    weight_tail (n - p) c (λ i t. combined_at x rows n w.size i (omega arith) m ∙ w.column_code i (omega arith) k l) in
    let none : weight c ≡ 0 =
    light p c (combined_bytes x rows n w.size w.bytes m) (omega arith) (omega arith) (combined_code x rows n w.size p w.row_code m) in
    sym (combined_at x rows n w.size j h m) ∙ weight_none c none j

-- THE DISTANCE OF A PRODUCT CODE: two such arrays that differ at all differ in at least (p + 1)(q + 1) places. A column that differs does so in more than q rows,
-- and each of these rows in more than p places
module _ (p q m n : ℕ) (rows others : ℕ → List ℕ) (tall : m ≤ 255) (wide : n ≤ 255) (a : ProductWord p q m n rows) (b : ProductWord p q m n others) where
  -- the cells of row i and column j differ
  abbrev cells_differ : ℕ → ℕ → Bool
  cells_differ j i = not (eqb (get_or (rows i) j 0) (get_or (others i) j 0))

  abbrev row_distance : ℕ → ℕ
  row_distance i = distance (rows i) (others i)

  lengths : (i : ℕ) → length (rows i) ≡ length (others i)
  lengths i = a.size i ∙ sym (b.size i)

  rows_apart : (i j : ℕ) → get_or (rows i) j 0 ≢ get_or (others i) j 0 → p < row_distance i
  rows_apart i j d =
      code_words_apart p (rows i) (others i) (a.bytes i) (b.bytes i) (lengths i) (omega (arith, a.size i)) (a.row_code i) (b.row_code i)
      (λ e. d (ap (λ (r : List ℕ). get_or r j 0) e))

  column_bytes : (rs : ℕ → List ℕ) → ((i : ℕ) → Bytes (rs i)) → (j : ℕ) → Bytes (tabulate (λ i. get_or (rs i) j 0) m)
  column_bytes rs h j = tabulate-bytes (λ i. get_or (rs i) j 0) 0 m (λ i. get_or-byte (rs i) j (h i))

  columns_apart : (i j : ℕ) → i < m → j < n → get_or (rows i) j 0 ≢ get_or (others i) j 0 → q < count_from (cells_differ j) 0 m
  columns_apart i j hi hj d =
      let f : ℕ → ℕ = λ i. get_or (rows i) j 0 in
      let g : ℕ → ℕ = λ i. get_or (others i) j 0 in
      subst (λ (k : ℕ). q < k) (distance-tabulate f g 0 m)
      (code_words_apart q (tabulate f m) (tabulate g m) (column_bytes rows a.bytes j) (column_bytes others b.bytes j)
      (length-tabulate f m ∙ sym (length-tabulate g m)) (omega (arith, length-tabulate f m)) (product_code p q m n rows wide a j hj)
      (product_code p q m n others wide b j hj)
      (λ e. d (sym (get_d_tabulate f m i hi) ∙ ap (λ (c : List ℕ). get_or c i 0) e ∙ get_d_tabulate g m i hi)))

  row_weight : (j i : ℕ) → suc p * bit (cells_differ j i) ≤ row_distance i
  row_weight j i = go (eqb (get_or (rows i) j 0) (get_or (others i) j 0)) refl
    where
      go : (t : Bool) → eqb (get_or (rows i) j 0) (get_or (others i) j 0) ≡ t → suc p * bit (not t) ≤ row_distance i
      go true e = omega arith
      go false e = omega (arith, rows_apart i j (eqb-false (get_or (rows i) j 0) (get_or (others i) j 0) e))

  pub product_distance : 0 < sum_from row_distance 0 m → (p + 1) * (q + 1) ≤ sum_from row_distance 0 m
  product_distance some =
      let row = sum-some row_distance 0 m some in
      let i = 0 + row.0 in
      let hi : i < m = omega (arith, row.1) in
      let cell = distance_some (rows i) (others i) (lengths i) row.2 in
      let j = cell.0 in
      let hj : j < n = omega (arith, cell.1, a.size i) in
      let many = mul-le-mul_left (suc p) (columns_apart i j hi hj cell.2) in
      let each = sum-order (λ i. suc p * bit (cells_differ j i)) row_distance 0 m (λ i l. row_weight j i) in
      omega (arith, sum_times (suc p) (λ i. bit (cells_differ j i)) 0 m)
