-- The vocabulary of the inner contracts: what each step of the decoder hands to the next. No public contract cites it, and nobody needs to believe it.
-- A polynomial here has its lowest coefficient first.
-- Assumes nothing.
use Rattle.std.specs.Prelude.{Bool, true, false, not, cond, ◌||◌, ◌≡◌, List, [], ◌∷◌, ℕ, zero, suc, ◌+◌, ◌*◌, ◌-◌, ◌<◌, ◌≤◌, eqb, length, get_or, set, take, drop}
use Rattle.lists.specs.Bytes.{Bytes}
use Rattle.lists.specs.Count.{bit, count_from}
use Rattle.lists.specs.Fill.{tabulate}
use Rattle.lists.specs.Test.{below}
use Rattle.field.specs.Field.{add, mul, pow, inverse}
use Rattle.codes.specs.Erasures.{is_erased}
use Rattle.codes.specs.declared.WrongByte.{WrongByte}

-- the syndromes as a function, from the list of them
abbrev pub at : List ℕ → ℕ → ℕ
at s i = get_or s i 0

-- c 0 * S i + c 1 * S (i + 1) + ..: the key equation i holds of a polynomial c where this is 0
unfoldable pub dot : List ℕ → (ℕ → ℕ) → ℕ → ℕ
dot [] S i = 0
dot (c ∷ cs) S i = add (mul c (S i)) (dot cs S (suc i))

-- the value of a polynomial
unfoldable pub poly_at : List ℕ → ℕ → ℕ
poly_at [] x = 0
poly_at (c ∷ cs) x = add c (mul x (poly_at cs x))

-- f times the polynomial c, added to the polynomial v
unfoldable pub mix : ℕ → List ℕ → List ℕ → List ℕ
mix f [] v = v
mix f (a ∷ c) [] = []
mix f (a ∷ c) (b ∷ v) = add b (mul f a) ∷ mix f c v

-- a coefficient is 1, so that the polynomial is not 0
pub record NonZero (c : List ℕ) : Type 0 where
  pub degree : ℕ
  pub lead : get_or c degree 0 ≡ 1

-- c satisfies the key equations 0 .. t-1 of the syndromes S, has at most t + 1 coefficients, and is not 0
pub record Locator (S : ℕ → ℕ) (t : ℕ) (c : List ℕ) : Type 0 where
  pub size : length c ≤ t + 1
  pub some : NonZero c
  pub zeros : (i : ℕ) → i < t → dot c S i ≡ 0

-- x^k among polynomials with n coefficients
abbrev pub unit : ℕ → ℕ → List ℕ
unit n k = tabulate (λ j. bit (eqb j k)) n

-- ---- the elimination. Of 1, x, x^2, .. the first is sought that satisfies the key equations once multiples of those before it are added. One that does
-- not is kept as the pivot of the first equation it fails.

-- polynomial i of a list of polynomials with w coefficients each
abbrev pub poly_of : ℕ → List ℕ → ℕ → List ℕ
poly_of w m i = take w (drop (i * w) m)

-- pivot i is 0, or satisfies the equations before i and fails equation i
abbrev pub is_pivot : (ℕ → ℕ) → ℕ → List ℕ → ℕ → Bool
is_pivot S w m i = not (eqb (dot (poly_of w m i) S i) 0)

-- k pivots for t equations, of degree below k
pub record Pivots (S : ℕ → ℕ) (t w k : ℕ) (m : List ℕ) : Type 0 where
  pub size : length m ≡ t * w
  pub zeros : (i j : ℕ) → i < t → j < i → dot (poly_of w m i) S j ≡ 0
  pub low : (i j : ℕ) → i < t → k ≤ j → get_or (poly_of w m i) j 0 ≡ 0
  pub used : count_from (is_pivot S w m) 0 t ≡ k

-- a polynomial x^k + .. that satisfies the equations before i
pub record Candidate (S : ℕ → ℕ) (w k i : ℕ) (v : List ℕ) : Type 0 where
  pub size : length v ≡ w
  pub lead : get_or v k 0 ≡ 1
  pub high : (j : ℕ) → k < j → get_or v j 0 ≡ 0
  pub zeros : (j : ℕ) → j < i → dot v S j ≡ 0

-- what became of the candidate at equation i, up to equation e: it satisfies the equations before e and the pivots are as they were, or it was kept as one
pub record Cleared (S : ℕ → ℕ) (t w k e : ℕ) (m m' v' : List ℕ) (r : Bool) : Type 0 where
  pub goes : r ≡ true → (m' ≡ m) × Candidate S w k e v'
  pub stops : r ≡ false → Pivots S t w (k + 1) m'

-- ---- the marked places. A place is counted from the end of a word: place k has the locator α^k

-- place k is marked
abbrev pub erased_place : List ℕ → ℕ → Bool
erased_place m k = is_erased m (length m - suc k)

-- one syndrome and x times the one before it: the error with the locator x drops out of the sums
unfoldable pub without : ℕ → (ℕ → ℕ) → ℕ → ℕ
without x S i = add (S (suc i)) (mul x (S i))

-- the syndromes without the errors at those of the places below n that pass a test
unfoldable pub without_marked : (ℕ → Bool) → ℕ → (ℕ → ℕ) → ℕ → ℕ
without_marked f zero S = S
without_marked f (suc n) S = without_marked f n (cond (f n) (without (pow 2 n) S) S)

-- ---- the search

-- the polynomial is 0 at the locator of place k
abbrev pub is_root : List ℕ → ℕ → Bool
is_root c k = eqb (poly_at c (pow 2 k)) 0

-- an error may stand at place k: it is marked, or a root of the locator polynomial
abbrev pub is_suspect : List ℕ → List ℕ → ℕ → Bool
is_suspect m c k = erased_place m k || is_root c k

-- those of the places n-1 .. 0 that pass a test
unfoldable pub places_where : (ℕ → Bool) → ℕ → List ℕ
places_where f zero = []
places_where f (suc n) = cond (f n) (n ∷ places_where f n) (places_where f n)

-- ks are the marked places, and the places of the roots of a locator for the syndromes S without the errors at the marked ones. With fewer than t other errors
-- there are several locators: any will do
pub record Places (S : ℕ → ℕ) (t : ℕ) (m ks : List ℕ) : Type 0 where
  pub locator : List ℕ
  pub bytes : Bytes locator
  pub locates : Locator (without_marked (erased_place m) (length m) S) t locator
  pub found : ks ≡ places_where (is_suspect m locator) (length m)

-- each number of a list is below n
abbrev pub AllBelow : ℕ → List ℕ → Type 0
AllBelow n ks = (j : ℕ) → j < length ks → get_or ks j 0 < n

-- ---- the values

-- the syndromes without the first l errors of the places ks, but for the error j
unfoldable pub without_others : List ℕ → ℕ → ℕ → (ℕ → ℕ) → ℕ → ℕ
without_others ks j zero S = S
without_others ks j (suc l) S = cond (eqb l j) (without_others ks j l S) (without (pow 2 (get_or ks l 0)) (without_others ks j l S))

-- the product of x + α^k over the first l places k, but for the place j
unfoldable pub spread : List ℕ → ℕ → ℕ → ℕ → ℕ
spread ks j zero x = 1
spread ks j (suc l) x = cond (eqb l j) (spread ks j l x) (mul (spread ks j l x) (add x (pow 2 (get_or ks l 0))))

-- the value of error j, by what is left of the syndromes without all the others
unfoldable pub error_value : (ℕ → ℕ) → List ℕ → ℕ → ℕ
error_value S ks j = mul (without_others ks j (length ks) S 0) (inverse (spread ks j (length ks) (pow 2 (get_or ks j 0))))

-- v added to the byte that has k bytes after it
unfoldable pub change : List ℕ → ℕ → ℕ → List ℕ
change r k v = set r (length r - suc k) (add (get_or r (length r - suc k) 0) v)

-- the values of the errors from j on added at their places, n of them
unfoldable pub mend_from : (ℕ → ℕ) → List ℕ → ℕ → ℕ → List ℕ → List ℕ
mend_from S ks j zero w = w
mend_from S ks j (suc n) w = mend_from S ks (suc j) n (change w (get_or ks j 0) (error_value S ks j))

-- a word less the errors at the places ks
unfoldable pub mended : (ℕ → ℕ) → List ℕ → List ℕ → List ℕ
mended S ks w = mend_from S ks 0 (length ks) w

-- ---- the light repair: wrong bytes and their sums

-- sum i of wrong bytes: each value times the i-th power of its locator
unfoldable pub sum_of : List WrongByte → ℕ → ℕ
sum_of [] i = 0
sum_of (e ∷ es) i = add (mul e.value (pow (pow 2 e.place) i)) (sum_of es i)

-- the sums S 0 .. S (p-1) are those of wrong bytes
abbrev pub SumsOf : (ℕ → ℕ) → ℕ → List WrongByte → Type 0
SumsOf S p es = (i : ℕ) → i < p → S i ≡ sum_of es i

-- each stands at a place of a word of n bytes
unfoldable pub Inside : ℕ → List WrongByte → Type 0
Inside n [] = Unit {0}
Inside n (e ∷ es) = (e.place < n) × (e.value < 256) × Inside n es

-- they explain p sums of a word of n bytes
pub record Explains (S : ℕ → ℕ) (p n : ℕ) (es : List WrongByte) : Type 0 where
  pub inside : Inside n es
  pub sums : SumsOf S p es

-- the wrong bytes of a word of n bytes, from its first byte on: each stands after the one before it, and none has the value 0
unfoldable pub InOrder : ℕ → List WrongByte → Type 0
InOrder n [] = Unit {0}
InOrder n (e ∷ es) = (e.place < n) × (0 < e.value) × (e.value < 256) × InOrder e.place es

-- no m wrong bytes explain p sums of a word of n bytes
abbrev pub Unexplained : (ℕ → ℕ) → ℕ → ℕ → ℕ → Type 0
Unexplained S p n m = (es : List WrongByte) → length es ≡ m → InOrder n es → SumsOf S p es → ⊥

-- a word without its wrong bytes
unfoldable pub without_wrong : List WrongByte → List ℕ → List ℕ
without_wrong [] w = w
without_wrong (e ∷ es) w = without_wrong es (change w e.place e.value)

-- x² + a x + b is 0 at x
abbrev pub is_locator : ℕ → ℕ → ℕ → Bool
is_locator a b x = eqb (mul x (add x a)) b

-- each of p sums from the third on is a times the one before it and b times the one before that
unfoldable pub follows : (ℕ → ℕ) → ℕ → ℕ → ℕ → Bool
follows S p a b = below (p - 2) (λ i. eqb (S (i + 2)) (add (mul a (S (i + 1))) (mul b (S i))))

-- the two-by-two equations a S1 + b S0 = S2 and a S2 + b S1 = S3, by Cramer's rule: their determinant, a, and b
abbrev pub determinant : (ℕ → ℕ) → ℕ
determinant S = add (mul (S 1) (S 1)) (mul (S 0) (S 2))

abbrev pub cramer_a : (ℕ → ℕ) → ℕ
cramer_a S = mul (add (mul (S 1) (S 2)) (mul (S 0) (S 3))) (inverse (determinant S))

abbrev pub cramer_b : (ℕ → ℕ) → ℕ
cramer_b S = mul (add (mul (S 2) (S 2)) (mul (S 1) (S 3))) (inverse (determinant S))
