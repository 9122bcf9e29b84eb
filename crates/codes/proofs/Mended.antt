-- Completeness and soundness of the decoder: a word that a code word is within reach of is mended to it (mended-within), and a mended word differs in at most as
-- many unmarked bytes as the locator has roots (mended_errors).
-- Assumes nothing.
use mathlib.Core.Path.{◌≡◌, refl, sym, ap, ap₂, subst, ◌∙◌}
use mathlib.Core.Bool.{Bool, true, false, false≢true, not, ◌&&◌, ◌||◌}
use mathlib.Core.List.{List, [], ◌∷◌, map}
use Prim.Native.Nat.{ℕ, zero, suc, ◌+◌, ◌-◌, ◌<◌, ◌≤◌}
use native.Mathlib.Omega.{arith}
use borrow.Author.Tests.{eq-eqb}
use lib.Dec.{T, eqb}
use lib.ListN.{length, get_or, set, drop, length-map, length-set, drop_of_length-le}
use lib.Seq.{drop-cons, get_or-set_other}
use Rattle.lists.specs.Bytes.{Bytes}
use Rattle.lists.specs.Count.{count_from}
use Rattle.lists.proofs.Bytes.{get_or-byte, set-bytes}
use Rattle.lists.proofs.Count.{count-order}
use Rattle.lists.proofs.Test.{and_right}
use Rattle.field.specs.Field.{add, mul, pow, inverse}
use Rattle.field.proofs.Field.{add-zero, zero-add, add_cancel, add-lt, mul-lt, zero-mul}
use Rattle.field.proofs.Powers.{alpha_lt}
use Rattle.codes.specs.Word.{syndrome}
use Rattle.codes.specs.Parity.{add_words}
use Rattle.codes.specs.Erasures.{is_erased, erasure_count, error_count}
use Rattle.codes.specs.Inner.{NonZero, Locator, erased_place, without_marked, is_root, is_suspect, places_where, without_others, spread, error_value, change, mend_from, mended}
use Rattle.codes.proofs.Vandermonde.{Err, sum, All, Small}
use Rattle.codes.proofs.Words.{syndrome-cons, syndrome-nil, syndrome-add, add_words-length, add_words-bytes}
use Rattle.codes.proofs.Roots.{lead_nonzero, roots_few, places_hit, places_miss, places_count, places_total, places_pass, erased_places, suspects_few}
use Rattle.codes.proofs.Values.{places_descending, descending_at, value_right}
use Rattle.codes.proofs.Erasures.{Within}
use Rattle.codes.proofs.Marked.{Covered, marked_covered}

-- ---- what the search finds in the word of errors

-- a place, counted from the end of a word, and the byte there
pub record Spot : Type 0 where
  pub place : ℕ
  pub byte : ℕ

abbrev err : Spot → Err
err p = record { loc = pow 2 p.place; val = p.byte }

abbrev place : Spot → ℕ
place p = p.place

abbrev byte : Spot → ℕ
byte p = p.byte

-- In the word, each place that passes the test t is found, with its byte, and every byte that is passed over is 0.
data Found (t : ℕ → Bool) : List ℕ → List Spot → Type 0 where
  none : Found t [] []
  hit : {r : List ℕ} {b : ℕ} {ps : List Spot} → t (length r) ≡ true → Found t r ps → Found t (b ∷ r) (record { place = length r; byte = b } ∷ ps)
  miss : {r : List ℕ} {ps : List Spot} → t (length r) ≡ false → Found t r ps → Found t (0 ∷ r) ps

find : (t : ℕ → Bool) (d : List ℕ) → Covered t d → (ps : List Spot) × Found t d ps
find t [] a = ([], none)
find t (zero ∷ r) a = go (t (length r)) refl (find t r a)
  where
    go : (b : Bool) → t (length r) ≡ b → (ps : List Spot) × Found t r ps → (ps : List Spot) × Found t (0 ∷ r) ps
    go true e f = (record { place = length r; byte = 0 } ∷ f.0, hit e f.1)
    go false e f = (f.0, miss e f.1)
find t (suc b ∷ r) a =
    let f : (ps : List Spot) × Found t r ps = find t r a.1 in
    (record { place = length r; byte = suc b } ∷ f.0, hit a.0 f.1)

found_places : {t : ℕ → Bool} {d : List ℕ} {ps : List Spot} → Found t d ps → places_where t (length d) ≡ map place ps
found_places {t} none = unfold places_where in refl
found_places {t} (hit {r = r} e f) = places_hit t (length r) e ∙ ap {B = List ℕ} (λ ks. length r ∷ ks) (found_places f)
found_places {t} (miss {r = r} e f) = places_miss t (length r) e ∙ found_places f

found-sum : {t : ℕ → Bool} {d : List ℕ} {ps : List Spot} → Found t d ps → Bytes d → (i : ℕ) → syndrome d i ≡ sum (map err ps) i
unfolding sum Bytes
found-sum none h i = syndrome-nil i
found-sum (hit {r = r} {b = b} e f) h i = syndrome-cons b r h i ∙ ap (add (mul b (pow (pow 2 (length r)) i))) (found-sum f h.1 i)
found-sum (miss {r = r} e f) h i = syndrome-cons 0 r h i ∙ ap₂ add (zero-mul (pow (pow 2 (length r)) i)) (found-sum f h.1 i) ∙ zero-add _

found_small : {t : ℕ → Bool} {d : List ℕ} {ps : List Spot} → Found t d ps → Bytes d → All Small (map err ps)
unfolding Bytes
found_small none h = tt
found_small (hit {r = r} e f) h = ((alpha_lt (length r), h.0), found_small f h.1)
found_small (miss e f) h = found_small f h.1

-- ---- the bytes found, added to a word

-- the values vs added at the places ks
patch : List ℕ → List ℕ → List ℕ → List ℕ
patch w [] vs = w
patch w (k ∷ ks) [] = w
patch w (k ∷ ks) (v ∷ vs) = patch (change w k v) ks vs

Below : ℕ → List ℕ → Type 0
Below n [] = Unit {0}
Below n (k ∷ ks) = (k < n) × Below n ks

found_below : {t : ℕ → Bool} {d : List ℕ} {ps : List Spot} → Found t d ps → (n : ℕ) → length d ≤ n → Below n (map place ps)
unfolding Below
found_below none n l = tt
found_below (hit {r = r} e f) n l = (l, found_below f n (omega arith))
found_below (miss e f) n l = found_below f n (omega arith)

pub change_first : (a : ℕ) (r : List ℕ) (k v : ℕ) → k ≡ length r → change (a ∷ r) k v ≡ add a v ∷ r
unfolding change
change_first a r k v e =
    let i : suc (length r) - suc k ≡ 0 = omega arith in
    ap (λ (i : ℕ). set (a ∷ r) i (add (get_or (a ∷ r) i 0) v)) i

pub change_rest : (a : ℕ) (r : List ℕ) (k v : ℕ) → k < length r → change (a ∷ r) k v ≡ a ∷ change r k v
unfolding change
change_rest a r k v l =
    let i : suc (length r) - suc k ≡ suc (length r - suc k) = omega arith in
    ap (λ (i : ℕ). set (a ∷ r) i (add (get_or (a ∷ r) i 0) v)) i

pub change-length : (r : List ℕ) (k v : ℕ) → length (change r k v) ≡ length r
unfolding change
change-length r k v = length-set r (length r - suc k) (add (get_or r (length r - suc k) 0) v)

patch_rest : (ks vs : List ℕ) (a : ℕ) (r : List ℕ) → Below (length r) ks → patch (a ∷ r) ks vs ≡ a ∷ patch r ks vs
unfolding patch Below
patch_rest [] vs a r h = refl
patch_rest (k ∷ ks) [] a r h = refl
patch_rest (k ∷ ks) (v ∷ vs) a r h =
    ap (λ (x : List ℕ). patch x ks vs) (change_rest a r k v h.0) ∙ patch_rest ks vs a (change r k v) (rw (change-length r k v) h.1)

found_patch : {t : ℕ → Bool} {d : List ℕ} {ps : List Spot} → Found t d ps → (r : List ℕ) → length r ≡ length d → patch r (map place ps) (map byte ps) ≡ add_words r d
unfolding patch add_words
found_patch none [] l = refl
found_patch none (a ∷ r) l = absurd (omega arith)
found_patch (hit e f) [] l = absurd (omega arith)
found_patch (hit {r = q} {b = b} {ps = ps} e f) (a ∷ r) l =
    ap (λ (x : List ℕ). patch x (map place ps) (map byte ps)) (change_first a r (length q) b (omega arith))
    ∙ patch_rest (map place ps) (map byte ps) (add a b) r (found_below f (length r) (omega arith))
    ∙ ap {B = List ℕ} (λ x. add a b ∷ x) (found_patch f r (omega arith))
found_patch (miss e f) [] l = absurd (omega arith)
found_patch (miss {ps = ps} e f) (a ∷ r) l =
    patch_rest (map place ps) (map byte ps) a r (found_below f (length r) (omega arith))
    ∙ ap₂ {C = List ℕ} (λ (x : ℕ) (y : List ℕ). x ∷ y) (sym (add-zero a)) (found_patch f r (omega arith))

-- the loop over the errors adds the same
mend_patch : (S : ℕ → ℕ) (ks vs : List ℕ) → length vs ≡ length ks → ((m : ℕ) → m < length ks → error_value S ks m ≡ get_or vs m 0)
    → (n j : ℕ) → j + n ≡ length ks → (w : List ℕ) → mend_from S ks j n w ≡ patch w (drop j ks) (drop j vs)
unfolding mend_from patch
mend_patch S ks vs l h zero j e w =
    let a : length ks ≤ j = omega arith in
    sym (ap (λ (x : List ℕ). patch w x (drop j vs)) (drop_of_length-le ks a))
mend_patch S ks vs l h (suc n) j e w =
    ap (λ (v : ℕ). mend_from S ks (suc j) n (change w (get_or ks j 0) v)) (h j (omega arith))
    ∙ mend_patch S ks vs l h n (suc j) (omega arith) (change w (get_or ks j 0) (get_or vs j 0))
    ∙ sym (ap₂ (patch w) (drop-cons ks j 0 (omega arith)) (drop-cons vs j 0 (omega arith)))

-- ---- completeness

add_words_back : (r s : List ℕ) → length r ≡ length s → add_words r (add_words r s) ≡ s
unfolding add_words
add_words_back [] [] l = refl
add_words_back [] (b ∷ s) l = absurd (omega arith)
add_words_back (a ∷ r) [] l = absurd (omega arith)
add_words_back (a ∷ r) (b ∷ s) l = ap₂ {C = List ℕ} (λ (x : ℕ) (y : List ℕ). x ∷ y) (add_cancel a b) (add_words_back r s (omega arith))

abbrev nowhere : Err
nowhere = record { loc = 0; val = 0 }

spot_loc : (ps : List Spot) (m : ℕ) → m < length (map err ps) → (get_or (map err ps) m nowhere).loc ≡ pow 2 (get_or (map place ps) m 0)
spot_loc [] m l = absurd (omega arith)
spot_loc (p ∷ ps) zero l = refl
spot_loc (p ∷ ps) (suc m) l = spot_loc ps m (omega arith)

spot_val : (ps : List Spot) (m : ℕ) → (get_or (map err ps) m nowhere).val ≡ get_or (map byte ps) m 0
spot_val [] m = refl
spot_val (p ∷ ps) zero = refl
spot_val (p ∷ ps) (suc m) = spot_val ps m

-- c is the code word within reach of w, and t the most errors that can be located beside the marks
module _ (p t : ℕ) (m w c : List ℕ) (hw : Bytes w) (sized : length m ≡ length w) (short : length w ≤ 255) (within : Within p m w c)
    (room : t + t + erasure_count m (length w) ≤ p) (wide : p ≤ t + t + erasure_count m (length w) + 1)
    (S : ℕ → ℕ) (synd : (i : ℕ) → i < p → S i ≡ syndrome w i) (q : List ℕ) (hq : Bytes q) (loc : Locator (without_marked (erased_place m) (length m) S) t q) where
  abbrev d : List ℕ
  d = add_words w c

  hd : Bytes d
  hd = add_words-bytes w c hw within.bytes

  ld : length d ≡ length w
  ld = add_words-length w c within.len

  -- the syndromes of the word are those of its errors
  same_sum : (i : ℕ) → i < p → S i ≡ syndrome d i
  same_sum i l = synd i l ∙ sym (syndrome-add w c within.len i ∙ ap (add (syndrome w i)) (within.code i l) ∙ add-zero (syndrome w i))

  marks : count_from (erased_place m) 0 (length m) ≡ erasure_count m (length w)
  marks = sym (places_total (erased_place m) (length m)) ∙ erased_places m ∙ ap (erasure_count m) sized

  found : (ps : List Spot) × Found (is_suspect m q) d ps
  found =
      find (is_suspect m q) d
      (marked_covered t m w c sized within.len short (omega (arith, within.close, wide)) hd S (λ i l. same_sum i (omega (arith, l, marks, room))) q hq loc)

  abbrev ks : List ℕ
  ks = places_where (is_suspect m q) (length m)

  at_spots : ks ≡ map place found.0
  at_spots = ap (places_where (is_suspect m q)) (sized ∙ sym ld) ∙ found_places found.1

  few : length ks ≤ p
  few = omega (arith, suspects_few m q hq (omega arith) loc.some, ap (erasure_count m) sized, loc.size, room)

  right : (j : ℕ) → j < length ks → error_value S ks j ≡ get_or (map byte found.0) j 0
  right j l =
      let ps : List Spot = found.0 in
      let n : length (map err ps) ≡ length ks = length-map ps err ∙ sym (length-map ps place) ∙ sym (ap length at_spots) in
      value_right (length m) ks j (omega arith) (places_descending (is_suspect m q) (length m)) l (map err ps) S n
      (λ i h. spot_loc ps i h ∙ ap (λ (x : List ℕ). pow 2 (get_or x i 0)) (sym at_spots)) (found_small found.1 hd)
      (λ i h. same_sum i (omega (arith, few)) ∙ found-sum found.1 hd i)
      ∙ spot_val ps j

  -- the decoder gives the code word
  pub mended-within : mended S ks w ≡ c
  unfolding mended
  mended-within =
      let ps : List Spot = found.0 in
      mend_patch S ks (map byte ps) (length-map ps byte ∙ sym (length-map ps place) ∙ sym (ap length at_spots)) right (length ks) 0 (omega arith) w
      ∙ ap (λ (x : List ℕ). patch w x (map byte ps)) at_spots ∙ found_patch found.1 w (sym ld) ∙ add_words_back w c within.len

-- ---- soundness: a mended word is a word of as many bytes, and differs at the places that were found only

value_lt : (S : ℕ → ℕ) (ks : List ℕ) (j : ℕ) → error_value S ks j < 256
unfolding error_value
value_lt S ks j = mul-lt (without_others ks j (length ks) S 0) (inverse (spread ks j (length ks) (pow 2 (get_or ks j 0))))

mend_length : (S : ℕ → ℕ) (ks : List ℕ) (n j : ℕ) (w : List ℕ) → length (mend_from S ks j n w) ≡ length w
unfolding mend_from
mend_length S ks zero j w = refl
mend_length S ks (suc n) j w =
    mend_length S ks n (suc j) (change w (get_or ks j 0) (error_value S ks j)) ∙ change-length w (get_or ks j 0) (error_value S ks j)

mend_bytes : (S : ℕ → ℕ) (ks : List ℕ) (n j : ℕ) (w : List ℕ) → Bytes w → Bytes (mend_from S ks j n w)
unfolding mend_from change
mend_bytes S ks zero j w h = h
mend_bytes S ks (suc n) j w h =
    let i : ℕ = length w - suc (get_or ks j 0) in
    mend_bytes S ks n (suc j) (set w i (add (get_or w i 0) (error_value S ks j)))
    (set-bytes w i (add (get_or w i 0) (error_value S ks j)) h (add-lt (get_or-byte w i h) (value_lt S ks j)))

-- byte i is none of those at the places ks
mend_elsewhere : (S : ℕ → ℕ) (ks : List ℕ) (n j : ℕ) (w : List ℕ) (i : ℕ) → j + n ≤ length ks
    → ((l : ℕ) → l < length ks → length w - suc (get_or ks l 0) ≡ i → ⊥) → get_or (mend_from S ks j n w) i 0 ≡ get_or w i 0
unfolding mend_from
mend_elsewhere S ks zero j w i h apart = refl
mend_elsewhere S ks (suc n) j w i h apart =
    let u : List ℕ = change w (get_or ks j 0) (error_value S ks j) in
    mend_elsewhere S ks n (suc j) u i (omega arith)
    (λ l k e. apart l k (ap (λ (x : ℕ). x - suc (get_or ks l 0)) (sym (change-length w (get_or ks j 0) (error_value S ks j))) ∙ e))
    ∙ changed w (get_or ks j 0) (error_value S ks j) (apart j (omega arith))
  where
    changed : (w : List ℕ) (k v : ℕ) → (length w - suc k ≡ i → ⊥) → get_or (change w k v) i 0 ≡ get_or w i 0
    changed w k v ne = unfold change in get_or-set_other w (length w - suc k) i (add (get_or w (length w - suc k) 0) v) 0 (λ e. ne (sym e))

module _ (S : ℕ → ℕ) (ks w : List ℕ) where
  pub mended-length : length (mended S ks w) ≡ length w
  unfolding mended
  mended-length = mend_length S ks (length ks) 0 w

  pub mended-bytes : Bytes w → Bytes (mended S ks w)
  unfolding mended
  mended-bytes = mend_bytes S ks (length ks) 0 w

-- at most as many unmarked bytes differ as the polynomial has roots
pub mended_errors : (S : ℕ → ℕ) (m q w : List ℕ) → length m ≡ length w → length w ≤ 255 → Bytes q → (t : ℕ) → length q ≤ t + 1 → NonZero q
    → error_count m w (mended S (places_where (is_suspect m q) (length m)) w) ≤ t
unfolding error_count
mended_errors S m q w sized short hq t size some =
    omega (
      arith,
      count-order (λ i. not (is_erased m i) && not (eqb (get_or w i 0) (get_or c i 0))) (λ i. is_root q (length m - suc i)) 0 (length w) root,
      ap (count_from (λ i. is_root q (length m - suc i)) 0) (sym sized),
      sym (places_count (is_root q) (length m)),
      roots_few (length m) q hq (omega arith) (lead_nonzero q some),
      size,
    )
  where
    ks : List ℕ
    ks = places_where (is_suspect m q) (length m)

    c : List ℕ
    c = mended S ks w

    -- a place that is neither marked nor a root stays
    stays : (i : ℕ) → i < length w → is_suspect m q (length m - suc i) ≡ false → get_or c i 0 ≡ get_or w i 0
    stays i l e =
        unfold mended in
        mend_elsewhere S ks (length ks) 0 w i (omega arith)
        (λ j h z.
        let k : get_or ks j 0 < length m = descending_at (length m) ks j (places_descending (is_suspect m q) (length m)) h in
        let y : get_or ks j 0 ≡ length m - suc i = omega (arith, k, z, sized) in
        false≢true (sym e ∙ ap (is_suspect m q) (sym y) ∙ places_pass (is_suspect m q) (length m) j h))

    root : (i : ℕ) → i < 0 + length w → T (not (is_erased m i) && not (eqb (get_or w i 0) (get_or c i 0))) → T (is_root q (length m - suc i))
    root i l h = go (is_erased m i) refl (is_root q (length m - suc i)) refl
      where
        back : length m - suc (length m - suc i) ≡ i
        back = omega arith

        go : (a : Bool) → is_erased m i ≡ a → (b : Bool) → is_root q (length m - suc i) ≡ b → T b
        go a e true f = tt
        go true e false f = absurd (subst (λ (x : Bool). T (not x && not (eqb (get_or w i 0) (get_or c i 0)))) e h)
        go false e false f =
            absurd (subst (λ (x : Bool). T (not x)) (eq-eqb (get_or w i 0) (get_or c i 0) (sym (stays i (omega arith) (ap₂ ◌||◌ (ap (is_erased m) back ∙ e) f))))
            (and_right (not (is_erased m i)) (not (eqb (get_or w i 0) (get_or c i 0))) h))
