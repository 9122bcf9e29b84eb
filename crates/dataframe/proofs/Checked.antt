-- The checks of a frame: as the code makes them, and of a frame that was built.
-- Assumes nothing.
use mathlib.Core.Path.{◌≡◌, refl, sym, ap, ◌∙◌}
use mathlib.Core.Bool.{Bool, true, false, ◌&&◌, ◌||◌, not}
use mathlib.Core.List.{List, [], ◌∷◌}
use mathlib.Core.Logic.{◌≢◌}
use Prim.Native.Nat.{ℕ, ◌+◌, ◌%◌}
use native.Mathlib.Nat.{zero-add}
use native.Mathlib.Omega.{arith}
use borrow.Author.Tests.{eq-eqb, ne_eqb}
use lib.Dec.{eqb}
use lib.Bits.{bit_and}
use lib.ListN.{length}
use lib.Pointwise.{pointwise, bytes_decides}
use Rattle.lists.specs.Count.{bit, distance}
use Rattle.lists.proofs.Distance.{distance_self}
use Rattle.dataframe.specs.Checks.{info_of, number_of, agree, ied_passes, id_passes, edc_passes, frame_refusal}

-- ---- two lists agree

pub agree_same : {xs ys : List ℕ} → xs ≡ ys → agree xs ys ≡ true
unfolding agree
agree_same {xs} {ys} e = eq-eqb (distance xs ys) 0 (ap (λ (x : List ℕ). distance x ys) e ∙ distance_self ys)

-- what `==` answers at two of one length
pub agree_pointwise : (xs ys : List ℕ) → length xs ≡ length ys → pointwise eqb xs ys ≡ agree xs ys
unfolding agree distance
agree_pointwise [] [] l = refl
agree_pointwise [] (y ∷ ys) l = absurd (omega arith)
agree_pointwise (x ∷ xs) [] l = absurd (omega arith)
agree_pointwise (x ∷ xs) (y ∷ ys) l = both (eqb x y) (pointwise eqb xs ys) (distance xs ys) (agree_pointwise xs ys (omega arith))
  where
    both : (b p : Bool) (d : ℕ) → p ≡ eqb d 0 → (b && p) ≡ eqb (bit (not b) + d) 0
    both true p d h = h ∙ ap (λ (n : ℕ). eqb n 0) (sym (zero-add d))
    both false p d h = sym (ne_eqb (1 + d) 0 (λ e. omega arith))

pub agree_equal : (xs ys : List ℕ) → length xs ≡ length ys → agree xs ys ≡ true → xs ≡ ys
agree_equal xs ys l a = (bytes_decides xs ys).0 (agree_pointwise xs ys l ∙ a)

-- ---- check 5 of a frame with the number n, case by case

module _ (first info k : ℕ) (f : List ℕ) (n : ℕ) (number : n ≡ number_of f) where
  abbrev first_passes : Bool
  first_passes = not (eqb k 0) || eqb (n % 16) 0

  pub id_first : first_passes ≡ false → false ≡ id_passes first info k f
  unfolding id_passes
  id_first e = rw (← number, e)

  pub id_number : first_passes ≡ true → n ≢ first + k → false ≡ id_passes first info k f
  unfolding id_passes
  id_number e d = rw (← number, e, ne_eqb n (first + k) d)

  pub id_prohibited : first_passes ≡ true → n ≡ first + k → bit_and (info_of f) 0xD2 ≢ 0 → false ≡ id_passes first info k f
  unfolding id_passes
  id_prohibited e d p = rw (← number, e, eq-eqb n (first + k) d, ne_eqb (bit_and (info_of f) 0xD2) 0 p)

  pub id_unlike : first_passes ≡ true → n ≡ first + k → bit_and (info_of f) 0xD2 ≡ 0 → info_of f ≢ info → false ≡ id_passes first info k f
  unfolding id_passes
  id_unlike e d p i = rw (← number, e, eq-eqb n (first + k) d, eq-eqb (bit_and (info_of f) 0xD2) 0 p, ne_eqb (info_of f) info i)

  pub id_passes_lem : first_passes ≡ true → n ≡ first + k → bit_and (info_of f) 0xD2 ≡ 0 → info_of f ≡ info → true ≡ id_passes first info k f
  unfolding id_passes
  id_passes_lem e d p i = rw (← number, e, eq-eqb n (first + k) d, eq-eqb (bit_and (info_of f) 0xD2) 0 p, eq-eqb (info_of f) info i)

-- ---- the lowest number that applies, case by case

module _ (first info k : ℕ) (f : List ℕ) where
  pub refusal_4 : ied_passes f ≡ false → 4 ≡ frame_refusal first info k f
  unfolding frame_refusal
  refusal_4 a = rw a

  pub refusal_5 : ied_passes f ≡ true → id_passes first info k f ≡ false → 5 ≡ frame_refusal first info k f
  unfolding frame_refusal
  refusal_5 a b = rw (a, b)

  pub refusal_6 : ied_passes f ≡ true → id_passes first info k f ≡ true → edc_passes f ≡ false → 6 ≡ frame_refusal first info k f
  unfolding frame_refusal
  refusal_6 a b c = rw (a, b, c)

  pub refusal_none : ied_passes f ≡ true → id_passes first info k f ≡ true → edc_passes f ≡ true → 0 ≡ frame_refusal first info k f
  unfolding frame_refusal
  refusal_none a b c = rw (a, b, c)
