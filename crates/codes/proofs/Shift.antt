-- The register of a division, byte by byte.
-- Assumes nothing.
use mathlib.Core.Path.{◌≡◌, refl, sym, ap, ap₂, ◌∙◌}
use mathlib.Core.List.{List, [], ◌∷◌, ◌++◌, map}
use Prim.Native.Nat.{ℕ, zero, suc, ◌+◌, ◌<◌, ◌≤◌}
use native.Mathlib.Numerals.{add-one}
use native.Mathlib.Nat.{not-suc-le-zero, le_of_suc-le-suc}
use native.Mathlib.Omega.{arith}
use lib.ListN.{length, get_or, drop, length-append, length-map, drop_of_length-le, get_or-eq_default}
use lib.Seq.{ext_get_or, drop-cons}
use Rattle.lists.specs.Fill.{tabulate_from, tabulate}
use Rattle.lists.proofs.Fill.{length-tabulate, get_d_tabulate}
use Rattle.field.specs.Field.{add, mul}
use Rattle.field.proofs.Field.{zero-add}
use Rattle.codes.specs.Parity.{add_words, shift_in, remainder}
use Rattle.codes.proofs.Words.{add_words-length}

unfoldable pub shift_at : List ℕ → List ℕ → ℕ → ℕ → ℕ
shift_at g r b k = add (get_or r (k + 1) 0) (mul (add b (get_or r 0 0)) (get_or g k 0))

pub add_at : (r s : List ℕ) (k : ℕ) → length r ≡ length s → k < length r → get_or (add_words r s) k 0 ≡ add (get_or r k 0) (get_or s k 0)
unfolding add_words
add_at [] s k l h = absurd (not-suc-le-zero h)
add_at (a ∷ r) [] k l h = absurd (omega arith)
add_at (a ∷ r) (b ∷ s) zero l h = refl
add_at (a ∷ r) (b ∷ s) (suc k) l h = add_at r s k (omega arith) (le_of_suc-le-suc h)

end_at : (r : List ℕ) (k : ℕ) → get_or (r ++ (0 ∷ [])) k 0 ≡ get_or r k 0
end_at [] zero = refl
end_at [] (suc k) = refl
end_at (a ∷ r) zero = refl
end_at (a ∷ r) (suc k) = end_at r k

pub map_at : (f : ℕ → ℕ) (g : List ℕ) (k : ℕ) → k < length g → get_or (map f g) k 0 ≡ f (get_or g k 0)
map_at f [] k h = absurd (not-suc-le-zero h)
map_at f (a ∷ g) zero h = refl
map_at f (a ∷ g) (suc k) h = map_at f g k (le_of_suc-le-suc h)

pub shift_is : (g r : List ℕ) (b : ℕ) → length g ≡ length r → shift_in g r b ≡ tabulate (shift_at g r b) (length r)
unfolding shift_in shift_at tabulate_from
shift_is g [] b l = refl
shift_is g (h ∷ r) b l =
    ext_get_or 0 (add_words (r ++ (0 ∷ [])) (map (mul (add b h)) g)) (tabulate (shift_at g (h ∷ r) b) (length (h ∷ r)))
    (len ∙ sym (length-tabulate (shift_at g (h ∷ r) b) (length (h ∷ r)))) (λ k i. each k (rw len at i))
  where
    long : length (r ++ (0 ∷ [])) ≡ length (h ∷ r)
    long = length-append r (0 ∷ []) ∙ add-one (length r)

    same : length (r ++ (0 ∷ [])) ≡ length (map (mul (add b h)) g)
    same = long ∙ sym l ∙ sym (length-map g (mul (add b h)))

    len : length (add_words (r ++ (0 ∷ [])) (map (mul (add b h)) g)) ≡ length (h ∷ r)
    len = add_words-length (r ++ (0 ∷ [])) (map (mul (add b h)) g) same ∙ long

    each : (k : ℕ) → k < length (h ∷ r) → get_or (add_words (r ++ (0 ∷ [])) (map (mul (add b h)) g)) k 0 ≡ get_or (tabulate (shift_at g (h ∷ r) b) (length (h ∷ r))) k 0
    each k i =
        add_at (r ++ (0 ∷ [])) (map (mul (add b h)) g) k same (omega (arith, long))
        ∙ ap₂ add (end_at r k ∙ ap (λ (x : ℕ). get_or (h ∷ r) x 0) (sym (add-one k))) (map_at (mul (add b h)) g k (omega (arith, l, i)))
        ∙ sym (get_d_tabulate (shift_at g (h ∷ r) b) (length (h ∷ r)) k i)

pub shift_size : (g r : List ℕ) (b : ℕ) → length g ≡ length r → length (shift_in g r b) ≡ length r
shift_size g r b l = ap length (shift_is g r b l) ∙ length-tabulate (shift_at g r b) (length r)

pub remainder_next : (g r d : List ℕ) (i : ℕ) → i < length d → remainder g (shift_in g r (get_or d i 0)) (drop (i + 1) d) ≡ remainder g r (drop i d)
unfolding remainder
remainder_next g r d i h = rw (drop-cons d i 0, add-one)

pub remainder_end : (g r d : List ℕ) (i : ℕ) → length d ≤ i → remainder g r (drop i d) ≡ r
unfolding remainder
remainder_end g r d i h = rw (drop_of_length-le d h)

pub shift_last : (g r : List ℕ) (b k : ℕ) → length r ≤ k + 1 → shift_at g r b k ≡ mul (add b (get_or r 0 0)) (get_or g k 0)
unfolding shift_at
shift_last g r b k h = rw (get_or-eq_default r 0 h) (zero-add (mul (add b (get_or r 0 0)) (get_or g k 0)))
