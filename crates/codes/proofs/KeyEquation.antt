-- A polynomial that the sums satisfy has every error's locator for a root; and there is one.
-- Assumes nothing.
use mathlib.Core.Path.{◌≡◌, refl, sym, ap, ap₂, ◌∙◌}
use mathlib.Core.List.{List, [], ◌∷◌, map}
use Prim.Native.Nat.{ℕ, suc, ◌<◌, ◌≤◌}
use native.Mathlib.Omega.{arith}
use lib.ListN.{length, length-map}
use Rattle.field.specs.Field.{add, mul, pow}
use Rattle.codes.specs.Inner.{dot, poly_at}
use Rattle.field.proofs.Field.{add_swap, add-zero, add-mul, mul-add, mul_assoc, mul_comm, mul_left_comm, mul-zero, mul-lt}
use Rattle.field.proofs.Powers.{pow-suc}
use Rattle.codes.proofs.Vandermonde.{Err, sum, All, Small, Distinct, vandermonde, sum_zeros, All-map, Distinct-map}

-- ---- every error's locator is a root

-- each value times the polynomial's value at its locator
abbrev pub scale : List ℕ → Err → Err
scale c e = record { loc = e.loc; val = mul e.val (poly_at c e.loc) }

scale_term : (c x v w i : ℕ) → x < 256 → add (mul c (mul v (pow x i))) (mul (mul v w) (pow x (suc i))) ≡ mul (mul v (add c (mul x w))) (pow x i)
scale_term c x v w i hx = rw (pow-suc x hx i) (simp (mul-add, add-mul, mul_assoc, mul_left_comm, mul_comm))

scale_nil : (es : List Err) → All (λ e. e.val ≡ 0) (map (scale []) es)
unfolding poly_at
scale_nil [] = tt
scale_nil (e ∷ es) = (mul-zero e.val, scale_nil es)

scale_cons : (c : ℕ) (cs : List ℕ) (es : List Err) → All Small es → (i : ℕ)
    → add (mul c (sum es i)) (sum (map (scale cs) es) (suc i)) ≡ sum (map (scale (c ∷ cs)) es) i
unfolding sum poly_at
scale_cons c cs [] s i = add-zero (mul c 0) ∙ mul-zero c
scale_cons c cs (e ∷ es) s i =
    ap (λ (u : ℕ). add u (sum (map (scale cs) (e ∷ es)) (suc i))) (mul-add c (mul e.val (pow e.loc i)) (sum es i))
    ∙ add_swap (mul c (mul e.val (pow e.loc i))) (mul c (sum es i)) (mul (mul e.val (poly_at cs e.loc)) (pow e.loc (suc i))) (sum (map (scale cs) es) (suc i))
    ∙ ap₂ add (scale_term c e.loc e.val (poly_at cs e.loc) i s.0.0) (scale_cons c cs es s.1 i)

dot-sum : (c : List ℕ) (es : List Err) → All Small es → (i : ℕ) → dot c (sum es) i ≡ sum (map (scale c) es) i
unfolding dot
dot-sum [] es s i = sym (sum_zeros (map (scale []) es) (scale_nil es) i)
dot-sum (c ∷ cs) es s i = ap (add (mul c (sum es i))) (dot-sum cs es s (suc i)) ∙ scale_cons c cs es s i

All-unmap : (Q R : Err → Type 0) (f : Err → Err) → ((e : Err) → Q (f e) → R e) → (es : List Err) → All Q (map f es) → All R es
All-unmap Q R f h [] q = tt
All-unmap Q R f h (e ∷ es) q = (h e q.0, All-unmap Q R f h es q.1)

pub roots : (t : ℕ) (c : List ℕ) (es : List Err) → length es ≤ t → All Small es → Distinct es
    → ((i : ℕ) → i < t → dot c (sum es) i ≡ 0) → All (λ e. mul e.val (poly_at c e.loc) ≡ 0) es
roots t c es l s d z =
    All-unmap (λ e. e.val ≡ 0) (λ e. mul e.val (poly_at c e.loc) ≡ 0) (scale c) (λ e h. h) es
    (vandermonde t (map (scale c) es) (omega (arith, length-map es (scale c)))
    (All-map Small Small (scale c) (λ e h. (h.0, mul-lt e.val (poly_at c e.loc))) es s)
    (Distinct-map (scale c) (λ e. refl) es d)
    (λ i hi. sym (dot-sum c es s i) ∙ z i hi))
