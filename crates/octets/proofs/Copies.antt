-- Bytes that follow one another, put into a buffer: the kit's `sets l at v`, place by place (get_or-sets_in, -before, -after), as a whole (sets_all, put_all), up to their end
-- (take-sets), as bytes stored at places (sets_stored), and as the copy that a loop makes (paste_sets); and bytes stored one by one (stored_none, stored_more).
-- Assumes nothing.
use mathlib.Core.Path.{◌≡◌, refl, sym, ap, ◌∙◌}
use mathlib.Core.Bool.{Bool, true, false}
use mathlib.Core.List.{List, [], ◌∷◌, ◌++◌}
use mathlib.Core.Logic.{◌≢◌, dite}
use Prim.Native.Nat.{ℕ, zero, suc, ◌+◌, ◌-◌, ◌<◌, ◌≤◌}
use native.Mathlib.Decide.{ℕ_discrete}
use native.Mathlib.Omega.{arith}
use borrow.Author.Tests.{ltb-true, ltb-false}
use lib.Dec.{ltb}
use lib.ListN.{length, get_or, set, take, drop, length-set, length-append}
use lib.Seq.{sets, length-sets, sets-eq, paste, ext_get_or, get_or-set_same, get_or-set_other, get_or-take, get_or-drop, take_at, take-length, length-take-le}
use Rattle.lists.proofs.Fill.{Upto}
use Rattle.octets.specs.Inner.{Stored, following}

-- ---- `sets`, place by place

pub get_d_sets_before : (v l : List ℕ) (at p : ℕ) → p < at → get_or (sets l at v) p 0 ≡ get_or l p 0
get_d_sets_before [] l at p h = refl
get_d_sets_before (a ∷ v) l at p h =
    get_d_sets_before v (set l at a) (suc at) p (omega arith) ∙ get_or-set_other l at p a 0 (λ e. omega (arith, e))

pub get_or-sets_after : (v l : List ℕ) (at p : ℕ) → at + length v ≤ p → get_or (sets l at v) p 0 ≡ get_or l p 0
get_or-sets_after [] l at p h = refl
get_or-sets_after (a ∷ v) l at p h =
    get_or-sets_after v (set l at a) (suc at) p (omega arith) ∙ get_or-set_other l at p a 0 (λ e. omega (arith, e))

pub get_or-sets_in : (v l : List ℕ) (at i : ℕ) → at + length v ≤ length l → i < length v → get_or (sets l at v) (at + i) 0 ≡ get_or v i 0
get_or-sets_in [] l at i h k = absurd (omega arith)
get_or-sets_in (a ∷ v) l at zero h k =
    let e : at + 0 ≡ at = omega arith in
    rw e (get_d_sets_before v (set l at a) (suc at) at (omega arith) ∙ get_or-set_same l at a 0 (omega arith))
get_or-sets_in (a ∷ v) l at (suc i) h k =
    let e : at + suc i ≡ suc at + i = omega arith in
    rw e (get_or-sets_in v (set l at a) (suc at) i (omega (arith, length-set l at a)) (omega arith))

-- ---- `sets` as a whole

-- a buffer of the same length holds the bytes
pub sets_all : (v l : List ℕ) → length v ≡ length l → sets l 0 v ≡ v
sets_all v l e =
    ext_get_or 0 (sets l 0 v) v (length-sets l 0 v ∙ sym e)
    (λ i h. let z : 0 + i ≡ i = omega arith in rw z at (get_or-sets_in v l 0 i (omega arith) (omega (arith, length-sets l 0 v))))

-- so of what `bytes::put` leaves
pub put_all : (v old new : List ℕ) → new ≡ sets old 0 v → length v ≡ length old → new ≡ v
put_all v old new e h = e ∙ sets_all v old h

pub take-sets : (v l : List ℕ) (at : ℕ) → at + length v ≤ length l → take (at + length v) (sets l at v) ≡ take at l ++ v
take-sets v l at h =
    ap (take (at + length v)) (sets-eq v l at h)
    ∙ take_at (take at l ++ v) (drop (at + length v) l) (at + length v)
    (length-append (take at l) v ∙ ap (λ (n : ℕ). n + length v) (length-take-le at l (omega arith)))

-- the copy that a loop makes
pub paste_sets : (l : List ℕ) (at : ℕ) (v : List ℕ) → at + length v ≤ length l → paste l at v (length v) ≡ sets l at v
paste_sets l at v h = ap (λ (x : List ℕ). take at l ++ x ++ drop (at + length v) l) (take-length v) ∙ sym (sets-eq v l at h)

-- ---- bytes stored one after the other, at places that differ

pub stored_none : (at : ℕ → ℕ) (v old : List ℕ) → Stored at v old old 0
stored_none at v old = record { size = refl; done = λ i l. absurd (omega arith); left = λ p h. refl }

pub stored_more :
    (at : ℕ → ℕ) (v old new : List ℕ) (n : ℕ) → ((i : ℕ) → i < n → at i ≢ at n) → at n < length old → Stored at v old new n
    → Stored at v old (set new (at n) (get_or v n 0)) (n + 1)
stored_more at v old new n apart h w = record {
  size = length-set new (at n) (get_or v n 0) ∙ w.size;
  done = λ i l. dite (ℕ_discrete i n)
      (λ e. ap (λ (x : ℕ). get_or (set new (at n) (get_or v n 0)) (at x) 0) e ∙ get_or-set_same new (at n) (get_or v n 0) 0 (omega (arith, w.size))
      ∙ ap (λ (x : ℕ). get_or v x 0) (sym e))
      (λ z. get_or-set_other new (at n) (at i) (get_or v n 0) 0 (apart i (omega (arith, z))) ∙ w.done i (omega (arith, z)));
  left = λ p a. get_or-set_other new (at n) p (get_or v n 0) 0 (a n (omega arith)) ∙ w.left p (λ i l. a i (omega arith));
}

-- m bytes more, at places that follow one another
pub stored_row :
    (at : ℕ → ℕ) (v old mid new : List ℕ) (n m : ℕ) → ((j : ℕ) → j < m → at (n + j) ≡ at n + j) → ((i j : ℕ) → i < n → j < m → at i ≢ at n + j)
    → Stored at v old mid n → Stored (following (at n)) (take m (drop n v)) mid new m → Stored at v old new (n + m)
stored_row at v old mid new n m run_on apart w z = record {
  size = z.size ∙ w.size;
  done = λ i l. done i l (ltb i n) refl;
  left = λ p a. z.left p (λ j l e. a (n + j) (omega arith) (e ∙ sym (run_on j l))) ∙ w.left p (λ i l. a i (omega arith));
}
  where
    done : (i : ℕ) → i < n + m → (b : Bool) → ltb i n ≡ b → get_or new (at i) 0 ≡ get_or v i 0
    done i l true t =
        let h : i < n = ltb-true i n t in
        z.left (at i) (λ j k. apart i j h k) ∙ w.done i h
    done i l false t =
        let h : n ≤ i = ltb-false i n t in
        let j : ℕ = i - n in
        let e : i ≡ n + j = omega arith in
        let k : j < m = omega arith in
        ap (λ (x : ℕ). get_or new (at x) 0) e ∙ ap (λ (x : ℕ). get_or new x 0) (run_on j k) ∙ z.done j k
        ∙ get_or-take m (drop n v) j 0 k ∙ get_or-drop n v j 0 ∙ ap (λ (x : ℕ). get_or v x 0) (sym e)

-- m entries more of a list that is filled from the front on
pub upto_row :
    (f : ℕ → ℕ) (old mid new v : List ℕ) (n m : ℕ) → ((j : ℕ) → j < m → get_or v j 0 ≡ f (n + j)) → Upto f old mid n → Stored (following n) v mid new m
    → Upto f old new (n + m)
upto_row f old mid new v n m is w z = record {
  same = z.size ∙ w.same;
  done = λ i l. done i l (ltb i n) refl;
  left = λ p a. z.left p (λ j l e. omega (arith, e)) ∙ w.left p (omega arith);
}
  where
    done : (i : ℕ) → i < n + m → (b : Bool) → ltb i n ≡ b → get_or new i 0 ≡ f i
    done i l true t =
        let h : i < n = ltb-true i n t in
        z.left i (λ j k e. omega (arith, e)) ∙ w.done i h
    done i l false t =
        let h : n ≤ i = ltb-false i n t in
        let j : ℕ = i - n in
        let e : i ≡ n + j = omega arith in
        let k : j < m = omega arith in
        ap (λ (x : ℕ). get_or new x 0) e ∙ z.done j k ∙ is j k ∙ ap f (sym e)

pub stored_same : (at : ℕ → ℕ) (v u old new : List ℕ) (n : ℕ) → v ≡ u → Stored at v old new n → Stored at u old new n
stored_same at v u old new n e s = rw (sym e) s

-- bytes that follow one another are stored at the places at, at + 1, ..
pub sets_stored : (v old : List ℕ) (at : ℕ) → at + length v ≤ length old → Stored (following at) v old (sets old at v) (length v)
sets_stored v old at h = record {
  size = length-sets old at v;
  done = λ i l. get_or-sets_in v old at i h l;
  left = λ p k. outside p k (ltb p at) refl;
}
  where
    past : (p : ℕ) → ((i : ℕ) → i < length v → p ≢ at + i) → at ≤ p → (b : Bool) → ltb p (at + length v) ≡ b → get_or (sets old at v) p 0 ≡ get_or old p 0
    past p k l true e =
        let m : p < at + length v = ltb-true p (at + length v) e in
        absurd (k (p - at) (omega arith) (omega arith))
    past p k l false e = get_or-sets_after v old at p (ltb-false p (at + length v) e)

    outside : (p : ℕ) → ((i : ℕ) → i < length v → p ≢ at + i) → (b : Bool) → ltb p at ≡ b → get_or (sets old at v) p 0 ≡ get_or old p 0
    outside p k true e = get_d_sets_before v old at p (ltb-true p at e)
    outside p k false e = past p k (ltb-false p at e) (ltb p (at + length v)) refl

-- the same of what `bytes::put` leaves, for n bytes
pub put_stored : (v old new : List ℕ) (at n : ℕ) → length v ≡ n → at + n ≤ length old → new ≡ sets old at v → Stored (following at) v old new n
put_stored v old new at n l h e = rw (e, ← l) (sets_stored v old at (omega arith))
