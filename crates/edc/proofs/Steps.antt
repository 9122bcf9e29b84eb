-- EDC, four bytes at a time; and a chunk of a list (chunk_at).
-- Assumes nothing.
use mathlib.Core.Path.{◌≡◌, refl, sym, ap, ap₂, ◌∙◌}
use mathlib.Core.List.{List, [], ◌∷◌, ◌++◌}
use Prim.Native.Nat.{ℕ, zero, suc, ◌+◌, ◌*◌, ◌/◌, ◌<◌, ◌≤◌}
use native.Mathlib.Nat.{zero-mul}
use native.Mathlib.Omega.{arith}
use lib.ListN.{length, get_or, take, drop, drop_of_length-le}
use Rattle.std.specs.Simd.{first_chunks}
use Rattle.std.proofs.lemmas.List.{drop-drop, take-append-drop}
use Rattle.lists.specs.Bytes.{Bytes}
use Rattle.edc.specs.Edc.{edc_bits, edc_from, four_bytes, edc_of}

pub chunk_at : (n k i : ℕ) (xs d : List ℕ) → i < k → get_or (first_chunks n k xs) i d ≡ take n (drop (i * n) xs)
chunk_at n zero i xs d h = absurd (omega arith)
chunk_at n (suc k) zero xs d h = ap (λ (m : ℕ). take n (drop m xs)) (sym (zero-mul n))
chunk_at n (suc k) (suc i) xs d h =
    let e : n + i * n ≡ suc i * n = omega arith in
    chunk_at n k i (drop n xs) d (omega arith) ∙ ap (take n) (drop-drop (i * n) n xs ∙ ap (λ (m : ℕ). drop m xs) e)

from-append : (r : ℕ) (xs ys : List ℕ) → edc_from r (xs ++ ys) ≡ edc_from (edc_from r xs) ys
unfolding edc_from
from-append r [] ys = refl
from-append r (x ∷ xs) ys = from-append (edc_bits r x 8) xs ys

-- four bytes more
pub edc_next_word :
    (r s i : ℕ) (xs : List ℕ) (words : List (List ℕ)) → words ≡ first_chunks 4 (length xs / 4) xs → i < length xs / 4 → s ≡ edc_from r (get_or words i [])
    → edc_from s (drop ((i + 1) * 4) xs) ≡ edc_from r (drop (i * 4) xs)
edc_next_word r s i xs words e h f =
    let rest = drop (i * 4) xs in
    let next : i * 4 + 4 ≡ (i + 1) * 4 = omega arith in
    let word : get_or words i [] ≡ take 4 rest = ap (λ (ws : List (List ℕ)). get_or ws i []) e ∙ chunk_at 4 (length xs / 4) i xs [] h in
    let after : drop ((i + 1) * 4) xs ≡ drop 4 rest = sym (drop-drop 4 (i * 4) xs ∙ ap (λ (m : ℕ). drop m xs) next) in
    ap₂ edc_from (f ∙ ap (edc_from r) word) after ∙ sym (from-append r (take 4 rest) (drop 4 rest)) ∙ ap (edc_from r) (take-append-drop 4 rest)

pub edc_end : (r : ℕ) (xs : List ℕ) (i : ℕ) → length xs ≤ i → edc_from r (drop i xs) ≡ r
unfolding edc_from
edc_end r xs i h = rw (drop_of_length-le xs h)

pub edc_length : (xs : List ℕ) → length (edc_of xs) ≡ 4
unfolding edc_of four_bytes
edc_length xs = refl

pub edc_bytes : (xs : List ℕ) → Bytes (edc_of xs)
unfolding edc_of four_bytes Bytes
edc_bytes xs = (omega arith, (omega arith, (omega arith, (omega arith, tt))))
