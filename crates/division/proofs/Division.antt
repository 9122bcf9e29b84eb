-- A word divided byte by byte, and registers side by side.
-- Assumes nothing.
use mathlib.Core.Path.{◌≡◌, refl, sym, ap, ap₂, ◌∙◌, subst}
use mathlib.Core.List.{List, [], ◌∷◌}
use mathlib.Core.Logic.{dite}
use Prim.Native.Nat.{ℕ, zero, suc, ◌+◌, ◌<◌, ◌≤◌}
use native.Mathlib.Decide.{ℕ_discrete}
use native.Mathlib.Nat.{le_of_suc-le-suc}
use native.Mathlib.Numerals.{add-one}
use native.Mathlib.Omega.{arith}
use lib.ListN.{length, get_or, set, take, replicate, length-replicate}
use lib.Seq.{take_all, get_or-set_same, get_or-set_other}
use Rattle.std.proofs.lemmas.List.{get_or-replicate}
use Rattle.std.proofs.lemmas.List.FromFn.{fill_by_all, get_or-map-range_with_len, length-map-range_with_len}
use Rattle.lists.specs.Bytes.{Bytes}
use Rattle.lists.proofs.Bytes.{zeros-bytes}
use Rattle.codes.specs.Parity.{shift_in, remainder, generator_tail, parity}
use Rattle.codes.proofs.Division.{remainder-length, remainder-bytes}
use Rattle.multiples.specs.Inner.{high, low}
use Rattle.division.specs.Inner.{packed, Packed, empty, beside, register_at, unpacked}
use Rattle.division.specs.declared.register.Remainder.{Remainder}
use Rattle.multiples.proofs.Numbers.{number-zeros}
use Rattle.division.proofs.Step.{tail_length}
use Rattle.division.proofs.Unpacked.{same_numbers, unpacked-whole}

-- ---- registers of zeros

pub zeros-place : (n i : ℕ) → ◌≡◌ {A = ℕ} (get_or (replicate n 0) i 0) 0
zeros-place zero i = refl
zeros-place (suc n) zero = refl
zeros-place (suc n) (suc i) = zeros-place n i

pub packed-zeros : (p : ℕ) → Packed p (replicate p 0) empty
unfolding high low
packed-zeros p = record {
  size = length-replicate p 0;
  bytes = zeros-bytes p;
  numbers = same_numbers empty (packed (replicate p 0)) (sym (number-zeros (λ i. get_or (replicate p 0) i 0) (zeros-place p) 0 8)) (sym (number-zeros (λ i. get_or (replicate p 0) i 0) (zeros-place p) 8 8));
}

-- ---- the parity of a word, whatever the number of roots

pub parity-size : (p : ℕ) (d : List ℕ) → length (parity p d) ≡ p
unfolding parity
parity-size p d = remainder-length (generator_tail p) d (replicate p 0) (length-replicate {A = ℕ} p 0 ∙ sym (tail_length p)) ∙ tail_length p

pub parity_small : (p : ℕ) (d : List ℕ) → Bytes (parity p d)
unfolding parity
parity_small p d = remainder-bytes (generator_tail p) d (replicate p 0) (zeros-bytes p)

-- ---- a word

pub remainder_more : (g r d : List ℕ) (i : ℕ) → i < length d → remainder g r (take (i + 1) d) ≡ shift_in g (remainder g r (take i d)) (get_or d i 0)
unfolding remainder
remainder_more g r d i l = ap (λ (n : ℕ). remainder g r (take n d)) (add-one i) ∙ go r d i l
  where
    go : (r d : List ℕ) (i : ℕ) → i < length d → remainder g r (take (suc i) d) ≡ shift_in g (remainder g r (take i d)) (get_or d i 0)
    go r [] i l = absurd (omega arith)
    go r (b ∷ d) zero l = refl
    go r (b ∷ d) (suc i) l = go (shift_in g r b) d i (le_of_suc-le-suc l)

-- the register after the first i bytes of a word
abbrev pub Divided : ℕ → List ℕ → ℕ → Remainder → Type 0
Divided p d i r = Packed p (remainder (generator_tail p) (replicate p 0) (take i d)) r

pub divided_none : (p : ℕ) (d : List ℕ) → Divided p d 0 empty
unfolding remainder
divided_none p d = packed-zeros p

pub divided_more : (p : ℕ) (d : List ℕ) (i : ℕ) (r : Remainder) → i < length d
    → Packed p (shift_in (generator_tail p) (remainder (generator_tail p) (replicate p 0) (take i d)) (get_or d i 0)) r → Divided p d (i + 1) r
divided_more p d i r l w = subst (λ (x : List ℕ). Packed p x r) (sym (remainder_more (generator_tail p) (replicate p 0) d i l)) w

pub divided_all : (p : ℕ) (d : List ℕ) (i : ℕ) (r : Remainder) → length d ≤ i → Divided p d i r → r ≡ packed (parity p d)
unfolding parity
divided_all p d i r le w = w.numbers ∙ ap (λ (x : List ℕ). packed (remainder (generator_tail p) (replicate p 0) x)) (take_all i d le)

-- ---- registers side by side

pub beside_at : (R : ℕ → List ℕ) (n j : ℕ) (r : Remainder) → j < n → get_or (beside R n) j r ≡ packed (R j)
unfolding beside
beside_at R n j r l = get_or-map-range_with_len (λ j. packed (R j)) 0 n j j r l (omega arith)

pub beside-length : (R : ℕ → List ℕ) (n : ℕ) → length (beside R n) ≡ n
unfolding beside
beside-length R n = length-map-range_with_len (λ j. packed (R j)) 0 n

-- registers are known one by one
pub is_beside : (R : ℕ → List ℕ) (regs : List Remainder) (n : ℕ) → length regs ≡ n → ((j : ℕ) → j < n → get_or regs j empty ≡ packed (R j)) → regs ≡ beside R n
unfolding beside
is_beside R regs n e h = fill_by_all (λ j. packed (R j)) regs n empty e h

pub beside_same : (n : ℕ) (R Q : ℕ → List ℕ) → ((j : ℕ) → j < n → R j ≡ Q j) → beside R n ≡ beside Q n
beside_same n R Q h = is_beside Q (beside R n) n (beside-length R n) (λ j l. beside_at R n j empty l ∙ ap packed (h j l))

pub beside-zeros : (p n : ℕ) → replicate n empty ≡ beside (λ j. replicate p 0) n
beside-zeros p n = is_beside (λ j. replicate p 0) (replicate n empty) n (length-replicate n empty) (λ j l. get_or-replicate n j empty empty l ∙ (packed-zeros p).numbers)

-- the registers after one row more
abbrev pub shifted : List ℕ → List Remainder → ℕ → List ℕ
shifted row regs j = shift_in (generator_tail 16) (register_at regs j) (get_or row j 0)

-- the first j registers have taken their byte
pub record Shifting (row : List ℕ) (old regs : List Remainder) (j : ℕ) : Type 0 where
  pub done : (k : ℕ) → k < j → get_or regs k empty ≡ packed (shifted row old k)
  pub left : (k : ℕ) → j ≤ k → get_or regs k empty ≡ get_or old k empty

pub shifting_none : (row : List ℕ) (old : List Remainder) → Shifting row old old 0
shifting_none row old = record { done = λ k l. absurd (omega arith); left = λ k l. refl }

pub shifting_more : (row : List ℕ) (old regs : List Remainder) (j : ℕ) (r : Remainder) → j < length regs
    → r ≡ packed (shifted row regs j) → Shifting row old regs j → Shifting row old (set regs j r) (j + 1)
shifting_more row old regs j r lj step w = record {
  done = λ k l. dite (ℕ_discrete k j)
      (λ q. rw q (get_or-set_same regs j r empty lj ∙ step
      ∙ ap (λ (x : Remainder). packed (shift_in (generator_tail 16) (unpacked x) (get_or row j 0))) (w.left j (omega arith))))
      (λ q. get_or-set_other regs j k r empty q ∙ w.done k (omega (arith, q)));
  left = λ k l. get_or-set_other regs j k r empty (λ q. omega (arith, q)) ∙ w.left k (omega arith);
}

pub shifting_all : (row : List ℕ) (old regs : List Remainder) (j : ℕ) → length regs ≡ length row → length row ≤ j → Shifting row old regs j → regs ≡ beside (shifted row old) (length row)
shifting_all row old regs j size e w = is_beside (shifted row old) regs (length row) size (λ k l. w.done k (omega arith))

-- ---- what a caller of the registers side by side needs: n columns w j, the first i bytes of each taken

pub beside_none : (n : ℕ) (w : ℕ → List ℕ) → replicate n empty ≡ beside (λ j. parity 16 (take 0 (w j))) n
unfolding parity remainder
beside_none n w = beside-zeros 16 n

-- one byte more of each
pub beside_more : (n : ℕ) (w : ℕ → List ℕ) (i : ℕ) (row : List ℕ) (old new : List Remainder) → length row ≡ n → ((j : ℕ) → j < n → i < length (w j))
    → ((j : ℕ) → j < n → get_or row j 0 ≡ get_or (w j) i 0) → old ≡ beside (λ j. parity 16 (take i (w j))) n → new ≡ beside (shifted row old) (length row)
    → new ≡ beside (λ j. parity 16 (take (i + 1) (w j))) n
unfolding parity
beside_more n w i row old new size l each eo en =
    let R : ℕ → List ℕ = λ j. parity 16 (take i (w j)) in
    en ∙ ap (beside (shifted row old)) size
    ∙ beside_same n (shifted row old) (λ j. parity 16 (take (i + 1) (w j))) (λ j h.
    let r : register_at old j ≡ R j =
    ap (λ (x : List Remainder). register_at x j) eo
    ∙ ap unpacked (beside_at R n j empty h) ∙ unpacked-whole (R j) (parity_small 16 (take i (w j))) (parity-size 16 (take i (w j))) in
    ap₂ (shift_in (generator_tail 16)) r (each j h) ∙ sym (remainder_more (generator_tail 16) (replicate 16 0) (w j) i (l j h)))
