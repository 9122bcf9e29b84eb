-- Zero runs of a stream that is judged in parts.
--   bits-append, bits-long, has_one, sync_has_one     the bits of bytes, and that a ONE is among those of a SYNC Code
--   front_holds, rest_holds                          where bits hold, so do their front and their rest
--   after_one, overlap_holds                         two parts of bits that overlap in a ONE hold as a whole
--   seen_modulo, unseen_modulo                       bits count modulo a frame's
--   stream_front, stream_rest, streams_overlap       the same of streams of bytes
-- Assumes nothing.
use mathlib.Core.Path.{◌≡◌, refl, sym, ap, ap₂, subst, ◌∙◌}
use mathlib.Core.Bool.{Bool, true, false, ◌&&◌, ◌||◌}
use mathlib.Core.List.{List, [], ◌∷◌, ◌++◌, append_assoc}
use Prim.Native.Nat.{ℕ, zero, suc, ◌+◌, ◌*◌, ◌-◌, ◌%◌, ◌<◌}
use native.Mathlib.Omega.{arith}
use lib.Dec.{T, eqb, eqb→eq}
use lib.ListN.{length, take}
use Rattle.std.specs.Prelude.{Option, Some, None}
use Rattle.lists.proofs.Test.{and_left, and_right, and_both}
use Rattle.annexg.specs.Sync.{sync_end, code_for, is_sync}
use Rattle.annexg.specs.ZeroRuns.{bits_of, inside}
use Rattle.octets.specs.Halves.{half_at}
use Rattle.layout.specs.Lengths.{frame_stream, frame_bits, closing_size}
use Rattle.channel.specs.Bits.{bits_bytes, one_fits, zero_runs_from, zero_runs_hold}

-- ---- the bits of bytes

pub bits-append : (xs ys : List ℕ) → bits_bytes (xs ++ ys) ≡ bits_bytes xs ++ bits_bytes ys
unfolding bits_bytes
bits-append [] ys = refl
bits-append (x ∷ xs) ys = ap (λ (bs : List ℕ). bits_of 8 x ++ bs) (bits-append xs ys) ∙ sym (append_assoc (bits_of 8 x) (bits_bytes xs) (bits_bytes ys))

pub bits-long : (xs : List ℕ) → length (bits_bytes xs) ≡ 8 * length xs
unfolding bits_bytes
bits-long [] = refl
bits-long (x ∷ xs) = let e = bits-long xs in omega arith

-- a ONE is among the bits
abbrev pub has_one : List ℕ → Bool
has_one [] = false
has_one (zero ∷ bs) = has_one bs
has_one (suc x ∷ bs) = true

one_behind : (head tail : List ℕ) → T (has_one tail) → T (has_one (head ++ tail))
one_behind [] tail t = t
one_behind (zero ∷ head) tail t = one_behind head tail t
one_behind (suc x ∷ head) tail t = tt

end_has_one : (xs : List ℕ) → half_at xs 1 ≡ sync_end → T (has_one (bits_bytes (take closing_size xs)))
unfolding half_at bits_bytes
end_has_one [] e = absurd (omega arith)
end_has_one (a ∷ []) e = absurd (omega arith)
end_has_one (a ∷ b ∷ []) e = absurd (omega arith)
end_has_one (a ∷ b ∷ c ∷ []) e = absurd (omega arith)
end_has_one (a ∷ b ∷ c ∷ d ∷ xs) e =
    let last : sync_end ≡ d = omega arith in
    one_behind (bits_bytes (a ∷ b ∷ c ∷ [])) (bits_bytes (d ∷ [])) (subst (λ (x : ℕ). T (has_one (bits_bytes (x ∷ [])))) last tt)

-- a SYNC Code has one, in its second half word
pub sync_has_one : (n : ℕ) (xs : List ℕ) → T (is_sync n (half_at xs 0) (half_at xs 1)) → T (has_one (bits_bytes (take closing_size xs)))
unfolding is_sync
sync_has_one n xs t =
    let first = half_at xs 0 in
    let second = half_at xs 1 in
    let four = eqb first (code_for 1 n false) || (eqb first (code_for 1 n true) || (eqb first (code_for 3 n false) || eqb first (code_for 3 n true))) in
    end_has_one xs (eqb→eq second sync_end (and_right four (eqb second sync_end) t))

-- ---- a front

front_holds : (head tail : List ℕ) (last : Option ℕ) (p : ℕ) → T (zero_runs_from last p (head ++ tail)) → T (zero_runs_from last p head)
unfolding zero_runs_from
front_holds [] tail last p t = tt
front_holds (zero ∷ head) tail last p t = front_holds head tail last (suc p) t
front_holds (suc x ∷ head) tail last p t =
    let more = zero_runs_from (Some p) (suc p) (head ++ tail) in
    and_both (one_fits last p) (zero_runs_from (Some p) (suc p) head) (and_left (one_fits last p) more t)
    (front_holds head tail (Some p) (suc p) (and_right (one_fits last p) more t))

-- ---- a rest, before which no ONE was seen

unseen_holds : (bs : List ℕ) (last : Option ℕ) (p : ℕ) → T (zero_runs_from last p bs) → T (zero_runs_from None p bs)
unfolding zero_runs_from
unseen_holds [] last p t = tt
unseen_holds (zero ∷ bs) last p t = unseen_holds bs last (suc p) t
unseen_holds (suc x ∷ bs) last p t = and_right (one_fits last p) (zero_runs_from (Some p) (suc p) bs) t

rest_holds : (head tail : List ℕ) (last : Option ℕ) (p at : ℕ) → at ≡ p + length head → T (zero_runs_from last p (head ++ tail)) → T (zero_runs_from None at tail)
unfolding zero_runs_from
rest_holds [] tail last p at e t =
    let same : p ≡ at = omega arith in
    unseen_holds tail last at (subst (λ (i : ℕ). T (zero_runs_from last i tail)) same t)
rest_holds (zero ∷ head) tail last p at e t = rest_holds head tail last (suc p) at (omega arith) t
rest_holds (suc x ∷ head) tail last p at e t =
    rest_holds head tail (Some p) (suc p) at (omega arith) (and_right (one_fits last p) (zero_runs_from (Some p) (suc p) (head ++ tail)) t)

-- ---- two parts that overlap in a ONE: after it only what comes behind it matters

after_one : (seam tail : List ℕ) (last : Option ℕ) (p : ℕ) → T (has_one seam) → T (zero_runs_from last p seam) → T (zero_runs_from None p (seam ++ tail))
    → T (zero_runs_from last p (seam ++ tail))
unfolding zero_runs_from
after_one [] tail last p o t u = absurd o
after_one (zero ∷ seam) tail last p o t u = after_one seam tail last (suc p) o t u
after_one (suc x ∷ seam) tail last p o t u =
    and_both (one_fits last p) (zero_runs_from (Some p) (suc p) (seam ++ tail)) (and_left (one_fits last p) (zero_runs_from (Some p) (suc p) seam) t) u

overlap_holds : (head seam tail : List ℕ) (last : Option ℕ) (p at : ℕ) → at ≡ p + length head → T (has_one seam) → T (zero_runs_from last p (head ++ seam))
    → T (zero_runs_from None at (seam ++ tail)) → T (zero_runs_from last p (head ++ (seam ++ tail)))
unfolding zero_runs_from
overlap_holds [] seam tail last p at e o t u =
    let same : at ≡ p = omega arith in
    after_one seam tail last p o t (subst (λ (i : ℕ). T (zero_runs_from None i (seam ++ tail))) same u)
overlap_holds (zero ∷ head) seam tail last p at e o t u = overlap_holds head seam tail last (suc p) at (omega arith) o t u
overlap_holds (suc x ∷ head) seam tail last p at e o t u =
    let first = zero_runs_from (Some p) (suc p) (head ++ seam) in
    and_both (one_fits last p) (zero_runs_from (Some p) (suc p) (head ++ (seam ++ tail))) (and_left (one_fits last p) first t)
    (overlap_holds head seam tail (Some p) (suc p) at (omega arith) o (and_right (one_fits last p) first t) u)

-- ---- bits count modulo a frame's

-- the last ONE stands at bit i before bit p, and as far before bit q at bit j
seen_modulo :
    (bs : List ℕ) (p q i j : ℕ) → i < p → j < q → p + j ≡ q + i → i % frame_bits ≡ j % frame_bits → zero_runs_from (Some i) p bs ≡ zero_runs_from (Some j) q bs
unfolding zero_runs_from
seen_modulo [] p q i j h k d e = refl
seen_modulo (zero ∷ bs) p q i j h k d e = seen_modulo bs (suc p) (suc q) i j (omega arith) (omega arith) (omega arith) e
seen_modulo (suc x ∷ bs) p q i j h k d e =
    let far : p - suc i ≡ q - suc j = omega arith in
    ap₂ ◌&&◌ (ap₂ (λ (n one : ℕ). inside 2 10 n || (eqb n 13 && eqb one 13)) far e)
    (seen_modulo bs (suc p) (suc q) p q (omega arith) (omega arith) (omega arith) (omega arith))

unseen_modulo : (bs : List ℕ) (p q : ℕ) → p % frame_bits ≡ q % frame_bits → zero_runs_from None p bs ≡ zero_runs_from None q bs
unfolding zero_runs_from
unseen_modulo [] p q e = refl
unseen_modulo (zero ∷ bs) p q e = unseen_modulo bs (suc p) (suc q) (omega arith)
unseen_modulo (suc x ∷ bs) p q e = seen_modulo bs (suc p) (suc q) p q (omega arith) (omega arith) (omega arith) e

-- ---- streams, the first of m Sync Frames

pub stream_front : (head tail : List ℕ) → T (zero_runs_hold (head ++ tail)) → T (zero_runs_hold head)
stream_front head tail t = front_holds (bits_bytes head) (bits_bytes tail) None 0 (subst (λ (l : List ℕ). T (zero_runs_from None 0 l)) (bits-append head tail) t)

module _ (head : List ℕ) (m : ℕ) (whole : length head ≡ frame_stream * m) where
  begins : frame_bits * m ≡ 0 + length (bits_bytes head)
  begins = omega (arith, bits-long head)

  pub stream_rest : (tail : List ℕ) → T (zero_runs_hold (head ++ tail)) → T (zero_runs_hold tail)
  stream_rest tail t =
      subst T (unseen_modulo (bits_bytes tail) (frame_bits * m) 0 (omega arith))
      (rest_holds (bits_bytes head) (bits_bytes tail) None 0 (frame_bits * m) begins
      (subst (λ (l : List ℕ). T (zero_runs_from None 0 l)) (bits-append head tail) t))

  pub streams_overlap : (seam tail : List ℕ) → T (has_one (bits_bytes seam)) → T (zero_runs_hold (head ++ seam)) → T (zero_runs_hold (seam ++ tail))
      → T (zero_runs_hold (head ++ (seam ++ tail)))
  streams_overlap seam tail o t u =
      let laid : bits_bytes (head ++ (seam ++ tail)) ≡ bits_bytes head ++ (bits_bytes seam ++ bits_bytes tail) =
      bits-append head (seam ++ tail) ∙ ap (λ (l : List ℕ). bits_bytes head ++ l) (bits-append seam tail) in
      let second : T (zero_runs_from None 0 (bits_bytes seam ++ bits_bytes tail)) = subst (λ (l : List ℕ). T (zero_runs_from None 0 l)) (bits-append seam tail) u in
      subst (λ (l : List ℕ). T (zero_runs_from None 0 l)) (sym laid)
      (overlap_holds (bits_bytes head) (bits_bytes seam) (bits_bytes tail) None 0 (frame_bits * m) begins o
      (subst (λ (l : List ℕ). T (zero_runs_from None 0 l)) (bits-append head seam) t)
      (subst T (unseen_modulo (bits_bytes seam ++ bits_bytes tail) 0 (frame_bits * m) (omega arith)) second))
