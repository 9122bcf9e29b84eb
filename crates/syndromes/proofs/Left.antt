-- The syndromes of a received word, from what the generator leaves of it. For any number of roots of which the generator is known to be right.
-- Assumes nothing.
use mathlib.Core.Path.{◌≡◌, sym, ap, ◌∙◌}
use mathlib.Core.Bool.{Bool, true, ◌&&◌}
use mathlib.Core.List.{List}
use Prim.Native.Nat.{ℕ, ◌+◌, ◌≤◌}
use native.Mathlib.Omega.{arith}
use lib.Dec.{eqb, eqb→eq}
use lib.ListN.{length, take, replicate, length-replicate}
use Rattle.lists.specs.Bytes.{Bytes}
use Rattle.lists.specs.Fill.{tabulate}
use Rattle.lists.proofs.Bytes.{zeros-bytes}
use Rattle.lists.proofs.Fill.{is-tabulate, tabulate-same}
use Rattle.lists.proofs.Test.{and_left, and_right, truth_of}
use Rattle.field.specs.Field.{pow}
use Rattle.codes.specs.Word.{value_at, syndrome}
use Rattle.codes.proofs.Division.{Code, zeros-value_at}
use Rattle.division.specs.Inner.{remainder_of, packed, unpacked, empty}
use Rattle.division.specs.declared.register.Remainder.{Remainder}
use Rattle.division.proofs.Division.{zeros-place, packed-zeros}
use Rattle.division.proofs.Unpacked.{same_numbers, unpacked-register}
use Rattle.division.proofs.Words.{left-length, left-bytes, left-syndrome}

-- nothing is left: the syndromes are zeros
pub syndromes_none : (p : ℕ) (r : Remainder) → p ≤ 16 → (b : Bool) → b ≡ (eqb r.high 0 && eqb r.low 0) → b ≡ true → replicate p 0 ≡ tabulate (syndrome (take p (unpacked r))) p
unfolding syndrome value_at
syndromes_none p r few b eb t =
    let both = truth_of (eqb r.high 0 && eqb r.low 0) (sym eb ∙ t) in
    let zeros : r ≡ empty =
    same_numbers r empty (eqb→eq r.high 0 (and_left (eqb r.high 0) (eqb r.low 0) both)) (eqb→eq r.low 0 (and_right (eqb r.high 0) (eqb r.low 0) both)) in
    let e : take p (unpacked r) ≡ replicate p 0 =
    ap (λ (x : Remainder). take p (unpacked x)) (zeros ∙ (packed-zeros p).numbers) ∙ unpacked-register p (replicate p 0) (zeros-bytes p) (length-replicate p 0) few in
    is-tabulate (syndrome (take p (unpacked r))) (replicate p 0) p (length-replicate p 0)
    (λ i m. zeros-place p i ∙ sym (ap (λ (w : List ℕ). value_at w (pow 2 i)) e ∙ zeros-value_at (pow 2 i) p))

-- r is what is left of w: its syndromes are those of w
pub syndromes_left : (p : ℕ) → Code p → p ≤ 16 → (w : List ℕ) → Bytes w → p ≤ length w → (r : Remainder) → r ≡ packed (remainder_of p w)
    → tabulate (syndrome (take p (unpacked r))) p ≡ tabulate (syndrome w) p
syndromes_left p c few w hw le r e =
    let q : List ℕ = remainder_of p w in
    ap (λ (b : List ℕ). tabulate (syndrome b) p)
    (ap (λ (x : Remainder). take p (unpacked x)) e ∙ unpacked-register p q (left-bytes p w hw le) (left-length p w hw le) few)
    ∙ tabulate-same (syndrome q) (syndrome w) 0 0 p (λ i m. sym (left-syndrome p w hw le c (0 + i) (omega arith)))
