-- EDC is linear: what a sum leaves is the sum of what its parts leave. From this four bytes in one step, by a table.
-- Assumes nothing.
use mathlib.Core.Path.{◌≡◌, refl, sym, ap, ap₂, ◌∙◌, subst}
use mathlib.Core.List.{List, [], ◌∷◌}
use Prim.Native.Nat.{ℕ, zero, suc, ◌+◌, ◌*◌, ◌^◌, ◌/◌, ◌%◌, ◌<◌}
use native.Mathlib.Omega.{arith}
use lib.ListN.{length, get_or, replicate}
use Rattle.lists.proofs.Fill.{get_d_tabulate}
use Rattle.field.specs.Field.{add}
use Rattle.field.proofs.Sums.{bit, add_assoc, zero-add, add-zero, add-lt, add_swap, add_cancel, add-mod, add_shift, digit_add, bit_times, sum-bit}
use Rattle.edc.specs.Edc.{edc_bit, edc_bits, edc_from, four_bytes}
use Rattle.edc.specs.Inner.{edc_entry, edc_table}
use Rattle.edc.proofs.LongDivision.{absorb_four}

-- ---- a sum of remainders and a sum of bits

edc_bit-add : (r s b c : ℕ) → edc_bit (add r s) (add b c) ≡ add (edc_bit r b) (edc_bit s c)
unfolding edc_bit add
edc_bit-add r s b c =
    let x : ℕ = (r / 2147483648 + b) % 2 in
    let y : ℕ = (s / 2147483648 + c) % 2 in
    let e : (add r s / 2147483648 + add b c) % 2 ≡ add x y =
    sum-bit (add r s / 2147483648) (add b c)
    ∙ ap₂ add (digit_add 31 r s) (add-mod 1 b c) ∙ add_swap (r / 2147483648 % 2) (s / 2147483648 % 2) (b % 2) (c % 2)
    ∙ sym (ap₂ add (sum-bit (r / 2147483648) b) (sum-bit (s / 2147483648) c)) in
    ap₂ add (ap (λ (z : ℕ). z % 4294967296) (add_shift 1 r s) ∙ add-mod 32 (r * 2) (s * 2))
    (ap (λ (z : ℕ). z * 0x80000011) e ∙ bit_times x y 0x80000011 (bit (r / 2147483648 + b)) (bit (s / 2147483648 + c)))
    ∙ add_swap (r * 2 % 4294967296) (s * 2 % 4294967296) (x * 0x80000011) (y * 0x80000011)

edc_bits-add : (n r s x y : ℕ) → edc_bits (add r s) (add x y) n ≡ add (edc_bits r x n) (edc_bits s y n)
unfolding edc_bits
edc_bits-add zero r s x y = refl
edc_bits-add (suc n) r s x y =
    let a : ℕ = x / 2 ^ n % 2 in
    let b : ℕ = y / 2 ^ n % 2 in
    ap (λ (z : ℕ). edc_bits z (add x y) n) (ap (edc_bit (add r s)) (digit_add n x y) ∙ edc_bit-add r s a b)
    ∙ edc_bits-add n (edc_bit r a) (edc_bit s b) x y

-- ---- four bytes

-- what a sum of remainders and a sum of bytes leave
four_add :
    (r s a b c d e f g h : ℕ)
    → edc_from (add r s) (add a e ∷ add b f ∷ add c g ∷ add d h ∷ []) ≡ add (edc_from r (a ∷ b ∷ c ∷ d ∷ [])) (edc_from s (e ∷ f ∷ g ∷ h ∷ []))
unfolding edc_from
four_add r s a b c d e f g h =
    let r₁ : ℕ = edc_bits r a 8 in
    let s₁ : ℕ = edc_bits s e 8 in
    let r₂ : ℕ = edc_bits r₁ b 8 in
    let s₂ : ℕ = edc_bits s₁ f 8 in
    let r₃ : ℕ = edc_bits r₂ c 8 in
    let s₃ : ℕ = edc_bits s₂ g 8 in
    ap (λ (x : ℕ). edc_bits (edc_bits (edc_bits x (add b f) 8) (add c g) 8) (add d h) 8) (edc_bits-add 8 r s a e)
    ∙ ap (λ (x : ℕ). edc_bits (edc_bits x (add c g) 8) (add d h) 8) (edc_bits-add 8 r₁ s₁ b f)
    ∙ ap (λ (x : ℕ). edc_bits x (add d h) 8) (edc_bits-add 8 r₂ s₂ c g) ∙ edc_bits-add 8 r₃ s₃ d h

-- a byte ZERO leaves the remainder 0 as it is
zero_first : (xs : List ℕ) → edc_from 0 (0 ∷ xs) ≡ edc_from 0 xs
unfolding edc_from edc_bits edc_bit
zero_first xs = refl

four_split :
    (a b c d e f g h : ℕ)
    → edc_from 0 (add a e ∷ add b f ∷ add c g ∷ add d h ∷ []) ≡ add (edc_from 0 (a ∷ b ∷ c ∷ d ∷ [])) (edc_from 0 (e ∷ f ∷ g ∷ h ∷ []))
four_split a b c d e f g h =
    ap (λ (x : ℕ). edc_from x (add a e ∷ add b f ∷ add c g ∷ add d h ∷ [])) (sym (zero-add 0)) ∙ four_add 0 0 a b c d e f g h

-- four bytes from the remainder 0, each by itself
four_parts :
    (a b c d : ℕ)
    → edc_from 0 (a ∷ b ∷ c ∷ d ∷ [])
    ≡ add (add (add (edc_from 0 (a ∷ 0 ∷ 0 ∷ 0 ∷ [])) (edc_from 0 (b ∷ 0 ∷ 0 ∷ []))) (edc_from 0 (c ∷ 0 ∷ []))) (edc_from 0 (d ∷ []))
four_parts a b c d =
    simp (add-zero, zero-add) at (four_split a 0 0 0 0 b c d)
    ∙ ap (add (edc_from 0 (a ∷ 0 ∷ 0 ∷ 0 ∷ [])))
    (simp (add-zero, zero-add) at (four_split 0 b 0 0 0 0 c d)
    ∙ ap₂ add (zero_first (b ∷ 0 ∷ 0 ∷ []))
    (simp (add-zero, zero-add) at (four_split 0 0 c 0 0 0 0 d)
    ∙ ap₂ add (zero_first (0 ∷ c ∷ 0 ∷ []) ∙ zero_first (c ∷ 0 ∷ []))
    (zero_first (0 ∷ 0 ∷ d ∷ []) ∙ zero_first (0 ∷ d ∷ []) ∙ zero_first (d ∷ []))))
    ∙ sym (add_assoc (edc_from 0 (a ∷ 0 ∷ 0 ∷ 0 ∷ [])) (edc_from 0 (b ∷ 0 ∷ 0 ∷ [])) (add (edc_from 0 (c ∷ 0 ∷ [])) (edc_from 0 (d ∷ []))))
    ∙ sym (add_assoc (add (edc_from 0 (a ∷ 0 ∷ 0 ∷ 0 ∷ [])) (edc_from 0 (b ∷ 0 ∷ 0 ∷ []))) (edc_from 0 (c ∷ 0 ∷ [])) (edc_from 0 (d ∷ [])))

-- four bytes in one step: each byte is added to its byte of the remainder
edc_four :
    (r a b c d : ℕ) → r < 4294967296
    → edc_from r (a ∷ b ∷ c ∷ d ∷ []) ≡ edc_from 0 (add (r / 16777216) a ∷ add (r / 65536 % 256) b ∷ add (r / 256 % 256) c ∷ add (r % 256) d ∷ [])
unfolding four_bytes
edc_four r a b c d h =
    let w : ℕ = r / 16777216 in
    let x : ℕ = r / 65536 % 256 in
    let y : ℕ = r / 256 % 256 in
    let z : ℕ = r % 256 in
    let e : w ≡ w % 256 = omega arith in
    simp (add-zero, add_cancel) at (four_add r 0 w x y z (add w a) (add x b) (add y c) (add z d))
    ∙ ap (λ (v : ℕ). add v (edc_from 0 (add w a ∷ add x b ∷ add y c ∷ add z d ∷ [])))
    (ap (λ (v : ℕ). edc_from r (v ∷ x ∷ y ∷ z ∷ [])) e ∙ absorb_four r h)
    ∙ zero-add (edc_from 0 (add w a ∷ add x b ∷ add y c ∷ add z d ∷ []))

-- ---- the table

-- entry 256 k + h, h below 256
entry_at : (t : List ℕ) (k h : ℕ) → t ≡ edc_table → k < 4 → h < 256 → get_or t (256 * k + h) 0 ≡ edc_from 0 (h ∷ replicate k 0)
unfolding edc_table edc_entry
entry_at t k h e l m =
    let a : (256 * k + h) % 256 ≡ h = omega arith in
    let b : (256 * k + h) / 256 ≡ k = omega arith in
    ap (λ (u : List ℕ). get_or u (256 * k + h) 0) e ∙ get_d_tabulate edc_entry 1024 (256 * k + h) (omega arith)
    ∙ ap₂ (λ (x y : ℕ). edc_from 0 (x ∷ replicate y 0)) a b

-- four bytes in one step, by the table
pub table_four :
    (t w ys : List ℕ) (r h i j k : ℕ) → t ≡ edc_table → r < 4294967296 → length w ≡ 4 → ((n : ℕ) → get_or w n 0 < 256) → ys ≡ four_bytes r
    → h ≡ add (get_or ys 0 0) (get_or w 0 0) → i ≡ add (get_or ys 1 0) (get_or w 1 0) → j ≡ add (get_or ys 2 0) (get_or w 2 0)
    → k ≡ add (get_or ys 3 0) (get_or w 3 0)
    → add (add (add (get_or t (768 + h) 0) (get_or t (512 + i) 0)) (get_or t (256 + j) 0)) (get_or t k 0) ≡ edc_from r w
unfolding four_bytes
table_four t (a ∷ b ∷ c ∷ d ∷ []) ys r h i j k e l four fits parts ph pi pj pk =
    let at = λ (n : ℕ) (x y : ℕ). ap (λ (zs : List ℕ). add (get_or zs n 0) y) parts in
    let first : r / 16777216 % 256 ≡ r / 16777216 = omega arith in
    let eh : h ≡ add (r / 16777216 % 256) a = ph ∙ at 0 0 a in
    let ei : i ≡ add (r / 65536 % 256) b = pi ∙ at 1 0 b in
    let ej : j ≡ add (r / 256 % 256) c = pj ∙ at 2 0 c in
    let ek : k ≡ add (r % 256) d = pk ∙ at 3 0 d in
    let n : k ≡ 256 * 0 + k = omega arith in
    ap₂ add
    (ap₂ add (ap₂ add (entry_at t 3 h e (omega arith) (byte _ eh (fits 0))) (entry_at t 2 i e (omega arith) (byte _ ei (fits 1)))) (entry_at t 1 j e (omega arith) (byte _ ej (fits 2))))
    (ap (λ (x : ℕ). get_or t x 0) n ∙ entry_at t 0 k e (omega arith) (byte _ ek (fits 3)))
    ∙ sym (four_parts h i j k)
    ∙ ap₂ (λ (x y : ℕ). edc_from 0 (x ∷ y ∷ j ∷ k ∷ [])) eh ei
    ∙ ap₂ (λ (x y : ℕ). edc_from 0 (add (r / 16777216 % 256) a ∷ add (r / 65536 % 256) b ∷ x ∷ y ∷ [])) ej ek
    ∙ ap (λ (x : ℕ). edc_from 0 (add x a ∷ add (r / 65536 % 256) b ∷ add (r / 256 % 256) c ∷ add (r % 256) d ∷ [])) first
    ∙ sym (edc_four r a b c d l)
  where
    byte : {x : ℕ} (y : ℕ) {z : ℕ} → x ≡ add (y % 256) z → z < 256 → x < 256
    byte {x} y {z} q m = subst (λ (v : ℕ). v < 256) (sym q) (add-lt (omega arith) m)
table_four t _ ys r h i j k e l four fits parts ph pi pj pk = absurd (omega arith)
