-- The scrambling register is linear: what a sum shifts to is the sum of what its parts shift to. From this eight shifts at once, and a rule over whole bytes.
-- Assumes nothing.
use mathlib.Core.Path.{◌≡◌, refl, sym, ap, ap₂, ◌∙◌}
use Prim.Native.Nat.{ℕ, zero, suc, ◌+◌, ◌*◌, ◌/◌, ◌%◌, ◌<◌}
use native.Mathlib.Nat.{mod-lt}
use native.Mathlib.Omega.{arith}
use lib.Bits.{bit_xor, xor_shifted}
use lib.Dec.{T, eqb, eqb→eq}
use lib.Pow.{pow_pos}
use Rattle.lists.specs.Test.{below}
use Rattle.lists.proofs.Test.{below_at}
use Rattle.field.specs.Field.{add}
use Rattle.field.proofs.Sums.{bit, add_assoc, add_swap, add_cancel, add-mod, add-div, add_shift, add_parts, digit_add, sum-bit, Linear}
use Rattle.scrambling.specs.Scrambling.{shifted, register, scrambling_byte}
use Rattle.scrambling.proofs.Scrambled.{register-add}

-- ---- linear functions of the register

-- they are known by their values at 0 to 255 and at the multiples of 256
linear_same :
    (f g : ℕ → ℕ) → Linear f → Linear g → T (below 256 (λ a. eqb (f a) (g a))) → T (below 128 (λ a. eqb (f (a * 256)) (g (a * 256))))
    → (r : ℕ) → r < 0x8000 → f r ≡ g r
linear_same f g hf hg low high r h =
    let a : ℕ = r / 256 in
    let b : ℕ = r % 256 in
    let e : add (a * 256) b ≡ r = add_parts 8 r in
    ap f (sym e) ∙ hf (a * 256) b
    ∙ ap₂ add (eqb→eq (f (a * 256)) (g (a * 256)) (below_at 128 (λ a. eqb (f (a * 256)) (g (a * 256))) high a (omega arith)))
    (eqb→eq (f b) (g b) (below_at 256 (λ a. eqb (f a) (g a)) low b (omega arith)))
    ∙ sym (hg (a * 256) b) ∙ ap g e

-- a shift as a sum
shifted_sum : (r : ℕ) → shifted r ≡ add (r * 2 % 0x8000) (add (r / 16384 % 2) (r / 1024 % 2))
unfolding shifted add
shifted_sum r =
    let b : ℕ = (r / 16384 + r / 1024) % 2 in
    let e : r * 2 % 0x8000 ≡ r % 16384 * 2 = omega arith in
    ap (λ (x : ℕ). x + b) e ∙ sym (xor_shifted (r % 16384) 1 b (bit (r / 16384 + r / 1024))) ∙ ap₂ bit_xor (sym e) (sum-bit (r / 16384) (r / 1024))

shifted-add : Linear shifted
shifted-add r s =
    shifted_sum (add r s)
    ∙ ap₂ add (ap (λ (x : ℕ). x % 0x8000) (add_shift 1 r s) ∙ add-mod 15 (r * 2) (s * 2))
    (ap₂ add (digit_add 14 r s) (digit_add 10 r s) ∙ add_swap (r / 16384 % 2) (s / 16384 % 2) (r / 1024 % 2) (s / 1024 % 2))
    ∙ add_swap (r * 2 % 0x8000) (s * 2 % 0x8000) (add (r / 16384 % 2) (r / 1024 % 2)) (add (s / 16384 % 2) (s / 1024 % 2))
    ∙ sym (ap₂ add (shifted_sum r) (shifted_sum s))

register-sum : (n : ℕ) → Linear (λ r. register r n)
unfolding register
register-sum zero r s = refl
register-sum (suc n) r s = ap shifted (register-sum n r s) ∙ shifted-add (register r n) (register s n)

-- ---- eight shifts at once

-- r6 to r0 move up by eight, and r14 to r7 xor r10 to r3 enter below them
unfoldable eight : ℕ → ℕ
eight r = r % 128 * 256 + add (r / 128) (r / 8) % 256

eight_sum : (r : ℕ) → eight r ≡ add (r % 128 * 256) (add (r / 128) (r / 8) % 256)
unfolding eight add
eight_sum r = sym (xor_shifted (r % 128) 8 (bit_xor (r / 128) (r / 8) % 256) (mod-lt (bit_xor (r / 128) (r / 8)) (pow_pos 8)))

eight_add : Linear eight
eight_add r s =
    eight_sum (add r s)
    ∙ ap₂ add (ap (λ (x : ℕ). x * 256) (add-mod 7 r s) ∙ add_shift 8 (r % 128) (s % 128))
    (ap (λ (x : ℕ). x % 256) (ap₂ add (add-div 7 r s) (add-div 3 r s) ∙ add_swap (r / 128) (s / 128) (r / 8) (s / 8))
    ∙ add-mod 8 (add (r / 128) (r / 8)) (add (s / 128) (s / 8)))
    ∙ add_swap (r % 128 * 256) (s % 128 * 256) (add (r / 128) (r / 8) % 256) (add (s / 128) (s / 8) % 256)
    ∙ sym (ap₂ add (eight_sum r) (eight_sum s))

eight_low : T (below 256 (λ a. eqb (register a 8) (eight a)))
unfolding register shifted eight add
eight_low = tt

eight_high : T (below 128 (λ a. eqb (register (a * 256) 8) (eight (a * 256))))
unfolding register shifted eight add
eight_high = tt

pub eight_shifts : (r : ℕ) → r < 0x8000 → register r 8 ≡ r % 128 * 256 + bit_xor (r / 128) (r / 8) % 256
unfolding eight add
eight_shifts r h = linear_same (λ r. register r 8) eight (register-sum 8) eight_add eight_low eight_high r h

-- ---- a rule over whole bytes

-- A^15 = A^4 + 1 for the shift A, and so for its squares: A^120 = A^32 + 1
abbrev Recurs : ℕ → ℕ → Type 0
Recurs m k = (r : ℕ) → r < 0x8000 → register r m ≡ add r (register r k)

register-lt : (r n : ℕ) → r < 0x8000 → register r n < 0x8000
unfolding register shifted
register-lt r zero h = h
register-lt r (suc n) h = omega arith

recurs_low : T (below 256 (λ a. eqb (register a 15) (add a (register a 4))))
unfolding register shifted add
recurs_low = tt

recurs_high : T (below 128 (λ a. eqb (register (a * 256) 15) (add (a * 256) (register (a * 256) 4))))
unfolding register shifted add
recurs_high = tt

recurs : Recurs 15 4
recurs =
    linear_same (λ r. register r 15) (λ r. add r (register r 4)) (register-sum 15)
    (λ r s. ap (add (add r s)) (register-sum 4 r s) ∙ add_swap r s (register r 4) (register s 4)) recurs_low recurs_high

recurs_twice : (m k : ℕ) → Recurs m k → Recurs (m + m) (k + k)
recurs_twice m k h r l =
    let s : ℕ = register r k in
    register-add r m m ∙ h (register r m) (register-lt r m l)
    ∙ ap₂ add (h r l) (ap (λ (x : ℕ). register x k) (h r l) ∙ register-sum k r s)
    ∙ add_assoc r s (add s (register s k)) ∙ ap (add r) (add_cancel s (register s k) ∙ sym (register-add r k k))

-- a scrambling byte is the sum of those fifteen and eleven before it
pub byte_recurs : (r i : ℕ) → r < 0x8000 → scrambling_byte r (i + 15) ≡ add (scrambling_byte r i) (scrambling_byte r (i + 4))
unfolding scrambling_byte
byte_recurs r i h =
    let s : ℕ = register r (8 * i) in
    let e : 8 * (i + 15) ≡ 8 * i + 120 = omega arith in
    let f : 8 * (i + 4) ≡ 8 * i + 32 = omega arith in
    ap (λ (n : ℕ). register r n % 256) e ∙ ap (λ (x : ℕ). x % 256) (register-add r (8 * i) 120)
    ∙ ap (λ (x : ℕ). x % 256) (recurs_twice 60 16 (recurs_twice 30 8 (recurs_twice 15 4 recurs)) s (register-lt r (8 * i) h))
    ∙ add-mod 8 s (register s 32)
    ∙ ap (λ (x : ℕ). add (s % 256) (x % 256)) (sym (register-add r (8 * i) 32)) ∙ ap (λ (n : ℕ). add (s % 256) (register r n % 256)) (sym f)
