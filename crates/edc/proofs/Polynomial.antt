-- EDC and its polynomial (ECMA-268, 16.4): the long division leaves what the standard says (edc_remainder), bytes with their EDC are a multiple of
-- x^32 + x^31 + x^4 + 1 (edc_multiple), and no other four bytes after them make them one (edc_unique).
-- Assumes nothing.
use mathlib.Core.Path.{◌≡◌, refl, sym, ap, ap₂, ◌∙◌, subst}
use mathlib.Core.List.{List, [], ◌∷◌, ◌++◌}
use Prim.Native.Nat.{ℕ, ◌+◌, ◌*◌, ◌^◌, ◌/◌, ◌%◌, ◌<◌}
use native.Mathlib.Omega.{arith}
use lib.Bits.{bit_xor, xor_lt}
use lib.ListN.{length}
use Rattle.lists.specs.Bytes.{Bytes}
use Rattle.field.specs.Field.{add}
use Rattle.field.proofs.Sums.{add_assoc, add_self, add-zero, add_cancel, eq_of_add, add_apart}
use Rattle.edc.specs.Edc.{edc_from, four_bytes, edc_of}
use Rattle.edc.specs.Polynomial.{bit_field_from, bit_field, times_generator, Multiple}
use Rattle.edc.proofs.LongDivision.{generator-add, multiple_small, from_lt, Leaves, leaves_self, leaves_bytes, after_field}

-- 16.4, word for word: EDC is what the bit string times x^32 leaves modulo x^32 + x^31 + x^4 + 1
pub edc_remainder : (xs : List ℕ) → Bytes xs → (edc_from 0 xs < 2 ^ 32) × ((q : ℕ) × (bit_field xs * 2 ^ 32 ≡ bit_xor (times_generator q) (edc_from 0 xs)))
unfolding bit_field Leaves add
edc_remainder xs w =
    (from_lt 0 xs (omega arith), subst (λ (x : ℕ). Leaves x (edc_from 0 xs)) (after_field xs 0 w) (leaves_bytes xs 0 0 w (omega arith) (leaves_self 0)))

field_append : (n : ℕ) (xs ys : List ℕ) → bit_field_from n (xs ++ ys) ≡ bit_field_from (bit_field_from n xs) ys
unfolding bit_field_from
field_append n [] ys = refl
field_append n (x ∷ xs) ys = field_append (n * 256 + x) xs ys

-- the four bytes of a number s after others
field_four : (xs : List ℕ) (s : ℕ) → s < 4294967296 → bit_field (xs ++ four_bytes s) ≡ add (bit_field xs * 4294967296) s
unfolding bit_field bit_field_from four_bytes
field_four xs s h =
    let n : ℕ = bit_field_from 0 xs in
    let first : s / 0x1000000 % 256 ≡ s / 0x1000000 = omega arith in
    let second : s / 0x10000 ≡ s / 0x1000000 * 256 + s / 0x10000 % 256 = omega arith in
    let third : s / 0x100 ≡ s / 0x10000 * 256 + s / 0x100 % 256 = omega arith in
    let four : (((n * 256 + s / 0x1000000 % 256) * 256 + s / 0x10000 % 256) * 256 + s / 0x100 % 256) * 256 + s % 256 ≡ n * 4294967296 + s = omega arith in
    field_append 0 xs (four_bytes s) ∙ four ∙ sym (add_apart 32 n s h)

-- bytes with their EDC are a multiple of x^32 + x^31 + x^4 + 1
pub edc_multiple : (xs : List ℕ) → Bytes xs → Multiple (bit_field (xs ++ edc_of xs))
unfolding edc_of Multiple add
edc_multiple xs w =
    let r : ℕ = edc_from 0 xs in
    let d = edc_remainder xs w in
    let q : ℕ = d.1.0 in (
      q,
      field_four xs r d.0 ∙ ap (λ (x : ℕ). add x r) d.1.1 ∙ add_assoc (times_generator q) r r ∙ ap (add (times_generator q)) (add_self r)
          ∙ add-zero (times_generator q),
    )

-- four bytes are those of a number
four_of : (e : List ℕ) → Bytes e → length e ≡ 4 → (s : ℕ) × ((s < 4294967296) × (e ≡ four_bytes s))
unfolding four_bytes Bytes
four_of [] w l = absurd (omega arith)
four_of (a ∷ []) w l = absurd (omega arith)
four_of (a ∷ b ∷ []) w l = absurd (omega arith)
four_of (a ∷ b ∷ c ∷ []) w l = absurd (omega arith)
four_of (a ∷ b ∷ c ∷ d ∷ []) w l =
    let ha : a < 256 = w.0 in
    let hb : b < 256 = w.1.0 in
    let hc : c < 256 = w.1.1.0 in
    let hd : d < 256 = w.1.1.1.0 in
    let s : ℕ = ((a * 256 + b) * 256 + c) * 256 + d in
    let ea : a ≡ s / 0x1000000 % 256 = omega arith in
    let eb : b ≡ s / 0x10000 % 256 = omega arith in
    let ec : c ≡ s / 0x100 % 256 = omega arith in
    let ed : d ≡ s % 256 = omega arith in
    (s, (omega arith, ap₂ (λ (x y : ℕ). x ∷ y ∷ c ∷ d ∷ []) ea eb ∙ ap₂ (λ (x y : ℕ). s / 0x1000000 % 256 ∷ s / 0x10000 % 256 ∷ x ∷ y ∷ []) ec ed))
four_of (a ∷ b ∷ c ∷ d ∷ x ∷ e) w l = absurd (omega arith)

-- and no other four bytes after them make them one
pub edc_unique : (xs e : List ℕ) → Bytes xs → Bytes e → length e ≡ 4 → Multiple (bit_field (xs ++ e)) → e ≡ edc_of xs
unfolding edc_of Multiple add
edc_unique xs e w v l p =
    let r : ℕ = edc_from 0 xs in
    let d = edc_remainder xs w in
    let q : ℕ = d.1.0 in
    let f = four_of e v l in
    let s : ℕ = f.0 in
    let both : add (times_generator q) (add r s) ≡ times_generator p.0 =
    sym (add_assoc (times_generator q) r s) ∙ ap (λ (x : ℕ). add x s) (sym d.1.1) ∙ sym (field_four xs s f.1.0)
    ∙ ap (λ (x : List ℕ). bit_field (xs ++ x)) (sym f.1.1) ∙ p.1 in
    let differ : add r s ≡ times_generator (add q p.0) =
    sym (add_cancel (times_generator q) (add r s)) ∙ ap (add (times_generator q)) both ∙ sym (generator-add q p.0) in
    let small : times_generator (add q p.0) < 4294967296 = subst (λ (x : ℕ). x < 4294967296) differ (xor_lt 32 r s d.0 f.1.0) in
    f.1.1 ∙ ap four_bytes (sym (eq_of_add r s (differ ∙ multiple_small (add q p.0) small)))
