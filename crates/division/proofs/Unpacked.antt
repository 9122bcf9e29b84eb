-- A packed register gives its bytes back, and any two numbers of 64 bits are a register of sixteen bytes.
-- Assumes nothing.
use mathlib.Core.Path.{◌≡◌, sym, ap, ap₂, ◌∙◌}
use mathlib.Core.List.{List}
use mathlib.Core.Logic.{dite}
use Prim.Native.Nat.{ℕ, zero, suc, ◌+◌, ◌*◌, ◌-◌, ◌^◌, ◌/◌, ◌%◌, ◌<◌, ◌≤◌}
use native.Mathlib.Decide.{ℕ_discrete}
use native.Mathlib.Nat.{pow-suc, mul_assoc, div-one, div-eq_of_lt, div-div-eq-div-mul}
use native.Mathlib.Omega.{arith}
use lib.Arith.{digits_div, digits_mod}
use lib.ListN.{length, get_or, take, length-append, get_or-append}
use lib.Seq.{ext_get_or, get_or-append-add, get_or-take, length-take-le, take_all}
use Rattle.lists.specs.Bytes.{Bytes}
use Rattle.lists.specs.Fill.{tabulate}
use Rattle.lists.proofs.Bytes.{get_or-byte, append-bytes, tabulate-bytes}
use Rattle.lists.proofs.Fill.{length-tabulate, get_d_tabulate}
use Rattle.multiples.specs.Inner.{bytes_as_number, high, low}
use Rattle.division.specs.Inner.{packed, Packed, number_byte, unpacked}
use Rattle.division.specs.declared.register.Remainder.{Remainder}
use Rattle.multiples.proofs.Numbers.{number_lt, number_same}

pub same_numbers : (r s : Remainder) → r.high ≡ s.high → r.low ≡ s.low → r ≡ s
same_numbers r s h l = ap₂ pair h l
  where
    pair : ℕ → ℕ → Remainder
    pair a b = record { high = a; low = b }

number_split : (f : ℕ → ℕ) (k c b : ℕ) → bytes_as_number f k (c + b) ≡ bytes_as_number f k c * 256 ^ b + bytes_as_number f (k + c) b
unfolding bytes_as_number
number_split f k c zero = let e : c + 0 ≡ c = omega arith in rw e (omega arith)
number_split f k c (suc b) =
    let e : c + suc b ≡ suc (c + b) = omega arith in
    let d : k + (c + b) ≡ k + c + b = omega arith in
    let p : bytes_as_number f k c * 256 ^ suc b ≡ bytes_as_number f k c * 256 ^ b * 256 = ap (λ (x : ℕ). bytes_as_number f k c * x) (pow-suc 256 b) ∙ sym (mul_assoc (bytes_as_number f k c) (256 ^ b) 256) in
    rw e (ap₂ (λ (x y : ℕ). x * 256 + f y) (number_split f k c b) d ∙ omega (arith, p))

byte_at : (f : ℕ → ℕ) → ((i : ℕ) → f i < 256) → (k i : ℕ) → i < 8 → number_byte (bytes_as_number f k 8) i ≡ f (k + i)
unfolding number_byte bytes_as_number
byte_at f small k i l =
    let e : 8 ≡ suc i + (7 - i) = omega arith in
    ap (λ (n : ℕ). bytes_as_number f k n / 256 ^ (7 - i) % 256) e
    ∙ ap (λ (x : ℕ). x / 256 ^ (7 - i) % 256) (number_split f k (suc i) (7 - i))
    ∙ ap (λ (x : ℕ). x % 256) (digits_div (bytes_as_number f k (suc i)) (number_lt f small (k + suc i) (7 - i)))
    ∙ digits_mod (bytes_as_number f k i) (small (k + i))

pub unpacked-length : (r : Remainder) → length (unpacked r) ≡ 16
unfolding unpacked
unpacked-length r =
    length-append (tabulate (number_byte r.high) 8) (tabulate (number_byte r.low) 8) ∙ ap₂ (λ (a b : ℕ). a + b) (length-tabulate (number_byte r.high) 8) (length-tabulate (number_byte r.low) 8)

pub unpacked-take : (r : Remainder) → unpacked r ≡ take 16 (unpacked r)
unpacked-take r = sym (take_all 16 (unpacked r) (omega (arith, unpacked-length r)))

-- place i of a register
pub unpacked-at : (x : List ℕ) → Bytes x → (i : ℕ) → i < 16 → get_or (unpacked (packed x)) i 0 ≡ get_or x i 0
unfolding unpacked high low
unpacked-at x b i l = dite (ℕ_discrete (1 - (8 - i)) 0)
    (λ q.
    let m : i < 8 = omega (arith, q) in
    get_or-append (tabulate (number_byte (high x)) 8) (tabulate (number_byte (low x)) 8) 0 i (rw (length-tabulate (number_byte (high x)) 8) m)
    ∙ get_d_tabulate (number_byte (high x)) 8 i m ∙ byte_at (λ j. get_or x j 0) (λ j. get_or-byte x j b) 0 i m ∙ ap (λ (j : ℕ). get_or x j 0) (omega arith))
    (λ q.
    let e : i ≡ 8 + (i - 8) = omega (arith, q) in
    let m : i - 8 < 8 = omega (arith, q) in
    ap (λ (j : ℕ). get_or (unpacked (packed x)) j 0) (e ∙ ap (λ (j : ℕ). j + (i - 8)) (sym (length-tabulate (number_byte (high x)) 8)))
    ∙ get_or-append-add (tabulate (number_byte (high x)) 8) (tabulate (number_byte (low x)) 8) (i - 8) 0
    ∙ get_d_tabulate (number_byte (low x)) 8 (i - 8) m ∙ byte_at (λ j. get_or x j 0) (λ j. get_or-byte x j b) 8 (i - 8) m ∙ ap (λ (j : ℕ). get_or x j 0) (sym e))

-- the p bytes of a register
pub unpacked-register : (p : ℕ) (x : List ℕ) → Bytes x → length x ≡ p → p ≤ 16 → take p (unpacked (packed x)) ≡ x
unpacked-register p x b e l =
    let n : length (take p (unpacked (packed x))) ≡ p = length-take-le p (unpacked (packed x)) (omega (arith, unpacked-length (packed x))) in
    ext_get_or 0 (take p (unpacked (packed x))) x (n ∙ sym e)
    (λ i m. let k : i < p = omega (arith, n) in get_or-take p (unpacked (packed x)) i 0 k ∙ unpacked-at x b i (omega arith))

pub unpacked-whole : (x : List ℕ) → Bytes x → length x ≡ 16 → unpacked (packed x) ≡ x
unpacked-whole x b e = unpacked-take (packed x) ∙ unpacked-register 16 x b e (omega arith)

-- ---- two numbers are a register

-- the first n bytes of a number of eight
number-bytes : (x n : ℕ) → x < 256 ^ 8 → n ≤ 8 → bytes_as_number (number_byte x) 0 n ≡ x / 256 ^ (8 - n)
unfolding bytes_as_number number_byte
number-bytes x zero h l = sym (div-eq_of_lt h)
number-bytes x (suc n) h l =
    let y : ℕ = x / 256 ^ (7 - n) in
    let k : 8 - n ≡ suc (7 - n) = omega arith in
    let a : bytes_as_number (number_byte x) 0 n ≡ y / 256 =
    number-bytes x n h (omega arith) ∙ ap (λ (m : ℕ). x / 256 ^ m) k ∙ ap (λ (m : ℕ). x / m) (pow-suc 256 (7 - n)) ∙ sym (div-div-eq-div-mul x (256 ^ (7 - n)) 256) in
    let b : number_byte x (0 + n) ≡ y % 256 = ap (λ (m : ℕ). x / 256 ^ (7 - m) % 256) (omega arith) in
    let c : x / 256 ^ (8 - suc n) ≡ y = ap (λ (m : ℕ). x / 256 ^ m) (omega arith) in
    omega (arith, a, b, c)

whole : (x : ℕ) → x < 18446744073709551616 → bytes_as_number (number_byte x) 0 8 ≡ x
whole x h = number-bytes x 8 h (omega arith) ∙ div-one x

byte_small : (x i : ℕ) → number_byte x i < 256
unfolding number_byte
byte_small x i = omega arith

pub packed-unpacked : (r : Remainder) → r.high < 18446744073709551616 → r.low < 18446744073709551616 → Packed 16 (unpacked r) r
unfolding high low unpacked
packed-unpacked r hh hl =
    let h : ℕ = r.high in
    let l : ℕ = r.low in
    let n : length (tabulate (number_byte h) 8) ≡ 8 = length-tabulate (number_byte h) 8 in
    record {
      size = unpacked-length r;
      bytes = append-bytes (tabulate (number_byte h) 8) (tabulate (number_byte l) 8) (tabulate-bytes (number_byte h) 0 8 (byte_small h)) (tabulate-bytes (number_byte l) 0 8 (byte_small l));
      numbers = same_numbers r (packed (unpacked r))
          (sym
          (number_same (λ i. get_or (unpacked r) i 0) (number_byte h) 0 0 8
          (λ i m. get_or-append (tabulate (number_byte h) 8) (tabulate (number_byte l) 8) 0 (0 + i) (omega arith) ∙ get_d_tabulate (number_byte h) 8 (0 + i) (omega arith))
          ∙ whole h hh))
          (sym
          (number_same (λ i. get_or (unpacked r) i 0) (number_byte l) 8 0 8
          (λ i m. ap (λ (k : ℕ). get_or (unpacked r) (k + i) 0) (sym n) ∙ get_or-append-add (tabulate (number_byte h) 8) (tabulate (number_byte l) 8) i 0
          ∙ get_d_tabulate (number_byte l) 8 i m ∙ ap (number_byte l) (omega arith))
          ∙ whole l hl));
    }
