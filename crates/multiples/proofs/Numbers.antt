-- Bytes as one number: sums, front and end.
-- Assumes nothing.
use mathlib.Core.Path.{◌≡◌, refl, sym, ap, ap₂, ◌∙◌}
use Prim.Native.Nat.{ℕ, zero, suc, ◌+◌, ◌*◌, ◌^◌, ◌/◌, ◌%◌, ◌<◌, ◌≤◌}
use native.Mathlib.Nat.{pow-suc, pow-le-pow_right, mul_assoc}
use native.Mathlib.Numerals.{add-one}
use native.Mathlib.Omega.{arith}
use lib.Bits.{xor_block}
use Rattle.field.specs.Field.{add}
use Rattle.multiples.specs.Inner.{top, bytes_as_number}

pub number_same : (f g : ℕ → ℕ) (k l n : ℕ) → ((i : ℕ) → i < n → f (k + i) ≡ g (l + i)) → bytes_as_number f k n ≡ bytes_as_number g l n
unfolding bytes_as_number
number_same f g k l zero h = refl
number_same f g k l (suc n) h = ap₂ (λ (x y : ℕ). x * 256 + y) (number_same f g k l n (λ i m. h i (omega arith))) (h n (omega arith))

pub number_more : (f : ℕ → ℕ) (k n : ℕ) → bytes_as_number f k n * 256 + f (k + n) ≡ bytes_as_number f k (n + 1)
unfolding bytes_as_number
number_more f k n = sym (ap (bytes_as_number f k) (add-one n))

-- zeros, and nothing else, make 0
pub number-zeros : (f : ℕ → ℕ) → ((i : ℕ) → f i ≡ 0) → (k n : ℕ) → bytes_as_number f k n ≡ 0
unfolding bytes_as_number
number-zeros f h k zero = refl
number-zeros f h k (suc n) = omega (arith, number-zeros f h k n, h (k + n))

module _ (f : ℕ → ℕ) (small : (i : ℕ) → f i < 256) where
  pub number-add : (g : ℕ → ℕ) → ((i : ℕ) → g i < 256) → (k n : ℕ) → bytes_as_number (λ i. add (f i) (g i)) k n ≡ add (bytes_as_number f k n) (bytes_as_number g k n)
  unfolding bytes_as_number add
  number-add g h k zero = refl
  number-add g h k (suc n) =
      ap (λ (x : ℕ). x * 256 + add (f (k + n)) (g (k + n))) (number-add g h k n)
      ∙ sym (xor_block 8 (bytes_as_number f k n) (bytes_as_number g k n) (f (k + n)) (g (k + n)) (small (k + n)) (h (k + n)))

  pub number_lt : (k n : ℕ) → bytes_as_number f k n < 256 ^ n
  unfolding bytes_as_number
  number_lt k zero = omega arith
  number_lt k (suc n) = omega (arith, number_lt k n, small (k + n), pow-suc 256 n)

  -- a number of seven bytes or less has room for one more
  pub number-room : (k n : ℕ) → n < 8 → bytes_as_number f k n < top
  number-room k n l =
      let m : n ≤ 7 = omega arith in
      let z : 0 < 256 = omega arith in
      let h : 256 ^ n ≤ 256 ^ 7 = pow-le-pow_right z m in
      omega (arith, number_lt k n, h)

  pub number_front : (k n : ℕ) → bytes_as_number f k (suc n) ≡ f k * 256 ^ n + bytes_as_number f (k + 1) n
  unfolding bytes_as_number
  number_front k zero = let e : k + 0 ≡ k = omega arith in rw e (omega arith)
  number_front k (suc n) =
      let e : k + suc n ≡ k + 1 + n = omega arith in
      let p : f k * 256 ^ suc n ≡ f k * 256 ^ n * 256 = ap (λ (x : ℕ). f k * x) (pow-suc 256 n) ∙ sym (mul_assoc (f k) (256 ^ n) 256) in
      ap₂ (λ (x y : ℕ). x * 256 + f y) (number_front k n) e ∙ omega (arith, p)

  -- eight bytes: the first, and the seven after it
  pub first_byte : (k : ℕ) → bytes_as_number f k 8 / top ≡ f k
  first_byte k = omega (arith, number_front k 7, number_lt (k + 1) 7)

  pub rest : (k : ℕ) → bytes_as_number f k 8 % top ≡ bytes_as_number f (k + 1) 7
  rest k = omega (arith, number_front k 7, number_lt (k + 1) 7)

  -- eight bytes from the next place on
  pub moved : (k : ℕ) → bytes_as_number f k 8 % top * 256 + f (k + 8) ≡ bytes_as_number f (k + 1) 8
  unfolding bytes_as_number
  moved k = ap₂ (λ (x y : ℕ). x * 256 + f y) (rest k) (omega arith)
