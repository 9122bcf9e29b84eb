-- Long division by one byte more, in a packed register.
-- Assumes nothing.
use mathlib.Core.Path.{◌≡◌, refl, sym, ap, ap₂, ◌∙◌}
use mathlib.Core.List.{List, [], ◌∷◌, ◌++◌, map}
use mathlib.Core.Logic.{dite}
use Prim.Native.Nat.{ℕ, zero, suc, ◌+◌, ◌*◌, ◌-◌, ◌/◌, ◌%◌, ◌^◌, ◌<◌, ◌≤◌}
use native.Mathlib.Numerals.{add-one}
use native.Mathlib.Omega.{arith}
use native.Mathlib.Decide.{ℕ_discrete}
use lib.ListN.{length, get_or, length-map, length-append, length-drop, get_or-eq_default}
use Rattle.lists.specs.Bytes.{Bytes}
use Rattle.lists.proofs.Bytes.{get_or-byte}
use Rattle.lists.proofs.Fill.{get_d_tabulate}
use Rattle.field.specs.Field.{add, mul, pow}
use Rattle.field.proofs.Field.{add-zero, add-lt, mul-zero, mul-lt}
use Rattle.codes.specs.Parity.{times_root, shift_in, remainder, generator, generator_tail}
use Rattle.codes.proofs.Words.{add_words-length}
use Rattle.codes.proofs.Division.{remainder-bytes}
use Rattle.codes.proofs.Shift.{shift_at, shift_is, shift_size, map_at}
use Rattle.multiples.specs.Inner.{top, bytes_as_number, high, low, multiples}
use Rattle.division.specs.Inner.{packed, Packed}
use Rattle.division.specs.declared.register.Remainder.{Remainder}
use Rattle.multiples.proofs.Numbers.{number_same, number-add, number_lt, first_byte, moved as bytes_moved}
use Rattle.multiples.proofs.Entries.{multiples-high, multiples-low}
use Rattle.division.proofs.Unpacked.{same_numbers}

-- past the end too
map-place : (h : ℕ) (g : List ℕ) (k : ℕ) → get_or (map (mul h) g) k 0 ≡ mul h (get_or g k 0)
map-place h g k = dite (ℕ_discrete (1 - (length g - k)) 0)
    (λ q. map_at (mul h) g k (omega (arith, q)))
    (λ q.
    let l : length g ≤ k = omega (arith, q) in
    get_or-eq_default (map (mul h) g) 0 (rw (length-map g (mul h)) l) ∙ sym (ap (mul h) (get_or-eq_default g 0 l) ∙ mul-zero h))

shift_place : (g x : List ℕ) (b k : ℕ) → length g ≡ length x → get_or (shift_in g x b) k 0 ≡ add (get_or x (k + 1) 0) (mul (add b (get_or x 0 0)) (get_or g k 0))
unfolding shift_at
shift_place g x b k e = dite (ℕ_discrete (1 - (length x - k)) 0)
    (λ q. ap (λ (l : List ℕ). get_or l k 0) (shift_is g x b e) ∙ get_d_tabulate (shift_at g x b) (length x) k (omega (arith, q)))
    (λ q.
    let l : length x ≤ k = omega (arith, q) in
    get_or-eq_default (shift_in g x b) 0 (rw (shift_size g x b e) l)
    ∙ sym (ap₂ (λ (u v : ℕ). add u (mul (add b (get_or x 0 0)) v)) (get_or-eq_default x 0 (omega arith)) (get_or-eq_default g 0 (omega arith))
    ∙ ap (add 0) (mul-zero (add b (get_or x 0 0))) ∙ add-zero 0))

module _ (g x : List ℕ) (b : ℕ) (same : length g ≡ length x) (bytes : Bytes x) where
  at : ℕ → ℕ
  at i = get_or x i 0

  small : (i : ℕ) → at i < 256
  unfolding at
  small i = get_or-byte x i bytes

  h : ℕ
  h = add b (at 0)

  -- places k to k + 7 of the next register: those from k + 1 on, and a multiple of the generator
  next : (k : ℕ) → bytes_as_number (λ i. get_or (shift_in g x b) i 0) k 8
      ≡ add (bytes_as_number at k 8 % top * 256 + at (k + 8)) (bytes_as_number (λ i. get_or (map (mul h) g) i 0) k 8)
  unfolding at h
  next k =
      number_same (λ i. get_or (shift_in g x b) i 0) (λ i. add (at (i + 1)) (mul h (get_or g i 0))) k k 8 (λ i l. shift_place g x b (k + i) same)
      ∙ number-add (λ i. at (i + 1)) (λ i. small (i + 1)) (λ i. mul h (get_or g i 0)) (λ i. mul-lt h (get_or g i 0)) k 8
      ∙ ap₂ add
      (number_same (λ i. at (i + 1)) at k (k + 1) 8 (λ i l. ap at (omega arith)) ∙ sym (bytes_moved at small k))
      (number_same (λ i. mul h (get_or g i 0)) (λ i. get_or (map (mul h) g) i 0) k k 8 (λ i l. sym (map-place h g (k + i))))

  pub next_high : high (shift_in g x b) ≡ add (high x % top * 256 + low x / top) (high (map (mul (add b (high x / top))) g))
  unfolding high low at h
  next_high =
      next 0
      ∙ ap₂ (λ (u v : ℕ). add (bytes_as_number at 0 8 % top * 256 + u) (bytes_as_number (λ i. get_or (map (mul (add b v)) g) i 0) 0 8)) (sym (first_byte at small 8)) (sym (first_byte at small 0))

  pub next_low : length x ≤ 16 → low (shift_in g x b) ≡ add (low x % top * 256) (low (map (mul (add b (high x / top))) g))
  unfolding high low at h
  next_low l =
      next 8
      ∙ ap₂ (λ (u v : ℕ). add u (bytes_as_number (λ i. get_or (map (mul (add b v)) g) i 0) 8 8))
      (ap (λ (u : ℕ). bytes_as_number at 8 8 % top * 256 + u) (get_or-eq_default x 0 l) ∙ omega arith) (sym (first_byte at small 0))

high_lt : (x : List ℕ) → Bytes x → high x < 256 ^ 8
unfolding high
high_lt x w = number_lt (λ i. get_or x i 0) (λ i. get_or-byte x i w) 0 8

-- ---- the generator

times_root-length : (a : ℕ) (r : List ℕ) → length (times_root a r) ≡ suc (length r)
unfolding times_root
times_root-length a r =
    let n : length (r ++ (0 ∷ [])) ≡ suc (length r) = length-append r (0 ∷ []) ∙ add-one (length r) in
    add_words-length (r ++ (0 ∷ [])) (0 ∷ map (mul a) r) (n ∙ ap suc (sym (length-map r (mul a)))) ∙ n

generator-length : (p : ℕ) → length (generator p) ≡ suc p
unfolding generator
generator-length zero = refl
generator-length (suc p) = times_root-length (pow 2 p) (generator p) ∙ ap suc (generator-length p)

pub tail_length : (p : ℕ) → length (generator_tail p) ≡ p
tail_length p = omega (arith, length-drop 1 (generator p), generator-length p)

-- ---- one byte more

pub shift_bytes : (g x : List ℕ) (b : ℕ) → Bytes x → Bytes (shift_in g x b)
unfolding remainder
shift_bytes g x b h = remainder-bytes g (b ∷ []) x h

-- a register moved up by one place fits a number of 64 bits
pub room : (h l : ℕ) → l < 18446744073709551616 → h % top * 256 + l / top < 18446744073709551616
room h l k = go (h % top) (l / top) (omega arith) (omega arith)
  where
    go : (a b : ℕ) → a < top → b < 256 → a * 256 + b < 18446744073709551616
    go a b la lb = omega arith

pub byte_index : (b h : ℕ) → b < 256 → h < 18446744073709551616 → add b (h / top) < 256
byte_index b h l m = add-lt l (omega arith)

pub packed_next : (p b : ℕ) (x m : List ℕ) (r : Remainder) → p ≤ 16 → m ≡ multiples p → b < 256 → Packed p x r
    → Packed p (shift_in (generator_tail p) x b) (record {
      high = add (r.high % top * 256 + r.low / top) (get_or m (2 * add b (r.high / top)) 0);
      low = add (r.low % top * 256) (get_or m (2 * add b (r.high / top) + 1) 0);
    })
packed_next p b x m r le e small w =
    let g : List ℕ = generator_tail p in
    let s : length g ≡ length x = tail_length p ∙ sym w.size in
    let i : add b (high x / top) < 256 = byte_index b (high x) small (high_lt x w.bytes) in
    record {
      size = shift_size g x b s ∙ w.size;
      bytes = shift_bytes g x b w.bytes;
      numbers =
          ap (λ (q : Remainder). moved m b q) w.numbers
          ∙ same_numbers (moved m b (packed x)) (packed (shift_in g x b))
          (ap (λ (u : ℕ). add (high x % top * 256 + low x / top) u)
          (ap (λ (t : List ℕ). get_or t (2 * add b (high x / top)) 0) e ∙ multiples-high p (add b (high x / top)) i) ∙ sym (next_high g x b s w.bytes))
          (ap (λ (u : ℕ). add (low x % top * 256) u)
          (ap (λ (t : List ℕ). get_or t (2 * add b (high x / top) + 1) 0) e ∙ multiples-low p (add b (high x / top)) i)
          ∙ sym (next_low g x b s w.bytes (omega (arith, w.size))));
    }
  where
    moved : List ℕ → ℕ → Remainder → Remainder
    moved m b r = record {
      high = add (r.high % top * 256 + r.low / top) (get_or m (2 * add b (r.high / top)) 0);
      low = add (r.low % top * 256) (get_or m (2 * add b (r.high / top) + 1) 0);
    }
