-- The rows of a block as it is read, with the sector reader's marks: no more of them are far from the block's than are overloaded (far_overloaded), and one that is
-- not comes back whole from the row repair (row_comes_back), with ten unknown words and no other fault for one (ten_unknown).
-- Assumes nothing.
use mathlib.Core.Path.{◌≡◌, refl, sym, ap, subst, ◌∙◌}
use mathlib.Core.Bool.{Bool, true, false, not, ◌&&◌}
use mathlib.Core.List.{List}
use Prim.Native.Nat.{ℕ, ◌+◌, ◌*◌, ◌<◌, ◌≤◌}
use Rattle.std.specs.Prelude.{Option}
use native.Mathlib.Omega.{arith}
use borrow.Author.Tests.{eq-eqb, le-ltb}
use lib.Dec.{T, eqb, ltb→lt, lt→ltb}
use lib.ListN.{length, get_or}
use Rattle.lists.specs.Bytes.{Bytes}
use Rattle.lists.specs.Count.{bit, count_from}
use Rattle.lists.proofs.Count.{bit_test, count_same, count-order}
use Rattle.lists.proofs.Fill.{length-tabulate_from, get_or-tabulate_from}
use Rattle.codes.specs.Erasures.{is_erased, erasure_count, error_count, nearest_erased}
use Rattle.layout.specs.Lengths.{row_count, row_size}
use Rattle.layout.specs.Rows.{row_of}
use Rattle.layout.proofs.Places.{row_byte}
use Rattle.eccblock.specs.Block.{block}
use Rattle.eccblock.specs.Encode.{Accepted}
use Rattle.channel.specs.Block.{read_at, read_block, unknown_at, erasures_of_block, touched, touched_in, unknown_in, touched_known_in, overloaded, overloaded_rows}
use Rattle.channel.proofs.Rows.{LaidBlock, reading, reading_known}
use Rattle.channel.proofs.Sectors.{read_row, erasures_row, row_touched}
use Rattle.theorems.proofs.ReadBytes.{read_block_length, read_block_bytes}
use Rattle.theorems.proofs.Chain.{far_row, far_rows, row_back}

-- a shifted count
count_from_lem : (f : ℕ → Bool) (a n : ℕ) → count_from f a n ≡ count_from (λ i. f (a + i)) 0 n
count_from_lem f a n = count_same f (λ i. f (a + i)) a 0 n (λ i l. ap (λ (k : ℕ). f (a + k)) (omega arith))

module _ {bs ys : List ℕ} (laid : LaidBlock bs ys) (xs : List ℕ) (hx : Bytes xs) (r : ℕ) (hr : r < row_count) where
  abbrev marks : List ℕ
  marks = row_of (erasures_of_block xs) r

  abbrev read : List ℕ
  read = row_of (read_block xs) r

  marked : (i : ℕ) → i < row_size → is_erased marks i ≡ unknown_at xs (r * row_size + i)
  marked i l =
      ap (λ (m : List ℕ). is_erased m i) (erasures_row xs r hr)
      ∙ ap (λ (b : ℕ). eqb b 1) (get_or-tabulate_from (λ i. bit (unknown_at xs i)) (r * row_size) row_size i l) ∙ bit_test (unknown_at xs (r * row_size + i))

  -- f of the row repair is the row's unknown words,
  erasures≡unknown : erasure_count marks row_size ≡ unknown_in xs r
  unfolding erasure_count unknown_in
  erasures≡unknown = count_same (is_erased marks) (unknown_at xs) 0 (r * row_size) row_size (λ i l. ap (is_erased marks) (omega arith) ∙ marked i l)

  read_length : length read ≡ row_size
  read_length = ap length (read_row xs r hr) ∙ length-tabulate_from (read_at xs) (r * row_size) row_size

  -- a byte that is not touched is read right,
  pub untouched_right : (i : ℕ) → i < row_size → touched ys xs (r * row_size + i) ≡ false → get_or read i 0 ≡ get_or (row_of bs r) i 0
  untouched_right i l t =
      ap (λ (w : List ℕ). get_or w i 0) (read_row xs r hr) ∙ get_or-tabulate_from (read_at xs) (r * row_size) row_size i l
      ∙ reading laid xs hx (r * row_size + i) (omega arith) t ∙ sym (row_byte bs r i l)

  -- and unmarked
  pub untouched_unmarked : (i : ℕ) → i < row_size → touched ys xs (r * row_size + i) ≡ false → is_erased marks i ≡ false
  untouched_unmarked i l t = marked i l ∙ reading_known laid xs hx (r * row_size + i) (omega arith) t

  -- so one that differs and is not marked is touched
  differs : (i : ℕ) → i < row_size → T (not (is_erased marks i) && not (eqb (get_or read i 0) (get_or (row_of bs r) i 0)))
      → T (not (unknown_at xs (r * row_size + i)) && touched ys xs (r * row_size + i))
  differs i l h = go (unknown_at xs (r * row_size + i)) (touched ys xs (r * row_size + i)) refl (subst (λ (b : Bool). T (not b && not (eqb (get_or read i 0) (get_or (row_of bs r) i 0)))) (marked i l) h)
    where
      go : (u t : Bool) → touched ys xs (r * row_size + i) ≡ t → T (not u && not (eqb (get_or read i 0) (get_or (row_of bs r) i 0))) → T (not u && t)
      go true t e k = k
      go false true e k = tt
      go false false e k = subst (λ (b : Bool). T (not b)) (eq-eqb (get_or read i 0) (get_or (row_of bs r) i 0) (untouched_right i l e)) k

  -- and e is at most the other touched bytes
  pub errors≤touched : error_count marks read (row_of bs r) ≤ touched_known_in ys xs r
  unfolding error_count touched_known_in
  errors≤touched =
      subst (λ (n : ℕ). count_from f 0 n ≤ count_from g (r * row_size) row_size) (sym read_length)
      (subst (λ (n : ℕ). count_from f 0 row_size ≤ n) (sym (count_from_lem g (r * row_size) row_size)) (count-order f (λ i. g (r * row_size + i)) 0 row_size (λ i l. differs i (omega arith))))
    where
      f : ℕ → Bool
      f i = not (is_erased marks i) && not (eqb (get_or read i 0) (get_or (row_of bs r) i 0))

      g : ℕ → Bool
      g i = not (unknown_at xs i) && touched ys xs i

  row_load :
      2 * error_count marks read (row_of bs r) + erasure_count marks row_size ≤ 2 * touched_known_in ys xs r + unknown_in xs r
  row_load = omega (arith, errors≤touched, erasures≡unknown)

  -- so a row with at most five touched bytes is not far
  pub light_near : touched_in ys xs r ≤ 5 → far_row (read_block xs) (erasures_of_block xs) bs r ≡ false
  light_near few =
      le-ltb 10 (2 * error_count marks read (row_of bs r) + erasure_count marks row_size) (omega (arith, row_load, row_touched laid xs hx r hr, few))

-- at most as many rows are far as are overloaded
pub far_overloaded : {bs ys : List ℕ} → LaidBlock bs ys → (xs : List ℕ) → Bytes xs → far_rows (read_block xs) (erasures_of_block xs) bs ≤ overloaded_rows ys xs
unfolding far_rows overloaded_rows
far_overloaded {bs} {ys} laid xs hx =
    count-order (far_row (read_block xs) (erasures_of_block xs) bs) (overloaded ys xs) 0 row_count
    (λ r h t.
    let q : r < row_count = omega arith in
    let n : ℕ = 2 * error_count (row_of (erasures_of_block xs) r) (row_of (read_block xs) r) (row_of bs r) + erasure_count (row_of (erasures_of_block xs) r) row_size in
    lt→ltb 10 (2 * touched_known_in ys xs r + unknown_in xs r) (omega (arith, row_load laid xs hx r q, ltb→lt 10 n t)))

-- THE ROW: of a made block, laid as permitted choices lay it and read as xs, every row with 2e + f at most ten, where f counts its unknown words as read and e its
-- other touched bytes, comes back whole from the row repair with the sector reader's marks
module _ {previous : Option ℕ} (main : List ℕ) (first info : ℕ) (ok : Accepted previous main first info) {ys : List ℕ} (laid : LaidBlock (block main first info) ys)
    (xs : List ℕ) (hx : Bytes xs) (r : ℕ) (hr : r < row_count) where
  pub row_comes_back : 2 * touched_known_in ys xs r + unknown_in xs r ≤ 10
      → nearest_erased 10 (row_of (erasures_of_block xs) r) (row_of (read_block xs) r) ≡ row_of (block main first info) r
  row_comes_back few =
      row_back main first info ok (read_block xs) (erasures_of_block xs) (read_block_length xs) (read_block_bytes xs) r hr
      (le-ltb 10 (2 * error_count (row_of (erasures_of_block xs) r) (row_of (read_block xs) r) (row_of (block main first info) r) + erasure_count (row_of (erasures_of_block xs) r) row_size)
      (omega (arith, row_load laid xs hx r hr, few)))

  -- ten unknown words and no other fault
  pub ten_unknown : unknown_in xs r ≤ 10 → touched_known_in ys xs r ≡ 0
      → nearest_erased 10 (row_of (erasures_of_block xs) r) (row_of (read_block xs) r) ≡ row_of (block main first info) r
  ten_unknown few none = row_comes_back (omega (arith, few, none))
