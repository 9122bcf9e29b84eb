-- THE ROW THEOREM (document 02, request 8): a word of which every place is right and unmarked in at least one of two readings, and of which the two together have at
-- most p unmarked wrong bytes, comes back whole from the repair of the pooled reading (pooled_comes_back), over any length up to 255 and any number of roots. Rows of
-- a pooled block are the pooled rows (pooled_row).
-- Assumes nothing.
use mathlib.Core.Path.{◌≡◌, refl, sym, ap₂, subst, ◌∙◌}
use mathlib.Core.Bool.{Bool, true, false, not, cond, ◌&&◌, ◌||◌}
use mathlib.Core.List.{List}
use Prim.Native.Nat.{ℕ, ◌+◌, ◌*◌, ◌<◌, ◌≤◌}
use native.Mathlib.Omega.{arith}
use borrow.Author.Tests.{eq-eqb, eqb-true}
use lib.Dec.{T, eqb, leb→le}
use lib.ListN.{length, get_or}
use Rattle.lists.specs.Bytes.{Bytes}
use Rattle.lists.specs.Count.{bit}
use Rattle.lists.specs.Fill.{tabulate}
use Rattle.lists.proofs.Count.{bit_le, count_none, count-sum}
use Rattle.lists.proofs.Fill.{part_tabulate, tabulate-same}
use Rattle.lists.proofs.Test.{and_left, and_right, truth, below_at}
use Rattle.layout.specs.Lengths.{block_size, row_count, row_size}
use Rattle.layout.specs.Rows.{row_of}
use Rattle.layout.proofs.Places.{row_length, row_byte}
use Rattle.codes.specs.Erasures.{is_erased, erasure_count, error_count, nearest_erased}
use Rattle.codes.proofs.Words.{IsCode}
use Rattle.codes.proofs.Erasures.{nearest-within}
use Rattle.pooling.specs.Pool.{MarkedBytes, with_marks, byte_at, marked_at, pooled_byte, pooled_mark, pooled}
use Rattle.pooling.specs.Rows.{is_right, is_covered, wrong_in, is_poolable, row_of_reading}
use Rattle.pooling.proofs.Laws.{pooled-length, pooled-byte, pooled_mark_lem, pooled-bytes}

-- ---- one place, of which v is the right byte, and at which it stands unmarked in at least one reading

abbrev Covered : Bool → ℕ → Bool → ℕ → ℕ → Type 0
Covered m x n y v = T ((not m && eqb x v) || (not n && eqb y v))

or_false : (a : Bool) → T (a || false) → T a
or_false true t = tt
or_false false t = t

-- what is pooled is marked, or right
pooled_right : (m : Bool) (x : ℕ) (n : Bool) (y v : ℕ) → Covered m x n y v → (not (pooled_mark m x n y) && not (eqb (pooled_byte m x n y) v)) ≡ false
pooled_right false x false y v s = go (eqb x y) refl (eqb x v) refl (eqb y v) refl s
  where
    go : (e : Bool) → eqb x y ≡ e → (f : Bool) → eqb x v ≡ f → (g : Bool) → eqb y v ≡ g → T (f || g) → (not (not e) && not (eqb (cond e x 0) v)) ≡ false
    go true p true q g r t = rw q
    go true p false q true r t = rw (eq-eqb x v (eqb-true x y p ∙ eqb-true y v r))
    go true p false q false r t = absurd t
    go false p f q g r t = refl
pooled_right false x true y v s = rw (truth (eqb x v) (or_false (eqb x v) s))
pooled_right true x false y v s = rw (truth (eqb y v) s)
pooled_right true x true y v s = refl

-- and it is marked only where one of the two is unmarked and wrong
mark_wrong : (m : Bool) (x : ℕ) (n : Bool) (y v : ℕ) → Covered m x n y v → bit (pooled_mark m x n y) ≤ bit (not m && not (eqb x v)) + bit (not n && not (eqb y v))
mark_wrong false x false y v s = go (eqb x v) refl (eqb y v) refl
  where
    go : (f : Bool) → eqb x v ≡ f → (g : Bool) → eqb y v ≡ g → bit (not (eqb x y)) ≤ bit (not f) + bit (not g)
    go true q true r = rw (eq-eqb x y (eqb-true x v q ∙ sym (eqb-true y v r))) (omega arith)
    go true q false r = omega (arith, bit_le (not (eqb x y)))
    go false q g r = omega (arith, bit_le (not (eqb x y)))
mark_wrong false x true y v s = omega arith
mark_wrong true x false y v s = omega arith
mark_wrong true x true y v s = absurd s

-- ---- all places of a word

module _ (p : ℕ) (c : List ℕ) (a b : MarkedBytes) (la : length a.bytes ≡ length c) (lb : length b.bytes ≡ length c) (ok : T (is_poolable p c a b)) where
  covered : (i : ℕ) → i < length c → Covered (marked_at a i) (byte_at a i) (marked_at b i) (byte_at b i) (get_or c i 0)
  unfolding is_covered
  covered i l =
      below_at (length c) (λ i. is_right c a i || is_right c b i) (and_left (is_covered c a b) _ ok) i l

  -- no unmarked byte of the pooled word is wrong,
  pub pooled_errors≡0 : wrong_in c (pooled a b) ≡ 0
  unfolding error_count
  pooled_errors≡0 =
      count_none (λ i. not (marked_at (pooled a b) i) && not (eqb (byte_at (pooled a b) i) (get_or c i 0))) 0 (length (pooled a b).bytes)
      (λ i l.
      let j : 0 + i < length a.bytes = omega (arith, pooled-length a b) in
      rw (pooled_mark_lem a b (0 + i) j, pooled-byte a b (0 + i) j)
      (pooled_right (marked_at a (0 + i)) (byte_at a (0 + i)) (marked_at b (0 + i)) (byte_at b (0 + i)) (get_or c (0 + i) 0) (covered (0 + i) (omega (arith, la)))))

  -- and as many are marked as the two readings have unmarked wrong ones, at most
  pub pooled_erasures≤wrong : erasure_count (pooled a b).erasures (length c) ≤ wrong_in c a + wrong_in c b
  unfolding erasure_count error_count
  pooled_erasures≤wrong =
      rw (la, lb)
      (count-sum (is_erased (pooled a b).erasures) (λ i. not (marked_at a i) && not (eqb (byte_at a i) (get_or c i 0))) (λ i. not (marked_at b i) && not (eqb (byte_at b i) (get_or c i 0))) 0 (length c)
      (λ i l.
      let j : i < length c = omega arith in
      rw (pooled_mark_lem a b i (omega (arith, la)))
      (mark_wrong (marked_at a i) (byte_at a i) (marked_at b i) (byte_at b i) (get_or c i 0) (covered i j))))

  -- so that 2e + f is at most p
  pub pooled_load : 2 * wrong_in c (pooled a b) + erasure_count (pooled a b).erasures (length c) ≤ p
  pooled_load =
      let few = leb→le _ p (and_right (is_covered c a b) _ ok) in
      omega (arith, pooled_errors≡0, pooled_erasures≤wrong, few)

  -- THE ROW THEOREM
  pub pooled_comes_back : length c ≤ 255 → Bytes c → Bytes a.bytes → Bytes b.bytes → IsCode p c → nearest_erased p (pooled a b).erasures (pooled a b).bytes ≡ c
  pooled_comes_back short hc ha hb code =
      let size = pooled-length a b ∙ la in
      nearest-within p (pooled a b).erasures (pooled a b).bytes (pooled-bytes a b ha hb) (omega (arith, size)) c
      (record {
        bytes = hc;
        len = size;
        code = code;
        close = subst (λ (n : ℕ). 2 * wrong_in c (pooled a b) + erasure_count (pooled a b).erasures n ≤ p) (sym size) pooled_load;
      })

-- ---- the rows of a block

-- row r of two readings of a block that are pooled is the two readings' rows r, pooled
pub pooled_row : (a b : MarkedBytes) → length a.bytes ≡ block_size → (r : ℕ) → r < row_count → row_of_reading (pooled a b) r ≡ pooled (row_of_reading a r) (row_of_reading b r)
unfolding pooled
pooled_row a b sa r h =
    ap₂ with_marks
    (row_tabulate (λ m x n y. pooled_byte (eqb m 1) x (eqb n 1) y))
    (row_tabulate (λ m x n y. bit (pooled_mark (eqb m 1) x (eqb n 1) y)))
  where
    row_tabulate : (f : ℕ → ℕ → ℕ → ℕ → ℕ)
        → row_of (tabulate (λ i. f (get_or a.erasures i 0) (get_or a.bytes i 0) (get_or b.erasures i 0) (get_or b.bytes i 0)) (length a.bytes)) r
        ≡ tabulate (λ i. f (get_or (row_of a.erasures r) i 0) (get_or (row_of a.bytes r) i 0) (get_or (row_of b.erasures r) i 0) (get_or (row_of b.bytes r) i 0)) (length (row_of a.bytes r))
    row_tabulate f =
        let g : ℕ → ℕ = λ i. f (get_or a.erasures i 0) (get_or a.bytes i 0) (get_or b.erasures i 0) (get_or b.bytes i 0) in
        let n = row_length a.bytes r sa h in
        rw (sa, n)
        (part_tabulate g 0 (r * row_size) row_size block_size (omega arith)
        ∙ tabulate-same g (λ i. f (get_or (row_of a.erasures r) i 0) (get_or (row_of a.bytes r) i 0) (get_or (row_of b.erasures r) i 0) (get_or (row_of b.bytes r) i 0)) (0 + r * row_size) 0 row_size
        (λ i l.
        let e : 0 + r * row_size + i ≡ r * row_size + i = omega arith in
        let d : 0 + i ≡ i = omega arith in
        rw (e, d, row_byte a.erasures r i l, row_byte a.bytes r i l, row_byte b.erasures r i l, row_byte b.bytes r i l)))
