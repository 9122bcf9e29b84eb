-- A word stands for one byte, and reading gives it. A search tree holds the byte of each word; one test over both tables shows that every entry
-- that fits has the byte of the tree, so two that fit have one byte. Nothing is claimed of the tree beyond that test. So a search may begin at any entry that
-- fits, and for a word that fits nothing anywhere (fit_from_given, unknown_from).
-- Assumes nothing.
use mathlib.Core.Path.{◌≡◌, refl, sym, ap, subst, ◌∙◌}
use mathlib.Core.Bool.{Bool, true, false, cond, ◌&&◌}
use mathlib.Core.List.{List, [], ◌∷◌}
use mathlib.Core.Logic.{dite}
use Prim.Native.Nat.{Ordering}
use Prim.Native.Nat.{ℕ, zero, suc, ◌+◌, ◌*◌, ◌/◌, ◌%◌, ◌<◌, ◌≤◌, zero-le, suc-le-suc, compare}
use native.Mathlib.Nat.{not-suc-le-zero, le_of_suc-le-suc, add-zero, zero-add}
use native.Mathlib.Decide.{dec_lt}
use native.Mathlib.Omega.{arith}
use lib.Dec.{T, eqb, eqb→eq, lit<, lit≤}
use lib.ListN.{length, get_or}
use borrow.Author.Tests.{eq-eqb}
use Rattle.lists.specs.Test.{every}
use Rattle.lists.proofs.Test.{and_left, and_right, truth_of, every-at, implied}
use Rattle.annexg.specs.Read.{table_of, entry_of, both_zero, agrees, fits_of, first_fit, read_given, read_word}
use Rattle.annexg.specs.Inner.{read_from}
use Rattle.annexg.specs.Tables.{main_table, sub_table}
use Rattle.annexg.proofs.Search.{each_table, in_table, from_unfit, from_fit, from_end, from_past}
use Rattle.std.specs.Prelude.{Option, Some, None}

pub data Tree : Type 0 where
  leaf : Tree
  node : Tree → ℕ → ℕ → Tree → Tree

unfoldable pub put : ℕ → ℕ → Tree → Tree
put w b leaf = node leaf w b leaf
put w b (node l v c r) =
    elim (compare w v) [
      | Ordering.lt ↦ node (put w b l) v c r
      | Ordering.eq ↦ node l v c r
      | Ordering.gt ↦ node l v c (put w b r)
    ]

unfoldable pub get : ℕ → Tree → ℕ
get w leaf = 256
get w (node l v c r) = elim (compare w v) [ Ordering.lt ↦ get w l | Ordering.eq ↦ c | Ordering.gt ↦ get w r ]

-- the tree with each entry whose next State agrees
fill : Bool → List ℕ → ℕ → Tree → Tree
fill q [] k t = t
fill q (e ∷ es) k t = fill q es (suc k) (cond (agrees (e % 16) q) (put (e / 16) (k / 4) t) t)

tree : Bool → Tree
tree q = fill q (table_of 1) 0 (fill q (table_of 0) 0 leaf)

-- the entry's byte is the tree's, where its next State agrees
owned : Bool → Tree → ℕ → ℕ → Bool
owned q r k e = cond (agrees (e % 16) q) (eqb (get (e / 16) r) (k / 4)) true

all : Bool → Tree → Bool
all q r = every (owned q r) (table_of 0) && every (owned q r) (table_of 1)

test : (q : Bool) → T (all q (tree q))
unfolding all owned tree fill get put table_of main_table sub_table
test true = tt
test false = tt

tested : (q : Bool) (t : ℕ) → t < 2 → T (every (owned q (tree q)) (table_of t))
unfolding all
tested q t h =
    let m = every (owned q (tree q)) (table_of 0) in
    let u = every (owned q (tree q)) (table_of 1) in
    each_table (λ (x : ℕ). T (every (owned q (tree q)) (table_of x))) (and_left m u (test q)) (and_right m u (test q)) t h

-- the byte that a word stands for
owner : ℕ → Bool → ℕ
owner w q = get w (tree q)

unlike : (b : Bool) → b ≡ true → b ≡ false → ⊥
unlike b p n = subst T (sym p ∙ n) tt

module _ (w : ℕ) (q : Bool) where
  entry_owned : (t k : ℕ) → t < 2 → k < length (table_of t) → fits_of w q (get_or (table_of t) k 0) ≡ true → owner w q ≡ k / 4
  unfolding fits_of owned owner
  entry_owned t k ht hk e =
      let x = get_or (table_of t) k 0 in
      let fit = truth_of (eqb (x / 16) w && agrees (x % 16) q) e in
      ap (λ (v : ℕ). get v (tree q)) (sym (eqb→eq (x / 16) w (and_left (eqb (x / 16) w) (agrees (x % 16) q) fit)))
      ∙ eqb→eq (get (x / 16) (tree q)) (k / 4)
      (implied (agrees (x % 16) q) (eqb (get (x / 16) (tree q)) (k / 4)) (and_right (eqb (x / 16) w) (agrees (x % 16) q) fit)
      (every-at (owned q (tree q)) (table_of t) (tested q t ht) k hk))

  -- every entry of the list that fits has the byte o
  Owned : List ℕ → ℕ → ℕ → Type 0
  Owned l i o = (j : ℕ) → j < length l → fits_of w q (get_or l j 0) ≡ true → o ≡ (i + j) / 4

  owned_tail : (x : ℕ) (l : List ℕ) (i o : ℕ) → Owned (x ∷ l) i o → Owned l (suc i) o
  unfolding Owned
  owned_tail x l i o a j h e =
      let p : i + suc j ≡ suc i + j = omega arith in
      a (suc j) (suc-le-suc h) e ∙ ap (λ (n : ℕ). n / 4) p

  here : (x : ℕ) (l : List ℕ) (i o : ℕ) → Owned (x ∷ l) i o → fits_of w q x ≡ true → Some (i / 4) ≡ Some o
  unfolding Owned
  here x l i o a e = ap Some (sym (a 0 (suc-le-suc zero-le) e ∙ ap (λ (n : ℕ). n / 4) (add-zero i)))

  step : (b : Bool) (r s o : Option ℕ) → (b ≡ true → r ≡ o) → (b ≡ false → s ≡ o) → cond b r s ≡ o
  step true r s o f g = f refl
  step false r s o f g = g refl

  -- where all that fit have the byte o, the first has, or the search falls through
  first_or : (l : List ℕ) (i o : ℕ) (d : Option ℕ) → Owned l i o → d ≡ Some o → first_fit w q l i d ≡ Some o
  unfolding first_fit
  first_or [] i o d a e = e
  first_or (x ∷ l) i o d a e =
      step (fits_of w q x) (Some (i / 4)) (first_fit w q l (suc i) d) (Some o) (here x l i o a)
      (λ n. first_or l (suc i) o d (owned_tail x l i o a) e)

  first_of_lem : (l : List ℕ) (i o : ℕ) (d : Option ℕ) → Owned l i o → (k : ℕ) → k < length l → fits_of w q (get_or l k 0) ≡ true → first_fit w q l i d ≡ Some o
  unfolding first_fit
  first_of_lem [] i o d a k h e = absurd (not-suc-le-zero h)
  first_of_lem (x ∷ l) i o d a zero h e =
      step (fits_of w q x) (Some (i / 4)) (first_fit w q l (suc i) d) (Some o) (here x l i o a) (λ n. absurd (unlike (fits_of w q x) e n))
  first_of_lem (x ∷ l) i o d a (suc k) h e =
      step (fits_of w q x) (Some (i / 4)) (first_fit w q l (suc i) d) (Some o) (here x l i o a)
      (λ n. first_of_lem l (suc i) o d (owned_tail x l i o a) k (le_of_suc-le-suc h) e)

  all_owned : (t : ℕ) → t < 2 → Owned (table_of t) 0 (owner w q)
  unfolding Owned
  all_owned t ht j h e = entry_owned t j ht h e ∙ ap (λ (n : ℕ). n / 4) (sym (zero-add j))

  found : (t k : ℕ) → t < 2 → k < length (table_of t) → fits_of w q (get_or (table_of t) k 0) ≡ true → read_given w q ≡ Some (owner w q)
  unfolding read_given
  found zero k ht h e = first_of_lem (table_of 0) 0 (owner w q) (first_fit w q (table_of 1) 0 None) (all_owned 0 ht) k h e
  found (suc zero) k ht h e =
      first_or (table_of 0) 0 (owner w q) (first_fit w q (table_of 1) 0 None) (all_owned 0 (lit< tt))
      (first_of_lem (table_of 1) 0 (owner w q) None (all_owned 1 ht) k h e)
  found (suc (suc t)) k ht h e = absurd (not-suc-le-zero (le_of_suc-le-suc (le_of_suc-le-suc ht)))

  -- no word stands for two bytes
  pub one_byte :
      (t k t' k' : ℕ) → t < 2 → k < length (table_of t) → fits_of w q (get_or (table_of t) k 0) ≡ true → t' < 2 → k' < length (table_of t') → fits_of w q (get_or (table_of t') k' 0) ≡ true
      → k / 4 ≡ k' / 4
  one_byte t k t' k' ht h e ht' h' e' = sym (entry_owned t k ht h e) ∙ entry_owned t' k' ht' h' e'

  -- an entry that fits is read as its byte
  pub reads_fit : (t k : ℕ) → t < 2 → k < length (table_of t) → fits_of w q (get_or (table_of t) k 0) ≡ true → read_given w q ≡ Some (k / 4)
  reads_fit t k ht h e = found t k ht h e ∙ ap Some (entry_owned t k ht h e)

  -- from an entry that fits on, the search finds what it finds from the first
  pub fit_from_given : (t k : ℕ) → t < 2 → k < length (table_of t) → fits_of w q (get_or (table_of t) k 0) ≡ true → read_from w q t k ≡ read_given w q
  fit_from_given t k ht h e = from_fit w q t k ht h e ∙ sym (reads_fit t k ht h e)

  -- what fits nothing is unknown from every entry on
  module _ (unknown : read_given w q ≡ None) where
    unfit : (t k : ℕ) → t < 2 → k < length (table_of t) → fits_of w q (get_or (table_of t) k 0) ≡ false
    unfit t k ht h = case (fits_of w q (get_or (table_of t) k 0)) refl
      where
        case : (b : Bool) → fits_of w q (get_or (table_of t) k 0) ≡ b → b ≡ false
        case true e = let r = reads_fit t k ht h e in let z : ◌≡◌ {A = ℕ} 0 1 = cc in absurd (omega arith)
        case false e = refl

    -- n entries are left of table t, or fewer
    left_out : (t n k : ℕ) → t < 2 → length (table_of t) ≤ k + n → read_from w q t k ≡ read_from w q (suc t) 0
    left_out t zero k ht h = from_end w q t k ht (omega arith)
    left_out t (suc n) k ht h =
        dite (dec_lt k (length (table_of t))) (λ l. from_unfit w q t k ht l (unfit t k ht l) ∙ left_out t n (suc k) ht (omega arith))
        (λ l. from_end w q t k ht (omega (arith, l)))

    pub unknown_from : (t k : ℕ) → read_from w q t k ≡ None
    unknown_from zero k =
        left_out 0 (length (table_of 0)) k (lit< tt) (omega arith) ∙ left_out 1 (length (table_of 1)) 0 (lit< tt) (omega arith) ∙ from_past w q 2 0 (lit≤ tt)
    unknown_from (suc zero) k = left_out 1 (length (table_of 1)) k (lit< tt) (omega arith) ∙ from_past w q 2 0 (lit≤ tt)
    unknown_from (suc (suc t)) k = from_past w q (suc (suc t)) k (omega arith)

-- each entry's word, before bits that agree with its next State, is read as its byte
pub reads_back : (t b s f : ℕ) → t < 2 → b * 4 < length (table_of t) → s < 4 → agrees (entry_of t b s % 16) (both_zero f) ≡ true → read_word (entry_of t b s / 16) f ≡ Some b
unfolding fits_of
reads_back t b s f ht hb hs e =
    let k : (b * 4 + s) / 4 ≡ b = omega arith in
    reads_fit (entry_of t b s / 16) (both_zero f) t (b * 4 + s) ht (in_table t b s ht hb hs) (rw (eq-eqb (entry_of t b s / 16) (entry_of t b s / 16) refl) e) ∙ ap Some k
