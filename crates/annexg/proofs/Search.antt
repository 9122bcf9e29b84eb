-- The tables' lengths, a rule of both tables at each entry, and the search through them, entry by entry.
-- Assumes nothing.
use mathlib.Core.Path.{◌≡◌, refl, sym}
use mathlib.Core.Bool.{Bool, true, false}
use mathlib.Core.List.{List}
use Prim.Native.Nat.{ℕ, zero, suc, ◌+◌, ◌*◌, ◌/◌, ◌%◌, ◌<◌, ◌≤◌}
use native.Mathlib.Nat.{not-suc-le-zero, le_of_suc-le-suc}
use native.Mathlib.Omega.{arith}
use lib.Dec.{T}
use lib.ListN.{length, get_or, drop, drop_of_length-le, get_or-eq_default}
use lib.Seq.{drop-cons}
use Rattle.lists.specs.Test.{every}
use Rattle.lists.proofs.Test.{every-at}
use Rattle.annexg.specs.Read.{table_of, entry_of, fits_of, first_fit, read_given}
use Rattle.annexg.specs.Inner.{read_from}
use Rattle.annexg.specs.Tables.{main_table, sub_table}
use Rattle.std.specs.Prelude.{Option, Some, None}

pub length_main : length (table_of 0) ≡ 1024
unfolding table_of main_table
length_main = refl

pub length-sub : length (table_of 1) ≡ 352
unfolding table_of sub_table
length-sub = refl

-- what holds of table 0 and of table 1 holds of each
pub each_table : (P : ℕ → Type 0) → P 0 → P 1 → (t : ℕ) → t < 2 → P t
each_table P p q zero h = p
each_table P p q (suc zero) h = q
each_table P p q (suc (suc t)) h = absurd (not-suc-le-zero (le_of_suc-le-suc (le_of_suc-le-suc h)))

pub in_table : (t b s : ℕ) → t < 2 → b * 4 < length (table_of t) → s < 4 → b * 4 + s < length (table_of t)
in_table t b s ht hb hs =
    each_table (λ (x : ℕ). b * 4 < length (table_of x) → b * 4 + s < length (table_of x)) (λ h. omega (arith, length_main)) (λ h. omega (arith, length-sub)) t ht hb

-- a rule of both tables, tested by computation, at each entry and its index
pub table_rule :
    (f : ℕ → ℕ → Bool) → T (every f (table_of 0)) → T (every f (table_of 1))
    → (t b s : ℕ) → t < 2 → b * 4 < length (table_of t) → s < 4 → T (f (b * 4 + s) (entry_of t b s))
table_rule f p q t b s ht hb hs = every-at f (table_of t) (each_table (λ (x : ℕ). T (every f (table_of x))) p q t ht) (b * 4 + s) (in_table t b s ht hb hs)

-- the column of an entry, by its index
pub column_is : (b s : ℕ) → s < 4 → (b * 4 + s) % 4 + 1 ≡ s + 1
column_is b s h = omega arith

-- ---- an entry, read from lent tables

-- any number but 0 names the substitution table
pub sub_is : (t : ℕ) → (t ≡ 0 → ⊥) → table_of t ≡ table_of 1
unfolding table_of
sub_is zero h = absurd (h refl)
sub_is (suc t) h = refl

pub sub_read : (u : List ℕ) (t k : ℕ) → (t ≡ 0 → ⊥) → u ≡ table_of 1 → get_or u k 0 ≡ get_or (table_of t) k 0
sub_read u t k h e = rw (e, sub_is t h)

pub sub_past : (t k : ℕ) → (t ≡ 0 → ⊥) → 352 ≤ k → 0 ≡ get_or (table_of t) k 0
sub_past t k h l = rw (sub_is t h) (sym (get_or-eq_default (table_of 1) 0 (omega (arith, length-sub))))

-- ---- the search from entry k of table t on

module _ (w : ℕ) (z : Bool) where
  first_unfit : (l : List ℕ) (k : ℕ) (d : Option ℕ) → k < length l → fits_of w z (get_or l k 0) ≡ false → first_fit w z (drop k l) k d ≡ first_fit w z (drop (suc k) l) (suc k) d
  unfolding first_fit
  first_unfit l k d h e = rw (drop-cons l k 0 h, first_fit, e)

  first_fit_lem : (l : List ℕ) (k : ℕ) (d : Option ℕ) → k < length l → fits_of w z (get_or l k 0) ≡ true → first_fit w z (drop k l) k d ≡ Some (k / 4)
  unfolding first_fit
  first_fit_lem l k d h e = rw (drop-cons l k 0 h, first_fit, e)

  first_none : (l : List ℕ) (k : ℕ) (d : Option ℕ) → length l ≤ k → first_fit w z (drop k l) k d ≡ d
  unfolding first_fit
  first_none l k d h = rw (drop_of_length-le l h)

  pub from_first : read_from w z 0 0 ≡ read_given w z
  unfolding read_from read_given
  from_first = refl

  pub from_unfit : (t k : ℕ) → t < 2 → k < length (table_of t) → fits_of w z (get_or (table_of t) k 0) ≡ false → read_from w z t k ≡ read_from w z t (suc k)
  unfolding read_from
  from_unfit zero k ht h e = first_unfit (table_of 0) k (first_fit w z (table_of 1) 0 None) h e
  from_unfit (suc zero) k ht h e = first_unfit (table_of 1) k None h e
  from_unfit (suc (suc t)) k ht h e = refl

  pub from_fit : (t k : ℕ) → t < 2 → k < length (table_of t) → fits_of w z (get_or (table_of t) k 0) ≡ true → read_from w z t k ≡ Some (k / 4)
  unfolding read_from
  from_fit zero k ht h e = first_fit_lem (table_of 0) k (first_fit w z (table_of 1) 0 None) h e
  from_fit (suc zero) k ht h e = first_fit_lem (table_of 1) k None h e
  from_fit (suc (suc t)) k ht h e = absurd (omega arith)

  pub from_end : (t k : ℕ) → t < 2 → length (table_of t) ≤ k → read_from w z t k ≡ read_from w z (suc t) 0
  unfolding read_from
  from_end zero k ht h = first_none (table_of 0) k (first_fit w z (table_of 1) 0 None) h
  from_end (suc zero) k ht h = first_none (table_of 1) k None h
  from_end (suc (suc t)) k ht h = refl

  pub from_past : (t k : ℕ) → 2 ≤ t → read_from w z t k ≡ None
  unfolding read_from
  from_past zero k h = absurd (omega arith)
  from_past (suc zero) k h = absurd (omega arith)
  from_past (suc (suc t)) k h = refl
