-- One entry that takes its slots, and the entries of a table one after the other, as the code puts them in.
-- Assumes nothing.
use mathlib.Core.Path.{◌≡◌, refl, ap, ◌∙◌}
use mathlib.Core.Bool.{Bool, true, false}
use mathlib.Core.List.{List}
use Prim.Native.Nat.{ℕ, ◌+◌, ◌/◌, ◌%◌}
use native.Mathlib.Numerals.{add-one}
use lib.ListN.{length, get_or, set}
use Rattle.annexg.specs.Read.{table_of, agrees}
use Rattle.wordindex.specs.Inner.{slot_of, entry_number, put_one, put_entry, put_first, put_all}

module _ (z : Bool) (n e : ℕ) (xs : List ℕ) where
  pub slot_taken : (i : ℕ) → agrees (e % 16) z ≡ true → i ≡ slot_of (e / 16) z → set xs i n ≡ put_one z n e xs
  unfolding put_one
  slot_taken i a h = rw (a, h)

  pub slot_left : agrees (e % 16) z ≡ false → xs ≡ put_one z n e xs
  unfolding put_one
  slot_left a = rw a

pub both_put : (n e : ℕ) (xs ys zs : List ℕ) → ys ≡ put_one false n e xs → zs ≡ put_one true n e ys → zs ≡ put_entry n e xs
unfolding put_entry
both_put n e xs ys zs f g = g ∙ ap (put_one true n e) f

pub none_put : (t : ℕ) (xs : List ℕ) → xs ≡ put_first t 0 xs
unfolding put_first
none_put t xs = refl

pub more_put :
    (t : ℕ) (es xs ys zs : List ℕ) (k : ℕ) → es ≡ table_of t → ys ≡ put_first t k xs → zs ≡ put_entry (entry_number t k) (get_or es k 0) ys
    → zs ≡ put_first t (k + 1) xs
unfolding put_first
more_put t es xs ys zs k q f g = rw (add-one k) (g ∙ rw (q, f))

pub all_put : (t : ℕ) (es xs ys : List ℕ) (k : ℕ) → es ≡ table_of t → k ≡ length es → ys ≡ put_first t k xs → ys ≡ put_all t xs
unfolding put_all
all_put t es xs ys k q h f = rw (← q, ← h) f
