-- Marks that are 0 or 1, place by place: what `marks_fit` says of each (mark_at_lem), and that they fit where each is (marks_fit_all).
-- Assumes nothing.
use mathlib.Core.Path.{◌≡◌, refl}
use mathlib.Core.Bool.{Bool, true, ◌&&◌}
use mathlib.Core.List.{List, [], ◌∷◌}
use Prim.Native.Nat.{ℕ, zero, suc, ◌<◌, ◌≤◌}
use native.Mathlib.Omega.{arith}
use borrow.Author.Tests.{le-leb}
use lib.Dec.{leb, leb→le}
use lib.ListN.{length, get_or}
use Rattle.std.specs.List.{list_all}
use Rattle.lists.proofs.Test.{and_left, and_right, truth, truth_of}
use Rattle.repairer.specs.Answer.{marks_fit}

abbrev small : ℕ → Bool
small m = leb m 1

at_each : (ms : List ℕ) → list_all small ms ≡ true → (i : ℕ) → i < length ms → get_or ms i 0 ≤ 1
at_each [] fit i l = absurd (omega arith)
at_each (m ∷ ms) fit zero l = leb→le m 1 (and_left (small m) (list_all small ms) (truth_of (small m && list_all small ms) fit))
at_each (m ∷ ms) fit (suc i) l =
    at_each ms (truth (list_all small ms) (and_right (small m) (list_all small ms) (truth_of (small m && list_all small ms) fit))) i (omega arith)

all_small : (ms : List ℕ) → ((i : ℕ) → i < length ms → get_or ms i 0 ≤ 1) → list_all small ms ≡ true
all_small [] h = refl
all_small (m ∷ ms) h = rw (le-leb m 1 (h 0 (omega arith)), all_small ms (λ i l. h (suc i) (omega arith)))

module _ (ms : List ℕ) where
  pub mark_at_lem : marks_fit ms ≡ true → (i : ℕ) → i < length ms → get_or ms i 0 ≤ 1
  unfolding marks_fit
  mark_at_lem fit i l = at_each ms fit i l

  pub marks_fit_all : ((i : ℕ) → i < length ms → get_or ms i 0 ≤ 1) → marks_fit ms ≡ true
  unfolding marks_fit
  marks_fit_all h = all_small ms h
