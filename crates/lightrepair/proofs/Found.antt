-- What explains none of a row's sums (none_explains, no_one, no_two, heavier), and how many wrong bytes are told (two_at_most).
-- Assumes nothing.
use mathlib.Core.Path.{◌≡◌, sym, ◌∙◌}
use mathlib.Core.Bool.{true, false, false≢true}
use mathlib.Core.List.{List, [], ◌∷◌}
use Prim.Native.Nat.{ℕ, zero, suc, ◌<◌, ◌≤◌}
use native.Mathlib.Omega.{arith}
use borrow.Author.Tests.{eq-eqb}
use lib.Dec.{eqb, eqb→eq}
use lib.ListN.{length, get_or}
use mir.Val.{Fits}
use mir.Syntax.{w8}
use Rattle.std.specs.Prelude.{Option, Some, None, MatchOption}
use Rattle.lists.proofs.Bytes.{bytes_of, get_or-byte}
use Rattle.lists.proofs.Test.{truth, truth_of, below_at, below_all}
use Rattle.codes.specs.Word.{all_zero}
use Rattle.codes.specs.Inner.{at, sum_of, Inside, Explains, Unexplained}
use Rattle.codes.specs.declared.WrongByte.{WrongByte}
use Rattle.codes.proofs.Formulas.{OneWrong, TwoWrong, unexplained_one, unexplained_two}
use Rattle.layout.specs.Lengths.{row_size, inner_size}
use Rattle.lightrepair.specs.Inner.{wrong_bytes, Heavier}
use Rattle.lightrepair.specs.declared.formulas.Errors.{Errors}
use Rattle.lightrepair.specs.declared.formulas.Errors.TheVariants.{None as NoError, One, Two}

-- where nothing is told, what that says may be weaker
pub weaker : {X : Type 0} (G H : Type 0) (P : X → Type 0) → (G → H) → (r : Option X) → MatchOption r G P → MatchOption r H P
weaker G H P h None f = h f
weaker G H P h (Some x) f = f

pub two_at_most : (e : Errors) → length (wrong_bytes e) ≤ 2
two_at_most NoError = omega arith
two_at_most (One e) = omega arith
two_at_most (Two e f) = omega arith

-- s are p sums of a word of n bytes
module _ (s : List ℕ) (p n : ℕ) (size : length s ≡ p) where
  -- those that are all 0 are those of no wrong byte
  pub none_explains : all_zero s ≡ true → Explains (at s) p n []
  unfolding all_zero Inside sum_of
  none_explains z =
      record { inside = tt; sums = λ i l. eqb→eq (get_or s i 0) 0 (below_at (length s) (λ i. eqb (get_or s i 0) 0) (truth_of _ z) i (omega arith)) }

  none_unexplained : all_zero s ≡ false → Unexplained (at s) p n 0
  unfolding all_zero sum_of
  none_unexplained nz [] l order sums =
      false≢true (sym nz ∙ truth _ (below_all (length s) (λ i. eqb (get_or s i 0) 0) (λ i l. truth_of _ (eq-eqb (get_or s i 0) 0 (sums i (omega arith))))))
  none_unexplained nz (e ∷ es) l order sums = omega arith

  -- neither no wrong byte nor one nor two explain them
  pub heavier : all_zero s ≡ false → Unexplained (at s) p n 1 → Unexplained (at s) p n 2 → Heavier (at s) p n
  heavier nz one two zero l = none_unexplained nz
  heavier nz one two (suc zero) l = one
  heavier nz one two (suc (suc zero)) l = two
  heavier nz one two (suc (suc (suc m))) l = absurd (omega arith)

-- ---- the ten sums of a row

-- no one wrong byte explains sums that are not as its formulas give them
pub no_one : (s : List ℕ) → ((e : WrongByte) → e.place < row_size → OneWrong (at s) inner_size e → ⊥) → Unexplained (at s) inner_size row_size 1
no_one s = unexplained_one (at s) inner_size row_size (omega arith)

-- nor do two
pub no_two :
    (s : List ℕ) → ((e f : WrongByte) → e.place < row_size → f.place < row_size → TwoWrong (at s) inner_size e f → ⊥) → Unexplained (at s) inner_size row_size 2
no_two s = unexplained_two (at s) inner_size row_size (omega arith) (omega arith)

-- a sum is a byte
pub at_small : (s : List ℕ) → ((j : ℕ) → Fits w8 (get_or s j 0)) → (i : ℕ) → at s i < 256
at_small s fits i = get_or-byte s i (bytes_of s (λ j l. let f = fits j in omega (arith, f.fits)))
