-- `row::correct_light_row_from` meets its contract: the wrong bytes that explain the sums are taken away, and where more than two have to be, the row is heavier.
-- Assumes nothing.
use mathlib.Core.Path.{◌≡◌, sym, ap, subst, ◌∙◌}
use mathlib.Core.List.{List}
use Prim.Native.Nat.{ℕ, ◌<◌}
use native.Mathlib.Omega.{arith}
use lib.ListN.{length, get_or}
use mir.Val.{Fits}
use mir.Syntax.{w8}
use borrow.Author.Rules.{rules}
use Rattle.lists.specs.Bytes.{Bytes}
use Rattle.lists.proofs.Bytes.{bytes_of}
use Rattle.lists.specs.Fill.{tabulate}
use Rattle.lists.proofs.Fill.{get_d_tabulate}
use Rattle.codes.specs.Word.{syndrome}
use Rattle.codes.specs.Inner.{at, Explains, Unexplained, without_wrong}
use Rattle.codes.specs.declared.LightOutcome.TheVariants.{Repaired, Heavier as LightHeavier}
use Rattle.codes.proofs.Light.{LightRepaired}
use Rattle.codes.proofs.WrongBytes.{explained_repaired, unexplained_heavier}
use Rattle.layout.specs.Lengths.{row_size, inner_size}
use Rattle.lightrepair.specs.Inner.{wrong_bytes, Heavier}
use Rattle.lightrepair.specs.declared.formulas.Errors.{Errors}
use Rattle.lightrepair.proofs.Found.{two_at_most}
use Rattle.lightrepair.proofs.row.correct_light_row_from.Goals as goal

-- the ten sums `s` of a row `w`, and what they told
module _ (w s : List ℕ) (size : length w ≡ row_size) (fits : (i : ℕ) → Fits w8 (get_or w i 0)) (is : s ≡ tabulate (syndrome w) inner_size) where
  bytes : Bytes w
  bytes = bytes_of w (λ i l. let f = fits i in omega (arith, f.fits))

  sums : (i : ℕ) → i < inner_size → at s i ≡ syndrome w i
  sums i l = ap (λ (x : List ℕ). at x i) is ∙ get_d_tabulate (syndrome w) inner_size i l

  -- wrong bytes that explain the sums are taken away
  mended : (e : Errors) → Explains (at s) inner_size row_size (wrong_bytes e) → LightRepaired inner_size 2 w (without_wrong (wrong_bytes e) w) Repaired
  mended e ex =
      explained_repaired inner_size 2 w bytes (at s) sums (omega (arith, size)) (omega arith) (wrong_bytes e)
      (subst (λ (n : ℕ). Explains (at s) inner_size n (wrong_bytes e)) (sym size) ex) (two_at_most e)

  -- and where more than two have to be, the row is heavier
  heavy : Heavier (at s) inner_size row_size → LightRepaired inner_size 2 w w LightHeavier
  heavy more = unexplained_heavier inner_size 2 w bytes (at s) sums (λ m l. subst (λ (n : ℕ). Unexplained (at s) inner_size n m) (sym size) (more m l))

pub without_errors-requires : goal.without_errors-requires
without_errors-requires c = c.in-Some.ensures.inside

pub returns-in-Some : goal.returns-in-Some
returns-in-Some c =
    let right = mended c.args.row.bytes c.args.sums (search rules) (λ i. search rules) c.requires c.in-Some.errors c.in-Some.ensures in
    record { bytes_value = c.without_errors.ensures ∙ right.0; outcome_value = right.1 }

pub returns-in-None : goal.returns-in-None
returns-in-None c =
    let stays = heavy c.args.row.bytes c.args.sums (search rules) (λ i. search rules) c.requires c.in-None.ensures in
    record { bytes_value = stays.0; outcome_value = stays.1 }
