-- Tallies, one word at a time.
-- Assumes nothing.
use mathlib.Core.Path.{◌≡◌, refl, sym, ap, ap₂, ◌∙◌}
use Prim.Native.Nat.{ℕ, ◌+◌, ◌<◌, ◌≤◌}
use native.Mathlib.Omega.{arith}
use Rattle.lists.proofs.Count.{count_snoc, count-le}
use Rattle.codes.specs.declared.Outcome.{Outcome}
use Rattle.codes.specs.declared.Outcome.TheVariants.{Clean, Corrected, Uncorrectable}
use Rattle.layout.specs.Lengths.{row_count}
use Rattle.repairer.specs.Repair.{is_corrected, is_uncorrectable, tally_of}
use Rattle.repairer.specs.Inner.{counted}
use Rattle.repairer.specs.declared.Tally.{Tally}

abbrev both : ℕ → ℕ → Tally
both x y = record { corrected = x; uncorrectable = y }

-- ---- the three outcomes

same : (x y : ℕ) → both x y ≡ both (x + 0) (y + 0)
same x y =
    let a : x ≡ x + 0 = omega arith in
    let b : y ≡ y + 0 = omega arith in
    ap₂ both a b

pub counted_clean : (n : Tally) (o : Outcome) → o ≡ Clean → n ≡ counted n o
counted_clean n o e = same n.corrected n.uncorrectable ∙ ap (counted n) (sym e)

pub counted-corrected : (n : Tally) (o : Outcome) → o ≡ Corrected → both (n.corrected + 1) n.uncorrectable ≡ counted n o
counted-corrected n o e = let a : n.uncorrectable ≡ n.uncorrectable + 0 = omega arith in ap (both (n.corrected + 1)) a ∙ ap (counted n) (sym e)

pub counted-uncorrectable : (n : Tally) (o : Outcome) → o ≡ Uncorrectable → both n.corrected (n.uncorrectable + 1) ≡ counted n o
counted-uncorrectable n o e = let a : n.corrected ≡ n.corrected + 0 = omega arith in ap (λ (x : ℕ). both x (n.uncorrectable + 1)) a ∙ ap (counted n) (sym e)

-- ---- one word more. o i is what becomes of word i

module _ (o : ℕ → Outcome) where
  pub tally_none : ◌≡◌ {A = Tally} (record { corrected = 0; uncorrectable = 0 }) (tally_of o 0)
  unfolding tally_of
  tally_none = refl

  tally_corrected : (n : ℕ) → (tally_of o n).corrected ≤ n
  unfolding tally_of
  tally_corrected n = count-le (λ i. is_corrected (o i)) 0 n

  tally_uncorrectable : (n : ℕ) → (tally_of o n).uncorrectable ≤ n
  unfolding tally_of
  tally_uncorrectable n = count-le (λ i. is_uncorrectable (o i)) 0 n

  pub tally_small : (n : ℕ) (m : Tally) → m ≡ tally_of o n → n < row_count → (m.corrected < row_count) × (m.uncorrectable < row_count)
  tally_small n m e h =
      (omega (arith, ap (λ (x : Tally). x.corrected) e, tally_corrected n), omega (arith, ap (λ (x : Tally). x.uncorrectable) e, tally_uncorrectable n))

  step : (n : ℕ) → counted (tally_of o n) (o n) ≡ tally_of o (n + 1)
  unfolding tally_of
  step n = ap₂ both (sym (count_snoc (λ i. is_corrected (o i)) n)) (sym (count_snoc (λ i. is_uncorrectable (o i)) n))

  -- the word n, of which r became
  pub tally_more : (n : ℕ) (m : Tally) (r : Outcome) → m ≡ tally_of o n → r ≡ o n → counted m r ≡ tally_of o (n + 1)
  tally_more n m r d e = ap₂ counted d e ∙ step n
