-- With marks that are all 0 the block repairer is that of document 01, as it was before request 2: each row becomes the one code row within five bytes, or stays
-- (rows_unmarked, tallies_unmarked), and so the answer (answer_unmarked) and the two buffers (block_unmarked, main_unmarked).
-- Assumes nothing.
use mathlib.Core.Path.{◌≡◌, refl, ap, ap₂, ◌∙◌}
use mathlib.Core.Bool.{Bool, true, false, cond, ◌&&◌}
use mathlib.Core.List.{List}
use Prim.Native.Nat.{ℕ, ◌+◌, ◌/◌, ◌%◌, ◌<◌}
use native.Mathlib.Omega.{arith}
use borrow.Author.Tests.{eq-eqb, eqb-true}
use lib.Dec.{eqb}
use lib.ListN.{length, get_or}
use Rattle.lists.specs.Fill.{tabulate}
use Rattle.lists.proofs.Count.{count_same}
use Rattle.lists.proofs.Fill.{tabulate-same}
use Rattle.codes.specs.Nearest.{nearest, outcome_of}
use Rattle.codes.specs.Erasures.{is_erased, nearest_erased, outcome_erased}
use Rattle.codes.specs.declared.Outcome.{Outcome}
use Rattle.codes.proofs.Erasures.{nearest-unmarked, outcome_unmarked}
use Rattle.std.specs.Prelude.{Result, Ok, Err, is_ok}
use Rattle.refusals.specs.declared.Refusal.TheVariants.{Length, Mark}
use Rattle.dataframe.specs.Checks.{main_of_block}
use Rattle.layout.specs.Rows.{row_of, column_of}
use Rattle.layout.specs.Lengths.{main_size, block_size, sector_count, row_count, row_size, column_count}
use Rattle.layout.proofs.Places.{row_length, row_bytes, row_byte}
use Rattle.repairer.specs.Repair.{rows_repaired, columns_repaired, repaired, is_corrected, is_uncorrectable, tally_of, tallies_of}
use Rattle.repairer.specs.Answer.{judged, lengths_fit, marks_fit, input_fits, of_block, repair_of, repair_answer, block_after, main_after}
use Rattle.repairer.specs.declared.Tally.{Tally}
use Rattle.repairer.specs.declared.Tallies.{Tallies}
use Rattle.repairer.specs.declared.Repair.{Repair}
use Rattle.repairer.specs.declared.BlockRefusal.{BlockRefusal}
use Rattle.repairer.proofs.Marks.{marks_fit_all}

-- ---- the repairer of document 01

unfoldable pub rows_within_five : List ℕ → List ℕ
rows_within_five xs = tabulate (λ p. get_or (nearest 10 5 (row_of xs (p / row_size))) (p % row_size) 0) block_size

abbrev pub repaired_within_five : List ℕ → List ℕ
repaired_within_five xs = columns_repaired (rows_within_five xs)

abbrev pub tallies_within_five : List ℕ → Tallies
tallies_within_five xs = record {
  rows = tally_of (λ q. outcome_of 10 5 (row_of xs q)) row_count;
  columns = tally_of (λ j. outcome_of 16 8 (column_of (rows_within_five xs) j)) column_count;
}

abbrev pub both_fit : List ℕ → ℕ → Bool
both_fit xs n = eqb (length xs) block_size && eqb n main_size

abbrev pub answer_within_five : List ℕ → ℕ → Result Repair BlockRefusal
answer_within_five xs n =
    cond (both_fit xs n) (judged (repaired_within_five xs) 0 sector_count (Ok (repair_of (repaired_within_five xs) (tallies_within_five xs)))) (Err (of_block Length))

abbrev pub block_within_five : List ℕ → ℕ → List ℕ
block_within_five xs n = cond (both_fit xs n) (repaired_within_five xs) xs

abbrev pub main_within_five : List ℕ → List ℕ → List ℕ
main_within_five xs old = cond (is_ok (answer_within_five xs (length old))) (main_of_block (repaired_within_five xs)) old

tally_same : (o p : ℕ → Outcome) (n : ℕ) → ((i : ℕ) → i < n → o i ≡ p i) → tally_of o n ≡ tally_of p n
unfolding tally_of
tally_same o p n h =
    ap₂ (λ (c u : ℕ). record { corrected = c; uncorrectable = u })
    (count_same (λ i. is_corrected (o i)) (λ i. is_corrected (p i)) 0 0 n (λ i l. ap is_corrected (h (0 + i) (omega arith))))
    (count_same (λ i. is_uncorrectable (o i)) (λ i. is_uncorrectable (p i)) 0 0 n (λ i l. ap is_uncorrectable (h (0 + i) (omega arith))))

-- ---- xs are bytes, and ms as many marks as a block has bytes, all 0
module _ (xs ms : List ℕ) (small : (i : ℕ) → get_or xs i 0 < 256) (sized : length ms ≡ block_size) (zeros : (i : ℕ) → i < block_size → get_or ms i 0 ≡ 0) where
  module _ (whole : length xs ≡ block_size) where
    unmarked : (q : ℕ) → q < row_count → (i : ℕ) → i < length (row_of xs q) → is_erased (row_of ms q) i ≡ false
    unmarked q h i l =
        let k : i < row_size = omega (arith, l, row_length xs q whole h) in
        ap (λ (m : ℕ). eqb m 1) (row_byte ms q i k ∙ zeros _ (omega arith))

    pub rows_unmarked : rows_repaired xs ms ≡ rows_within_five xs
    unfolding rows_repaired rows_within_five
    rows_unmarked =
        tabulate-same (λ p. get_or (nearest_erased 10 (row_of ms (p / row_size)) (row_of xs (p / row_size))) (p % row_size) 0) (λ p. get_or (nearest 10 5 (row_of xs (p / row_size))) (p % row_size) 0)
        0 0 block_size
        (λ p l. ap (λ (w : List ℕ). get_or w ((0 + p) % row_size) 0) (nearest-unmarked 5 (row_of ms ((0 + p) / row_size)) (row_of xs ((0 + p) / row_size)) (unmarked ((0 + p) / row_size) (omega arith))))

    pub tallies_unmarked : tallies_of xs ms ≡ tallies_within_five xs
    unfolding tallies_of
    tallies_unmarked =
        ap₂ (λ (r c : Tally). record { rows = r; columns = c })
        (tally_same (λ q. outcome_erased 10 (row_of ms q) (row_of xs q)) (λ q. outcome_of 10 5 (row_of xs q)) row_count
        (λ q h. outcome_unmarked 5 (row_of ms q) (row_of xs q) (unmarked q h) (row_bytes xs small q)))
        (ap (λ (ys : List ℕ). tally_of (λ j. outcome_of 16 8 (column_of ys j)) column_count) rows_unmarked)

    repaired-unmarked : repaired xs ms ≡ repaired_within_five xs
    unfolding repaired
    repaired-unmarked = ap columns_repaired rows_unmarked

  marks_fit_lem : marks_fit ms ≡ true
  marks_fit_lem = marks_fit_all ms (λ i l. omega (arith, zeros i (omega (arith, l, sized))))

  lengths_fit_lem : (n : ℕ) → lengths_fit xs ms n ≡ both_fit xs n
  unfolding lengths_fit
  lengths_fit_lem n = ap (λ (t : Bool). eqb (length xs) block_size && (t && eqb n main_size)) (eq-eqb (length ms) block_size sized)

  -- THE ANSWER, whatever the lengths of the other two buffers
  pub answer_unmarked : (n : ℕ) → repair_answer xs ms n ≡ answer_within_five xs n
  unfolding repair_answer
  answer_unmarked n =
      ap₂ (λ (t u : Bool). cond t (cond u (judged (repaired xs ms) 0 16 (Ok (repair_of (repaired xs ms) (tallies_of xs ms)))) (Err (of_block Mark))) (Err (of_block Length))) (lengths_fit_lem n) marks_fit_lem
      ∙ go (eqb (length xs) block_size) refl (eqb n main_size)
    where
      go : (a : Bool) → eqb (length xs) block_size ≡ a → (b : Bool)
          → cond (a && b) (judged (repaired xs ms) 0 16 (Ok (repair_of (repaired xs ms) (tallies_of xs ms)))) (Err (of_block Length))
          ≡ cond (a && b) (judged (repaired_within_five xs) 0 16 (Ok (repair_of (repaired_within_five xs) (tallies_within_five xs)))) (Err (of_block Length))
      go true e b =
          let whole : length xs ≡ block_size = eqb-true (length xs) block_size e in
          ap₂ (λ (ys : List ℕ) (t : Tallies). cond b (judged ys 0 16 (Ok (repair_of ys t))) (Err (of_block Length))) (repaired-unmarked whole) (tallies_unmarked whole)
      go false e b = refl

  -- and the buffers after the call
  pub block_unmarked : (n : ℕ) → block_after xs ms n ≡ block_within_five xs n
  unfolding block_after input_fits
  block_unmarked n =
      ap₂ (λ (t u : Bool). cond (t && u) (repaired xs ms) xs) (lengths_fit_lem n) marks_fit_lem ∙ go (eqb (length xs) block_size) refl (eqb n main_size)
    where
      go : (a : Bool) → eqb (length xs) block_size ≡ a → (b : Bool) → cond ((a && b) && true) (repaired xs ms) xs ≡ cond (a && b) (repaired_within_five xs) xs
      go true e true = repaired-unmarked (eqb-true (length xs) block_size e)
      go true e false = refl
      go false e b = refl

  pub main_unmarked : (old : List ℕ) → main_after xs ms old ≡ main_within_five xs old
  unfolding main_after
  main_unmarked old =
      ap (λ (r : Result Repair BlockRefusal). cond (is_ok r) (main_of_block (repaired xs ms)) old) (answer_unmarked (length old)) ∙ go (eqb (length xs) block_size) refl (eqb (length old) main_size)
    where
      go : (a : Bool) → eqb (length xs) block_size ≡ a → (b : Bool)
          → let r = cond (a && b) (judged (repaired_within_five xs) 0 16 (Ok (repair_of (repaired_within_five xs) (tallies_within_five xs)))) (Err (of_block Length)) in
          cond (is_ok r) (main_of_block (repaired xs ms)) old ≡ cond (is_ok r) (main_of_block (repaired_within_five xs)) old
      go true e b =
          ap (λ (ys : List ℕ). cond (is_ok (cond b (judged (repaired_within_five xs) 0 16 (Ok (repair_of (repaired_within_five xs) (tallies_within_five xs)))) (Err (of_block Length)))) (main_of_block ys) old)
          (repaired-unmarked (eqb-true (length xs) block_size e))
      go false e b = refl
