-- The answers of the block repairer, case by case, with what is left in the buffers.
-- Assumes nothing.
use mathlib.Core.Path.{◌≡◌, sym, ap, ap₂, ◌∙◌}
use mathlib.Core.Bool.{Bool, true, false}
use mathlib.Core.List.{List}
use mathlib.Core.Logic.{◌≢◌}
use Prim.Native.Nat.{ℕ}
use borrow.Author.Tests.{eq-eqb, ne_eqb}
use lib.ListN.{length}
use Rattle.std.specs.Prelude.{Result, Ok, Err}
use Rattle.refusals.specs.declared.Refusal.TheVariants.{Length, Mark}
use Rattle.dataframe.specs.Checks.{main_of_block}
use Rattle.layout.specs.Lengths.{main_size, block_size, row_count, column_count}
use Rattle.repairer.specs.Repair.{rows_repaired, columns_repaired, repaired, tally_of, tallies_of}
use Rattle.repairer.specs.Answer.{of_block, judged, lengths_fit, marks_fit, input_fits, repair_of, repair_answer, block_after, main_after, repair_refusal, refused_frame, block_answer_number, block_answer_frame}
use Rattle.repairer.specs.Inner.{Rows, Columns, outcome_of_word}
use Rattle.repairer.specs.declared.Tally.{Tally}
use Rattle.repairer.specs.declared.Tallies.{Tallies}
use Rattle.repairer.specs.declared.Repair.{Repair}
use Rattle.repairer.specs.declared.BlockRefusal.{BlockRefusal}
use Rattle.repairer.proofs.Numbers.{repair_number_lem, repair_frame_lem}

-- what the repairer's contract asks of an answer and of the two buffers
pub record Meets (xs ms old : List ℕ) (r : Result Repair BlockRefusal) (ys new : List ℕ) : Type 0 where
  pub value : r ≡ repair_answer xs ms (length old)
  pub number : block_answer_number r ≡ repair_refusal xs ms (length old)
  pub frame : block_answer_frame r ≡ refused_frame xs ms (length old)
  pub block : ys ≡ block_after xs ms (length old)
  pub main : new ≡ main_after xs ms old

-- number and frame follow from the answer
pub meets :
    (xs ms old : List ℕ) (r : Result Repair BlockRefusal) (ys new : List ℕ) → r ≡ repair_answer xs ms (length old) → ys ≡ block_after xs ms (length old)
    → new ≡ main_after xs ms old → Meets xs ms old r ys new
meets xs ms old r ys new a b m = record {
  value = a;
  number = ap block_answer_number a ∙ repair_number_lem xs ms (length old);
  frame = ap block_answer_frame a ∙ repair_frame_lem xs ms (length old);
  block = b;
  main = m;
}

-- the judgement over the repaired block
abbrev verdict : List ℕ → List ℕ → Result Repair BlockRefusal
verdict xs ms = judged (repaired xs ms) 0 16 (Ok (repair_of (repaired xs ms) (tallies_of xs ms)))

-- the answer r over the block ys after both repairs
pub record Verdict (xs ms ys : List ℕ) (r : Result Repair BlockRefusal) : Type 0 where
  pub block : ys ≡ repaired xs ms
  pub answer : r ≡ verdict xs ms

abbrev both : Tally → Tally → Tallies
both x y = record { rows = x; columns = y }

pub stages :
    (xs ms ys zs : List ℕ) (m n : Tally) (r : Result Repair BlockRefusal) → (m ≡ tally_of (outcome_of_word Rows ms xs) row_count) × (ys ≡ rows_repaired xs ms)
    → (n ≡ tally_of (outcome_of_word Columns ms ys) column_count) × (zs ≡ columns_repaired ys)
    → r ≡ judged zs 0 16 (Ok (repair_of zs (record { rows = m; columns = n }))) → Verdict xs ms zs r
unfolding repaired tallies_of
stages xs ms ys zs m n r a b d =
    let z : zs ≡ columns_repaired (rows_repaired xs ms) = b.1 ∙ ap columns_repaired a.1 in
    let v : n ≡ tally_of (outcome_of_word Columns ms (rows_repaired xs ms)) column_count = b.0 ∙ ap (λ (w : List ℕ). tally_of (outcome_of_word Columns ms w) column_count) a.1 in
    record {
      block = z;
      answer = d ∙ ap₂ (λ (w : List ℕ) (x : Tallies). judged w 0 16 (Ok (repair_of w x))) z (ap₂ both a.0 v);
    }

-- ---- the lengths

module _ (xs ms old : List ℕ) where
  pub length_refused : lengths_fit xs ms (length old) ≡ false → Meets xs ms old (Err (of_block Length)) xs old
  unfolding repair_answer block_after main_after input_fits
  length_refused z = meets xs ms old (Err (of_block Length)) xs old (rw z) (rw z) (rw z)

  pub block_unfit : length xs ≢ block_size → lengths_fit xs ms (length old) ≡ false
  unfolding lengths_fit
  block_unfit n = rw (ne_eqb (length xs) block_size n)

  module _ (ex : length xs ≡ block_size) where
    pub marks_unfit : length ms ≢ block_size → lengths_fit xs ms (length old) ≡ false
    unfolding lengths_fit
    marks_unfit n = rw (eq-eqb (length xs) block_size ex, ne_eqb (length ms) block_size n)

    module _ (em : length ms ≡ block_size) where
      pub main_unfit : length old ≢ main_size → lengths_fit xs ms (length old) ≡ false
      unfolding lengths_fit
      main_unfit n = rw (eq-eqb (length xs) block_size ex, eq-eqb (length ms) block_size em, ne_eqb (length old) main_size n)

      -- ---- the lengths are as stated, and t says whether the marks fit
      module _ (eo : length old ≡ main_size) (t : Bool) (et : t ≡ marks_fit ms) where
        fit : lengths_fit xs ms (length old) ≡ true
        unfolding lengths_fit
        fit = rw (eq-eqb (length xs) block_size ex, eq-eqb (length ms) block_size em, eq-eqb (length old) main_size eo)

        pub mark_refused : t ≡ false → Meets xs ms old (Err (of_block Mark)) xs old
        unfolding repair_answer block_after main_after input_fits
        mark_refused n = let z : marks_fit ms ≡ false = sym et ∙ n in meets xs ms old (Err (of_block Mark)) xs old (rw (fit, z)) (rw (fit, z)) (rw (fit, z))

        module _ (u : t ≡ true) where
          marked : marks_fit ms ≡ true
          marked = sym et ∙ u

          answered : verdict xs ms ≡ repair_answer xs ms (length old)
          unfolding repair_answer
          answered = rw (fit, marked)

          block_left : repaired xs ms ≡ block_after xs ms (length old)
          unfolding block_after input_fits
          block_left = rw (fit, marked)

          module _ (ys : List ℕ) (r : Result Repair BlockRefusal) (v : Verdict xs ms ys r) where
            answer : r ≡ repair_answer xs ms (length old)
            answer = v.answer ∙ answered

            pub frame_refused : (e : BlockRefusal) → r ≡ Err e → Meets xs ms old r ys old
            unfolding main_after
            frame_refused e p = meets xs ms old r ys old answer (v.block ∙ block_left) (rw (sym answer ∙ p))

            pub handed_out : (x : Repair) (new : List ℕ) → r ≡ Ok x → new ≡ main_of_block ys → Meets xs ms old (Ok x) ys new
            unfolding main_after
            handed_out x new p m = let z = sym p ∙ answer in meets xs ms old (Ok x) ys new z (v.block ∙ block_left) (rw (sym z) (m ∙ ap main_of_block v.block))
