-- The number of the whole-block reader's answer, and the frame that it carries: the repairer's, where the lengths fit (block_read_number_lem, block_read_frame_lem); so
-- are a block's first number and tallies (sums_first). The sector reader's marks are 0 or 1, so that it is never 11 (marks_fit_lem, never_eleven).
-- Assumes nothing.
use mathlib.Core.Path.{◌≡◌, refl, ap, ◌∙◌}
use mathlib.Core.Bool.{Bool, true, false, cond}
use mathlib.Core.List.{List}
use Prim.Native.Nat.{ℕ, ◌≤◌}
use native.Mathlib.Omega.{arith}
use lib.ListN.{length, get_or}
use Rattle.std.specs.Prelude.{Option, Some, None, Result, Ok, Err}
use Rattle.lists.specs.Count.{bit}
use Rattle.lists.proofs.Count.{bit_le}
use Rattle.lists.proofs.Fill.{length-tabulate, get_d_tabulate}
use Rattle.layout.specs.Lengths.{block_size, sector_count}
use Rattle.channel.specs.Block.{read_block, unknown_at, erasures_of_block}
use Rattle.channel.proofs.Sectors.{erasures_block}
use Rattle.refusals.specs.declared.Refusal.TheVariants.{Length}
use Rattle.reader.specs.Sector.{unknown_tally, sync_tally}
use Rattle.repairer.specs.Repair.{repaired}
use Rattle.repairer.specs.Answer.{of_block, lengths_fit, marks_fit, repair_answer, refused_frame, fault_at, repair_refusal, block_answer_number, block_answer_frame}
use Rattle.repairer.specs.declared.Repair.{Repair}
use Rattle.repairer.specs.declared.BlockRefusal.{BlockRefusal}
use Rattle.repairer.proofs.Marks.{marks_fit_all}
use Rattle.repairer.proofs.Numbers.{repair_number_lem, repair_frame_lem, fault_small}
use Rattle.blockreader.specs.BlockReader.{sector_sum, with_sums, block_fits, block_read_answer, block_read_refusal, block_read_refused_frame}
use Rattle.blockreader.specs.declared.BlockRead.{BlockRead}

-- a repaired block keeps its first number and its tallies
pub sums_first : (r : Repair) (u s : ℕ) → with_sums (Ok r) u s ≡ Ok (record { first = r.first; tallies = r.tallies; unknown = u; sync = s })
sums_first r u s = refl

-- the sums change neither the number nor the frame
sums-number : (r : Result Repair BlockRefusal) (u s : ℕ) → block_answer_number (with_sums r u s) ≡ block_answer_number r
sums-number (Ok r) u s = refl
sums-number (Err e) u s = refl

sums_frame : (r : Result Repair BlockRefusal) (u s : ℕ) → block_answer_frame (with_sums r u s) ≡ block_answer_frame r
sums_frame (Ok r) u s = refl
sums_frame (Err e) u s = refl

module _ (xs : List ℕ) (b e m : ℕ) where
  -- the answer where the lengths fit
  abbrev read : Result BlockRead BlockRefusal
  read = with_sums (repair_answer (read_block xs) (erasures_of_block xs) m) (sector_sum unknown_tally xs 0 sector_count) (sector_sum sync_tally xs 0 sector_count)

  pub block_read_number_lem : block_answer_number (block_read_answer xs b e m) ≡ block_read_refusal xs b e m
  unfolding block_read_answer block_read_refusal
  block_read_number_lem = go (block_fits xs b e m)
    where
      go : (t : Bool) → block_answer_number (cond t read (Err (of_block Length))) ≡ cond t (repair_refusal (read_block xs) (erasures_of_block xs) m) 1
      go true = sums-number (repair_answer (read_block xs) (erasures_of_block xs) m) _ _ ∙ repair_number_lem (read_block xs) (erasures_of_block xs) m
      go false = refl

  pub block_read_frame_lem : block_answer_frame (block_read_answer xs b e m) ≡ block_read_refused_frame xs b e m
  unfolding block_read_answer block_read_refused_frame
  block_read_frame_lem = go (block_fits xs b e m)
    where
      go : (t : Bool) → block_answer_frame (cond t read (Err (of_block Length))) ≡ cond t (refused_frame (read_block xs) (erasures_of_block xs) m) None
      go true = sums_frame (repair_answer (read_block xs) (erasures_of_block xs) m) _ _ ∙ repair_frame_lem (read_block xs) (erasures_of_block xs) m
      go false = refl

-- ---- the sector reader's marks

pub marks_length : (xs : List ℕ) → length (erasures_of_block xs) ≡ block_size
marks_length xs = ap length (erasures_block xs) ∙ length-tabulate (λ i. bit (unknown_at xs i)) block_size

-- are 0 or 1
pub marks_fit_lem : (xs : List ℕ) → marks_fit (erasures_of_block xs) ≡ true
marks_fit_lem xs =
    marks_fit_all (erasures_of_block xs)
    (λ i l.
    omega (
      arith,
      ap (λ (ys : List ℕ). get_or ys i 0) (erasures_block xs) ∙ get_d_tabulate (λ i. bit (unknown_at xs i)) block_size i (omega (arith, marks_length xs)),
      bit_le (unknown_at xs i),
    ))

-- so that the whole-block reader is never refused with 11
pub never_eleven : (xs : List ℕ) (b e m : ℕ) → block_read_refusal xs b e m ≤ 6
unfolding block_read_refusal repair_refusal
never_eleven xs b e m =
    let ys = repaired (read_block xs) (erasures_of_block xs) in
    let frame : Option ℕ = refused_frame (read_block xs) (erasures_of_block xs) m in
    rw (marks_fit_lem xs) (go (block_fits xs b e m) (lengths_fit (read_block xs) (erasures_of_block xs) m) (fault_at ys frame) (at_most ys frame))
  where
    at_most : (ys : List ℕ) (frame : Option ℕ) → fault_at ys frame ≤ 6
    at_most ys None = omega arith
    at_most ys (Some k) = fault_small ys k

    go : (a b : Bool) (n : ℕ) → n ≤ 6 → cond a (cond b n 1) 1 ≤ 6
    go true true n l = l
    go true false n l = omega arith
    go false b n l = omega arith
