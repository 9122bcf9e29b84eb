-- The undamaged stream of an accepted block, whatever the permitted choices and wherever it stands in a run, reads to its main data and its first number with all
-- tallies 0 (undamaged; run_undamaged, block_undamaged).
-- Assumes nothing.
use mathlib.Core.Path.{◌≡◌, refl, sym, ap, ap₂, subst, ◌∙◌, ◌≡⟨◌⟩◌, ◌∎}
use mathlib.Core.Bool.{Bool, true, false, not}
use mathlib.Core.List.{List, ◌∷◌, ◌++◌}
use Prim.Native.Nat.{ℕ, zero, suc, ◌+◌, ◌*◌, ◌/◌, ◌%◌, ◌<◌, ◌≤◌}
use Rattle.std.specs.Prelude.{Option, None, Ok}
use native.Mathlib.Omega.{arith}
use borrow.Author.Tests.{eq-eqb, le-ltb}
use lib.Dec.{T, eqb}
use lib.ListN.{length, get_or}
use lib.Seq.{ext_get_or}
use Rattle.lists.specs.Bytes.{Bytes}
use Rattle.lists.specs.Count.{bit}
use Rattle.lists.specs.Fill.{tabulate}
use Rattle.lists.proofs.Count.{count_none}
use Rattle.lists.proofs.Fill.{length-tabulate, get_d_tabulate}
use Rattle.lists.proofs.Test.{truth_of}
use Rattle.codes.specs.Word.{is_code}
use Rattle.codes.specs.Nearest.{outcome_of}
use Rattle.codes.specs.Erasures.{is_erased, erasure_count, error_count, nearest_erased, outcome_erased}
use Rattle.codes.specs.declared.Outcome.{Outcome}
use Rattle.codes.specs.declared.Outcome.TheVariants.{Clean}
use Rattle.codes.proofs.Words.{code_of_test}
use Rattle.codes.proofs.Nearest.{outcome_clean}
use Rattle.codes.proofs.Erasures.{Within, errors_self≡0, within_test, nearest-within, self_within, outcome_clean_within}
use Rattle.annexg.specs.Read.{read_word}
use Rattle.annexg.specs.Sync.{code_for}
use Rattle.annexg.proofs.Sync.{code_is-sync}
use Rattle.layout.specs.Lengths.{main_size, block_size, sector_size, stream_size, row_count, row_size, column_count}
use Rattle.eccblock.specs.Block.{block}
use Rattle.layout.specs.Rows.{row_of, column_of}
use Rattle.eccblock.specs.Encode.{Accepted}
use Rattle.eccblock.specs.Run.{BlockInput, AcceptedRun, run_blocks}
use Rattle.eccblock.proofs.Cells.{code_row_length}
use Rattle.eccblock.proofs.Laws.{block_length, block_bytes_lem, block_row, block_column, block_row_code, block_column_code, code_row_bytes, code_column_bytes}
use Rattle.layout.specs.Sectors.{frame_codes, code_of, half_of, sector_part, block_part}
use Rattle.channel.specs.Block.{permitted_run, run_stream, permitted_choices, permitted_stream, read_block, is_unknown, unknown_at, erasures_of_block}
use Rattle.octets.specs.Halves.{half_at}
use Rattle.channel.proofs.Sectors.{part_half, half_of_lem, half_small, erasures_block, reads_whole}
use Rattle.layout.proofs.Places.{row_byte}
use Rattle.channel.proofs.Rows.{LaidBlock, laid_alone}
use Rattle.channel.proofs.Runs.{laid_length}
use Rattle.channel.proofs.Undisturbed.{SyncAt, word_known, sync_known}
use Rattle.reader.specs.Sector.{lost_sync, unknown_tally, sync_tally}
use Rattle.reader.specs.Session.{Buffers, Lent, call_answer, block_bytes, block_erasures}
use Rattle.reader.proofs.Calls.{call_answer≡tallies, block_bytes≡read_block, block_erasures≡erasures_of_block}
use Rattle.repairer.specs.Repair.{rows_repaired, is_corrected, is_uncorrectable, tally_of, tallies_of}
use Rattle.repairer.specs.Answer.{marks_fit, repair_answer}
use Rattle.repairer.specs.declared.Tally.{Tally}
use Rattle.repairer.specs.declared.Tallies.{Tallies}
use Rattle.blockreader.specs.BlockReader.{sector_sum, block_fits, block_read_answer}
use Rattle.blockreader.proofs.Numbers.{marks_length, marks_fit_lem}
use Rattle.theorems.proofs.Chain.{far_row, far_rows, handed_out}
use Rattle.theorems.proofs.Runs.{accepted_at, run_part}
use Rattle.theorems.proofs.Demand.{HandedOut, near_handed_out}

abbrev pub no_tally : Tally
no_tally = record { corrected = 0; uncorrectable = 0 }

abbrev pub no_tallies : Tallies
no_tallies = record { rows = no_tally; columns = no_tally }

-- the main data and the first number are handed out of the stream xs, and nothing is tallied
pub record Undamaged (main : List ℕ) (first : ℕ) (xs : List ℕ) : Type 0 where
  pub read : HandedOut main first xs
  -- by the calls: in no sector an unknown word or a lost SYNC Code, in the block no row or column to repair,
  pub sectors : (b : Buffers) → Lent b → (k : ℕ) → k < 16 → call_answer xs b k ≡ Ok (record { unknown = 0; sync = 0 })
  pub answer : (b : Buffers) → Lent b → repair_answer (block_bytes xs b) (block_erasures xs b) main_size ≡ Ok (record { first = first; tallies = no_tallies })
  -- and by the one call of the whole-block reader
  pub whole_answer : block_read_answer xs block_size block_size main_size
      ≡ Ok (record { first = first; tallies = no_tallies; unknown = 0; sync = 0 })

-- ---- the repairer's tallies of a made block

-- words that are all clean tally nothing
no_tally_lem : (o : ℕ → Outcome) (n : ℕ) → ((i : ℕ) → i < n → o i ≡ Clean) → tally_of o n ≡ no_tally
unfolding tally_of
no_tally_lem o n h =
    ap₂ (λ (c u : ℕ). record { corrected = c; uncorrectable = u })
    (count_none (λ i. is_corrected (o i)) 0 n (λ i l. ap is_corrected (h (0 + i) (omega arith))))
    (count_none (λ i. is_uncorrectable (o i)) 0 n (λ i l. ap is_uncorrectable (h (0 + i) (omega arith))))

-- a made block, and marks of its bytes that are all 0
module _ {previous : Option ℕ} (main : List ℕ) (first info : ℕ) (ok : Accepted previous main first info) (ms : List ℕ) (unmarked : (i : ℕ) → i < block_size → get_or ms i 0 ≡ 0) where
  abbrev made : List ℕ
  made = block main first info

  row_bytes : (q : ℕ) → q < row_count → Bytes (row_of made q)
  row_bytes q h = subst Bytes (sym (block_row main first info ok q h)) (code_row_bytes main first info ok _)

  row_size_lem : (q : ℕ) → q < row_count → length (row_of made q) ≡ row_size
  row_size_lem q h = ap length (block_row main first info ok q h) ∙ code_row_length main first info _

  marks_none : (q : ℕ) → q < row_count → erasure_count (row_of ms q) row_size ≡ 0
  unfolding erasure_count
  marks_none q h =
      count_none (is_erased (row_of ms q)) 0 row_size
      (λ i l. ap (λ (m : ℕ). eqb m 1) (row_byte ms q (0 + i) (omega arith) ∙ unmarked (q * row_size + (0 + i)) (omega arith)))

  row_within : (q : ℕ) → q < row_count → Within 10 (row_of ms q) (row_of made q) (row_of made q)
  row_within q h =
      self_within 10 (row_of ms q) (row_of made q) (row_bytes q h) (omega (arith, row_size_lem q h))
      (code_of_test 10 (row_of made q) (truth_of (is_code 10 (row_of made q)) (block_row_code main first info ok q h)))
      (omega (arith, ap (erasure_count (row_of ms q)) (row_size_lem q h), marks_none q h))

  row_clean : (q : ℕ) → q < row_count → outcome_erased 10 (row_of ms q) (row_of made q) ≡ Clean
  row_clean q h =
      outcome_clean_within 10 (row_of ms q) (row_of made q) (row_bytes q h) (within_test 10 (row_of ms q) (row_of made q) (row_bytes q h) (row_of made q) (row_within q h))

  row_stays : (q : ℕ) → q < row_count → nearest_erased 10 (row_of ms q) (row_of made q) ≡ row_of made q
  row_stays q h = nearest-within 10 (row_of ms q) (row_of made q) (row_bytes q h) (omega (arith, row_size_lem q h)) (row_of made q) (row_within q h)

  column_clean : (j : ℕ) → j < column_count → outcome_of 16 8 (column_of made j) ≡ Clean
  column_clean j h =
      outcome_clean 16 8 (column_of made j) (subst Bytes (sym (block_column main first info ok j h)) (code_column_bytes main first info ok j))
      (block_column_code main first info ok j (omega arith))

  rows_stay : rows_repaired made ms ≡ made
  unfolding rows_repaired
  rows_stay =
      ext_get_or 0 (tabulate f block_size) made (length-tabulate f block_size ∙ sym (block_length main first info ok)) (λ p l. each p (rw (length-tabulate f block_size) at l))
    where
      f : ℕ → ℕ
      f p = get_or (nearest_erased 10 (row_of ms (p / row_size)) (row_of made (p / row_size))) (p % row_size) 0

      each : (p : ℕ) → p < block_size → get_or (tabulate f block_size) p 0 ≡ get_or made p 0
      each p l =
          let q = p / row_size in
          get_or (tabulate f block_size) p 0 ≡⟨ get_d_tabulate f block_size p l ⟩ get_or (nearest_erased 10 (row_of ms q) (row_of made q)) (p % row_size) 0
          ≡⟨ ap (λ (r : List ℕ). get_or r (p % row_size) 0) (row_stays q (omega arith)) ⟩ get_or (row_of made q) (p % row_size) 0
          ≡⟨ row_byte made q (p % row_size) (omega arith) ⟩ get_or made (q * row_size + p % row_size) 0
          ≡⟨ ap (λ (x : ℕ). get_or made x 0) (omega arith) ⟩ get_or made p 0 ∎

  no_tallies_lem : tallies_of made ms ≡ no_tallies
  unfolding tallies_of
  no_tallies_lem =
      ap₂ (λ (r c : Tally). record { rows = r; columns = c }) (no_tally_lem (λ q. outcome_erased 10 (row_of ms q) (row_of made q)) row_count row_clean)
      (ap (λ (ys : List ℕ). tally_of (λ j. outcome_of 16 8 (column_of ys j)) column_count) rows_stay ∙ no_tally_lem (λ j. outcome_of 16 8 (column_of made j)) column_count column_clean)

  far_self≡0 : far_rows made ms made ≡ 0
  unfolding far_rows
  far_self≡0 =
      count_none (far_row made ms made) 0 row_count
      (λ q l.
      le-ltb 10 (2 * error_count (row_of ms (0 + q)) (row_of made (0 + q)) (row_of made (0 + q)) + erasure_count (row_of ms (0 + q)) row_size)
      (omega (arith, errors_self≡0 (row_of ms (0 + q)) (row_of made (0 + q)), marks_none (0 + q) (omega arith))))

  -- an undamaged block buffer is handed out, and nothing is tallied
  made_handed_out : length ms ≡ block_size → marks_fit ms ≡ true → repair_answer made ms main_size ≡ Ok (record { first = first; tallies = no_tallies })
  made_handed_out sized marks =
      handed_out main first info ok made ms (block_length main first info ok) (block_bytes_lem main first info ok) (omega (arith, far_self≡0)) sized marks
      ∙ ap (λ (t : Tallies). Ok (record { first = first; tallies = t })) no_tallies_lem

module _ {previous : Option ℕ} (main : List ℕ) (first info : ℕ) (ok : Accepted previous main first info) where
  abbrev laid_block : List ℕ
  laid_block = block main first info

  -- ---- the sector reader's tallies of a permitted stream

  module _ {laid : List ℕ} (m : LaidBlock laid_block laid) where
    known : (k i : ℕ) → k < 16 → i < sector_size → unknown_at (sector_part laid k) i ≡ false
    unfolding unknown_at
    known k i hk hi =
        let s = half_small i hi in
        let a = half_of_lem k i in
        let b : 2418 * k + (half_of i + 1) ≡ half_of (sector_size * k + i) + 1 = omega (arith, a) in
        ap is_unknown
        (ap₂ read_word (part_half laid k (half_of i) (omega (arith, s)) ∙ ap (half_at laid) a) (part_half laid k (half_of i + 1) (omega (arith, s)) ∙ ap (half_at laid) b)
        ∙ word_known m (sector_size * k + i) (omega arith))

    unknown_none : (k : ℕ) → k < 16 → unknown_tally (sector_part laid k) ≡ 0
    unfolding unknown_tally
    unknown_none k hk = count_none (unknown_at (sector_part laid k)) 0 sector_size (λ i l. known k (0 + i) hk (omega arith))

    found : (k f : ℕ) → k < 16 → f < 26 → lost_sync (sector_part laid k) f ≡ false
    unfolding lost_sync code_of
    found k f hk hf =
        let g = 26 * k + f in
        let s : SyncAt (code_of g) (half_at laid (93 * g)) (half_at laid (93 * g + 1)) = sync_known m g (omega arith) in
        let e : g % 26 ≡ f % 26 = omega arith in
        let n : code_of g ≡ code_of f = ap (λ (x : ℕ). get_or frame_codes x 0) e in
        let a : half_at (sector_part laid k) (93 * f) ≡ half_at laid (93 * g) = part_half laid k (93 * f) (omega arith) ∙ ap (half_at laid) (omega arith) in
        let b : half_at (sector_part laid k) (93 * f + 1) ≡ half_at laid (93 * g + 1) = part_half laid k (93 * f + 1) (omega arith) ∙ ap (half_at laid) (omega arith) in
        ap not (code_is-sync (code_of f) (half_at (sector_part laid k) (93 * f)) (half_at (sector_part laid k) (93 * f + 1)) s.state s.choice s.is_state
        (a ∙ s.first ∙ ap (λ (x : ℕ). code_for s.state x s.choice) n) (b ∙ s.second))

    lost_none : (k : ℕ) → k < 16 → sync_tally (sector_part laid k) ≡ 0
    unfolding sync_tally
    lost_none k hk = count_none (lost_sync (sector_part laid k)) 0 26 (λ f l. found k (0 + f) hk (omega arith))

    sum-none : (t : List ℕ → ℕ) → ((k : ℕ) → k < 16 → t (sector_part laid k) ≡ 0) → (n k : ℕ) → k + n ≤ 16 → sector_sum t laid k n ≡ 0
    unfolding sector_sum
    sum-none t h zero k l = refl
    sum-none t h (suc n) k l = ap₂ (λ (x y : ℕ). x + y) (h k (omega arith)) (sum-none t h n (suc k) (omega arith))

    whole : length laid ≡ stream_size
    whole = laid_length m

    reads_made : read_block laid ≡ laid_block
    reads_made = reads_whole m

    -- no word of the block is unknown, so that nothing is marked
    unmarked : (i : ℕ) → i < block_size → get_or (erasures_of_block laid) i 0 ≡ 0
    unfolding unknown_at
    unmarked i l =
        ap (λ (ys : List ℕ). get_or ys i 0) (erasures_block laid) ∙ get_d_tabulate (λ i. bit (unknown_at laid i)) block_size i l
        ∙ ap (λ (r : Option ℕ). bit (is_unknown r)) (word_known m i l)

    laid_handed_out : HandedOut main first laid
    laid_handed_out =
        near_handed_out main first info ok laid whole (rw reads_made (omega (arith, far_self≡0 main first info ok (erasures_of_block laid) unmarked)))

    answers : repair_answer (read_block laid) (erasures_of_block laid) main_size ≡ Ok (record { first = first; tallies = no_tallies })
    answers =
        ap (λ (b : List ℕ). repair_answer b (erasures_of_block laid) main_size) reads_made
        ∙ made_handed_out main first info ok (erasures_of_block laid) unmarked (marks_length laid) (marks_fit_lem laid)

    -- THE UNDAMAGED STREAM of a block anywhere in a run
    pub undamaged : Undamaged main first laid
    unfolding block_read_answer block_fits
    undamaged = record {
      read = laid_handed_out;
      sectors = λ b lent k h. call_answer≡tallies laid b whole lent k h ∙ ap₂ (λ (u s : ℕ). Ok (record { unknown = u; sync = s })) (unknown_none k h) (lost_none k h);
      answer = λ b lent.
          ap₂ (λ (x y : List ℕ). repair_answer x y main_size) (block_bytes≡read_block laid b whole lent) (block_erasures≡erasures_of_block laid b whole lent) ∙ answers;
      whole_answer =
          rw (eq-eqb (length laid) stream_size whole, answers)
          (ap₂ (λ (u s : ℕ). Ok (record { first = first; tallies = no_tallies; unknown = u; sync = s })) (sum-none unknown_tally unknown_none 16 0 (omega arith)) (sum-none sync_tally lost_none 16 0 (omega arith)));
    }

-- each block of a run's permitted stream
pub run_undamaged :
    (before : List BlockInput) (i : BlockInput) (after : List BlockInput) → AcceptedRun None (before ++ i ∷ after) → (cs : List Bool)
    → T (permitted_run (run_blocks (before ++ i ∷ after)) cs)
    → Undamaged i.main i.first (block_part (run_stream (run_blocks (before ++ i ∷ after)) cs) (length before))
run_undamaged before i after ok cs p = undamaged i.main i.first i.info (accepted_at None before i after ok) (run_part before i after cs ok p)

-- a block by itself, with the closing code after it
pub block_undamaged :
    {previous : Option ℕ} (main : List ℕ) (first info : ℕ) (ok : Accepted previous main first info) (cs : List Bool) → T (permitted_choices (block main first info) cs)
    → Undamaged main first (permitted_stream (block main first info) cs)
block_undamaged main first info ok cs p =
    undamaged main first info ok (laid_alone (block main first info) cs (block_length main first info ok) (block_bytes_lem main first info ok) p)
