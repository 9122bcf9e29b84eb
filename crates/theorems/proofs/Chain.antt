-- The chain of demand 3: a block buffer with its marks, of which at most 8 rows are far from a made block's (far_rows), is repaired to the made frames, so that the
-- repairer hands out the main data.
-- Assumes nothing.
use mathlib.Core.Path.{◌≡◌, refl, sym, ap, ap₂, subst, ◌∙◌, ◌≡⟨◌⟩◌, ◌∎}
use mathlib.Core.Bool.{Bool, true, false, cond}
use mathlib.Core.List.{List}
use Prim.Native.Nat.{ℕ, zero, suc, ◌+◌, ◌*◌, ◌/◌, ◌%◌, ◌<◌, ◌≤◌}
use Rattle.std.specs.Prelude.{Option, Result, Ok, Err, is_ok, ⊤}
use native.Mathlib.Omega.{arith}
use borrow.Author.Tests.{ltb-false, lt-ltb, eq-eqb}
use lib.Dec.{ltb}
use lib.ListN.{length, get_or, drop, length-drop}
use lib.Seq.{ext_get_or, get_or-take, get_or-drop, length-take-le}
use Rattle.lists.specs.Bytes.{Bytes}
use Rattle.lists.specs.Count.{count_from, distance}
use Rattle.lists.proofs.Bytes.{get_or-byte, take-bytes, drop-bytes, tabulate-bytes}
use Rattle.lists.proofs.Fill.{get_d_tabulate}
use Rattle.codes.specs.Nearest.{nearest}
use Rattle.codes.specs.Erasures.{erasure_count, error_count, nearest_erased}
use Rattle.codes.proofs.Nearest.{nearest_near}
use Rattle.codes.proofs.Erasures.{nearest-within, erased_bytes}
use Rattle.dataframe.specs.Checks.{info_of, number_of, frame_refusal, main_of_block}
use Rattle.eccblock.specs.Block.{frame, code_column, code_row, block}
use Rattle.layout.specs.Rows.{recording_row, original_row, row_of, column_of, frame_of}
use Rattle.eccblock.specs.Encode.{Accepted}
use Rattle.layout.proofs.Order.{recording_lt, recording_original, count_recording}
use Rattle.layout.proofs.Places.{column_length, column_byte, frame_length, frame_byte_lem}
use Rattle.eccblock.proofs.Cells.{code_column_length, code_row_length}
use Rattle.eccblock.proofs.Laws.{code_column_bytes, code_column_code, code_row_bytes, code_row_code, block_row, block_column, block_frame, frame_number, frame_info, frame_passes, frames_main}
use Rattle.lists.proofs.Distance.{distance-count}
use Rattle.repairer.specs.Repair.{rows_repaired, columns_repaired, repaired, tallies_of}
use Rattle.repairer.specs.Answer.{frame_fault, passed, of_block, in_order, judged, lengths_fit, marks_fit, repair_of, repair_answer, main_after}
use Rattle.repairer.specs.declared.Repair.{Repair}
use Rattle.repairer.specs.declared.BlockRefusal.{BlockRefusal}
use Rattle.repairer.proofs.Numbers.{answer_is}
use Rattle.refusals.specs.declared.Refusal.{Refusal}
use Rattle.refusals.specs.declared.Refusal.TheVariants.{Length, Mark}
use Rattle.layout.specs.Lengths.{main_size, block_size, frame_size, row_count, row_size, column_count}

all_pass : (ys : List ℕ) (a : Result Repair BlockRefusal) (n k : ℕ) → ((i : ℕ) → i < k + n → frame_fault ys i ≡ 0) → judged ys k n a ≡ a
unfolding judged
all_pass ys a zero k h = refl
all_pass ys a (suc n) k h =
    ap (λ (t : Result ⊤ Refusal). in_order t k (judged ys (suc k) n a)) (sym (answer_is ys k passed (sym (h k (omega arith)))))
    ∙ all_pass ys a n (suc k) (λ i l. h i (omega arith))

-- row q of the buffer xs with the marks ms is far from that of the block bs: 2e + f is over ten, where f counts its marked bytes and e the others that differ
abbrev pub far_row : List ℕ → List ℕ → List ℕ → ℕ → Bool
far_row xs ms bs q = ltb 10 (2 * error_count (row_of ms q) (row_of xs q) (row_of bs q) + erasure_count (row_of ms q) row_size)

unfoldable pub far_rows : List ℕ → List ℕ → List ℕ → ℕ
far_rows xs ms bs = count_from (far_row xs ms bs) 0 row_count

module _ {previous : Option ℕ} (main : List ℕ) (first info : ℕ) (ok : Accepted previous main first info) (xs ms : List ℕ) (whole : length xs ≡ block_size) (hx : Bytes xs) where
  abbrev made : List ℕ
  made = block main first info

  abbrev far : ℕ → Bool
  far = far_row xs ms made

  -- row q after its repair
  abbrev mended_row : ℕ → List ℕ
  mended_row q = nearest_erased 10 (row_of ms q) (row_of xs q)

  row_length : (q : ℕ) → q < row_count → length (row_of xs q) ≡ row_size
  row_length q h = length-take-le row_size (drop (q * row_size) xs) (rw length-drop (omega arith))

  row_bytes : (q : ℕ) → Bytes (row_of xs q)
  row_bytes q = take-bytes row_size (drop (q * row_size) xs) (drop-bytes (q * row_size) xs hx)

  -- a row that is not far becomes the row that was made
  pub row_back : (q : ℕ) → q < row_count → far q ≡ false → mended_row q ≡ row_of made q
  row_back q h f =
      let c : List ℕ = code_row main first info (original_row q) in
      let e : row_of made q ≡ c = block_row main first info ok q h in
      nearest-within 10 (row_of ms q) (row_of xs q) (row_bytes q) (omega (arith, row_length q h)) c
      (record {
        bytes = code_row_bytes main first info ok (original_row q);
        len = row_length q h ∙ sym (code_row_length main first info (original_row q));
        code = code_row_code main first info ok (original_row q);
        close =
            subst (λ (r : List ℕ). 2 * error_count (row_of ms q) (row_of xs q) r + erasure_count (row_of ms q) (length (row_of xs q)) ≤ 10) e
            (subst (λ (n : ℕ). 2 * error_count (row_of ms q) (row_of xs q) (row_of made q) + erasure_count (row_of ms q) n ≤ 10) (sym (row_length q h))
            (ltb-false 10 (2 * error_count (row_of ms q) (row_of xs q) (row_of made q) + erasure_count (row_of ms q) row_size) f));
      })
      ∙ sym e

  rows_at : (q j : ℕ) → q < row_count → j < row_size → get_or (rows_repaired xs ms) (q * row_size + j) 0 ≡ get_or (mended_row q) j 0
  unfolding rows_repaired
  rows_at q j h l =
      let a : (q * row_size + j) / row_size ≡ q = omega arith in
      let b : (q * row_size + j) % row_size ≡ j = omega arith in
      get_d_tabulate (λ p. get_or (mended_row (p / row_size)) (p % row_size) 0) block_size (q * row_size + j) (omega arith)
      ∙ ap₂ (λ (x y : ℕ). get_or (mended_row x) y 0) a b

  rows_bytes : Bytes (rows_repaired xs ms)
  unfolding rows_repaired
  rows_bytes =
      tabulate-bytes (λ p. get_or (mended_row (p / row_size)) (p % row_size) 0) 0 block_size
      (λ p. get_or-byte (mended_row (p / row_size)) (p % row_size) (erased_bytes 10 (row_of ms (p / row_size)) (row_of xs (p / row_size)) (row_bytes (p / row_size))))

  -- a column then differs from the made one in far rows only
  column_alike : (j i : ℕ) → j < row_size → i < row_count → far (recording_row i) ≡ false → get_or (column_of (rows_repaired xs ms) j) i 0 ≡ get_or (column_of made j) i 0
  column_alike j i hj hi f =
      let q = recording_row i in
      get_or (column_of (rows_repaired xs ms) j) i 0 ≡⟨ column_byte (rows_repaired xs ms) j i hi ⟩ get_or (rows_repaired xs ms) (q * row_size + j) 0
      ≡⟨ rows_at q j (recording_lt i hi) hj ⟩ get_or (mended_row q) j 0
      ≡⟨ ap (λ (r : List ℕ). get_or r j 0) (row_back q (recording_lt i hi) f) ⟩ get_or (row_of made q) j 0
      ≡⟨ get_or-take row_size (drop (q * row_size) made) j 0 hj ∙ get_or-drop (q * row_size) made j 0 ⟩ get_or made (q * row_size + j) 0
      ≡⟨ sym (column_byte made j i hi) ⟩ get_or (column_of made j) i 0 ∎

  column_distance : (j : ℕ) → j < row_size → distance (column_of (rows_repaired xs ms) j) (column_of made j) ≤ far_rows xs ms made
  unfolding far_rows
  column_distance j hj =
      let n = column_length (rows_repaired xs ms) j in
      let m = column_length made j in
      subst (λ (c : ℕ). distance (column_of (rows_repaired xs ms) j) (column_of made j) ≤ c)
      (ap (count_from (λ i. far (recording_row i)) 0) n ∙ count_recording far)
      (distance-count (column_of (rows_repaired xs ms) j) (column_of made j) (λ i. far (recording_row i)) (n ∙ sym m)
      (λ i l f. column_alike j i hj (omega (arith, n)) f))

  column_bytes : (j : ℕ) → Bytes (column_of (rows_repaired xs ms) j)
  unfolding column_of
  column_bytes j =
      tabulate-bytes (λ i. get_or (rows_repaired xs ms) (recording_row i * row_size + j) 0) 0 row_count (λ i. get_or-byte (rows_repaired xs ms) (recording_row i * row_size + j) rows_bytes)

  module _ (few : far_rows xs ms made ≤ 8) where
    column_back : (j : ℕ) → j < column_count → nearest 16 8 (column_of (rows_repaired xs ms) j) ≡ code_column main first info j
    column_back j h =
        let c : List ℕ = code_column main first info j in
        let n = column_length (rows_repaired xs ms) j in
        nearest_near 16 8 (column_of (rows_repaired xs ms) j) (column_bytes j) (omega arith) (omega arith) c
        (record {
          bytes = code_column_bytes main first info ok j;
          len = n ∙ sym (code_column_length main first info j);
          code = code_column_code main first info ok j;
          close = subst (λ (x : List ℕ). distance (column_of (rows_repaired xs ms) j) x ≤ 8) (block_column main first info ok j h) (omega (arith, column_distance j (omega arith)));
        })

    -- columns 0 to 171 are those of the made block
    repaired-at : (q j : ℕ) → q < row_count → j < column_count → get_or (repaired xs ms) (q * row_size + j) 0 ≡ get_or made (q * row_size + j) 0
    unfolding repaired columns_repaired
    repaired-at q j h l =
        let a : (q * row_size + j) / row_size ≡ q = omega arith in
        let b : (q * row_size + j) % row_size ≡ j = omega arith in
        let ys : List ℕ = rows_repaired xs ms in
        let byte : ℕ → ℕ → ℕ → ℕ = λ p x y. cond (ltb y column_count) (get_or (nearest 16 8 (column_of ys y)) (original_row x) 0) (get_or ys p 0) in
        get_or (repaired xs ms) (q * row_size + j) 0 ≡⟨ get_d_tabulate (λ p. byte p (p / row_size) (p % row_size)) block_size (q * row_size + j) (omega arith) ∙ ap₂ (byte (q * row_size + j)) a b ⟩ byte (q * row_size + j) q j
        ≡⟨ ap (λ (t : Bool). cond t (get_or (nearest 16 8 (column_of ys j)) (original_row q) 0) (get_or ys (q * row_size + j) 0)) (lt-ltb j column_count l) ⟩ get_or (nearest 16 8 (column_of ys j)) (original_row q) 0
        ≡⟨ ap (λ (c : List ℕ). get_or c (original_row q) 0) (column_back j l ∙ sym (block_column main first info ok j l)) ⟩ get_or (column_of made j) (original_row q) 0
        ≡⟨ column_byte made j (original_row q) (recording_original q h).0 ⟩ get_or made (recording_row (original_row q) * row_size + j) 0
        ≡⟨ ap (λ (x : ℕ). get_or made (x * row_size + j) 0) (recording_original q h).1 ⟩ get_or made (q * row_size + j) 0 ∎

    frame_back : (k : ℕ) → k < 16 → frame_of (repaired xs ms) k ≡ frame main first info k
    frame_back k h =
        ext_get_or 0 (frame_of (repaired xs ms) k) (frame_of made k) (frame_length (repaired xs ms) k ∙ sym (frame_length made k))
        (λ q l. each q (rw (frame_length (repaired xs ms) k) at l))
        ∙ block_frame main first info ok k h
      where
        each : (q : ℕ) → q < frame_size → get_or (frame_of (repaired xs ms) k) q 0 ≡ get_or (frame_of made k) q 0
        each q l =
            frame_byte_lem (repaired xs ms) k q l
            ∙ repaired-at (recording_row (12 * k + q / column_count)) (q % column_count) (recording_lt (12 * k + q / column_count) (omega arith)) (omega arith)
            ∙ sym (frame_byte_lem made k q l)

    first_back : number_of (frame_of (repaired xs ms) 0) ≡ first
    first_back = ap number_of (frame_back 0 (omega arith)) ∙ frame_number main first info ok 0 (omega arith) ∙ omega arith

    frame_good : (i : ℕ) → i < 16 → frame_fault (repaired xs ms) i ≡ 0
    unfolding frame_fault
    frame_good i l =
        ap₂ (λ (x y : ℕ). frame_refusal x y i (frame_of (repaired xs ms) i)) first_back (ap info_of (frame_back 0 (omega arith)) ∙ frame_info main first info ok 0 (omega arith))
        ∙ ap (frame_refusal first info i) (frame_back i l) ∙ frame_passes main first info ok i l

    module _ (sized : length ms ≡ block_size) (marks : marks_fit ms ≡ true) where
      fits : lengths_fit xs ms main_size ≡ true
      unfolding lengths_fit
      fits = rw (eq-eqb (length xs) block_size whole, eq-eqb (length ms) block_size sized)

      -- the repairer hands out the first number,
      pub handed_out : repair_answer xs ms main_size ≡ Ok (record { first = first; tallies = tallies_of xs ms })
      unfolding repair_answer
      handed_out =
          let given = Ok (repair_of (repaired xs ms) (tallies_of xs ms)) in
          ap₂ (λ (t u : Bool). cond t (cond u (judged (repaired xs ms) 0 16 given) (Err (of_block Mark))) (Err (of_block Length))) fits marks
          ∙ all_pass (repaired xs ms) given 16 0 (λ i l. frame_good i (omega arith))
          ∙ ap (λ (n : ℕ). Ok (record { first = n; tallies = tallies_of xs ms })) first_back

      -- and the main data
      pub main_back : (old : List ℕ) → length old ≡ main_size → main_after xs ms old ≡ main
      unfolding main_after
      main_back old l =
          ap (λ (a : Result Repair BlockRefusal). cond (is_ok a) (main_of_block (repaired xs ms)) old) (ap (repair_answer xs ms) l ∙ handed_out)
          ∙ frames_main main first info ok (repaired xs ms) frame_back
