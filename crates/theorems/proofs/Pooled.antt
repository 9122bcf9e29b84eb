-- TWO READINGS POOLED (document 02, request 8), from the maker's input to the repairer's answer.
--   row      Of a made block, a row in which every place is right and unmarked in at least one of two readings, and in which the two together have at most ten
--            unmarked wrong bytes, comes back whole from the row repair of the pooled reading.
--   back     Of two streams of 77,380 bytes, whatever became of them, while at most 8 rows of the made block are not like that: sixteen calls of the sector reader for
--            each, the call that pools, and the repairer refuse nothing, and hand out exactly the main data and the first number.
--   damaged  The same in the words of demand 3, for each block of a run: two streams read in place of one permitted stream, while at most 8 rows have a byte that is
--            touched in both, or more than ten touched bytes in both together that are not marked.
-- A reading of the sector reader pooled with itself is that reading (read_pool_self): unknown words are read as 0.
--
-- The definitions it is stated over, and the functions whose contracts cite them:
--   is_poolable, unpoolable_rows               pooling/specs/Rows      what the row theorem asks, which no function knows
--   clashing_rows                             channel/specs/Block     the damage, which no function knows
--   pooled, pool_answer, pool_after            pooling/specs/Pool,     pooling::pool
--                                            Answer
-- and those of Demand.antt.
-- Assumes nothing.
use mathlib.Core.Path.{◌≡◌, refl, sym, ap, ap₂, subst, ◌∙◌}
use mathlib.Core.Bool.{Bool, true, false, false≢true, not, cond, ◌&&◌, ◌||◌}
use mathlib.Core.List.{List, ◌∷◌, ◌++◌}
use Prim.Native.Nat.{ℕ, ◌+◌, ◌*◌, ◌<◌, ◌≤◌}
use Rattle.std.specs.Prelude.{Option, Some, None, Ok}
use Rattle.refusals.specs.Refusal.{answer_number}
use native.Mathlib.Omega.{arith}
use borrow.Author.Tests.{eq-eqb, le-ltb, le-leb, ltb-false}
use lib.Dec.{T, eqb, ltb, leb}
use lib.ListN.{length, get_or}
use Rattle.lists.specs.Bytes.{Bytes}
use Rattle.lists.specs.Count.{bit}
use Rattle.lists.proofs.Count.{bit_test, count-order}
use Rattle.lists.proofs.Fill.{get_d_tabulate, is-tabulate}
use Rattle.lists.proofs.Test.{truth, truth_of, and_both, below_all, or_left, or_right, or_none}
use Rattle.layout.specs.Lengths.{main_size, block_size, row_size, row_count, sector_count, stream_size}
use Rattle.layout.specs.Rows.{row_of}
use Rattle.layout.specs.Sectors.{block_part, run_size}
use Rattle.layout.proofs.Places.{row_length}
use Rattle.codes.specs.Erasures.{erasure_count, error_count, nearest_erased}
use Rattle.eccblock.specs.Block.{block}
use Rattle.eccblock.specs.Encode.{Accepted}
use Rattle.eccblock.specs.Run.{BlockInput, AcceptedRun, run_blocks}
use Rattle.eccblock.proofs.Laws.{block_length}
use Rattle.channel.specs.Block.{reading_at, reading_byte, read_at, is_unknown, unknown_at, permitted_run, run_stream, read_block, erasures_of_block, touched, touched_known_in, some_from, clashes, clashing_rows}
use Rattle.channel.proofs.BitsTouched.{none-at}
use Rattle.channel.proofs.Rows.{LaidBlock}
use Rattle.channel.proofs.Sectors.{read_block_lem, erasures_block}
use Rattle.reader.specs.Session.{Buffers, Lent, call_answer, block_bytes, block_erasures}
use Rattle.reader.proofs.Calls.{call_number≡0, block_bytes≡read_block, block_erasures≡erasures_of_block}
use Rattle.repairer.specs.Repair.{tallies_of}
use Rattle.repairer.specs.Answer.{repair_answer, main_after}
use Rattle.pooling.specs.Pool.{MarkedBytes, with_marks, byte_at, marked_at, pooled, zeroed}
use Rattle.pooling.specs.Answer.{pool_sized, pool_marks_fit, pool_answer, pool_after}
use Rattle.pooling.specs.Rows.{is_right, is_covered, wrong_in, is_poolable, row_of_reading, unpoolable_rows}
use Rattle.pooling.proofs.Laws.{pool_self, pooled-length, pooled-erasures-length, pooled-bytes, pooled_marks_fit}
use Rattle.pooling.proofs.Rows.{pooled_row, pooled_load}
use Rattle.blockreader.proofs.Numbers.{marks_length, marks_fit_lem}
use Rattle.theorems.proofs.ReadBytes.{read_block_length, read_block_bytes}
use Rattle.theorems.proofs.Chain.{far_row, far_rows, row_back, handed_out, main_back}
use Rattle.theorems.proofs.Rows.{untouched_right, untouched_unmarked, errors≤touched}
use Rattle.theorems.proofs.Runs.{accepted_at, run_part}
use Rattle.theorems.proofs.Demand.{part_length, part_bytes, in_run}

-- ---- what is claimed

-- what the sixteen calls of the sector reader over the stream xs leave, where b is what their buffers held before
abbrev pub reading_of : List ℕ → Buffers → MarkedBytes
reading_of xs b = with_marks (block_bytes xs b) (block_erasures xs b)

-- the stream xs and the stream zs by sixteen calls of the sector reader each, then the call that pools, then the repairer. b and d are what the buffers of the two
-- readings held before, and the main data buffer held old
pub record ByPooling (main : List ℕ) (first : ℕ) (xs zs : List ℕ) (b d : Buffers) (old : List ℕ) : Type 0 where
  -- no sector of either is refused,
  pub sectors : (k : ℕ) → k < sector_count → (answer_number (call_answer xs b k) ≡ 0) × (answer_number (call_answer zs d k) ≡ 0)
  -- nor is the pooling,
  pub pooling : answer_number (pool_answer (reading_of xs b) (reading_of zs d)) ≡ 0
  -- the repairer gets what it leaves of the first reading, refuses nothing and hands out the first number
  pub answer :
      let left = pool_after (reading_of xs b) (reading_of zs d) in
      repair_answer left.bytes left.erasures (length old) ≡ Ok (record { first = first; tallies = tallies_of left.bytes left.erasures })
  -- and the main data
  pub main_data :
      let left = pool_after (reading_of xs b) (reading_of zs d) in
      main_after left.bytes left.erasures old ≡ main

-- whatever buffers of the stated lengths held before
abbrev pub PooledOut : List ℕ → ℕ → List ℕ → List ℕ → Type 0
PooledOut main first xs zs = (b d : Buffers) (old : List ℕ) → Lent b → Lent d → length old ≡ main_size → ByPooling main first xs zs b d old

-- the reading of a block's stream, whatever the buffers held
abbrev pub reading_of_block : List ℕ → MarkedBytes
reading_of_block xs = with_marks (read_block xs) (erasures_of_block xs)

-- a reading of a block has 37,856 bytes. Of its marks nothing is asked: where there is none, the byte is not marked
pub record Sized (a : MarkedBytes) : Type 0 where
  pub bytes-sized : length a.bytes ≡ block_size
  pub is-bytes : Bytes a.bytes

pub record TwoReadings : Type 0 where
  pub row : {previous : Option ℕ} (main : List ℕ) (first info : ℕ) → Accepted previous main first info → (a b : MarkedBytes) → Sized a → Sized b → (q : ℕ) → q < row_count
      → T (is_poolable 10 (row_of (block main first info) q) (row_of_reading a q) (row_of_reading b q))
      → nearest_erased 10 (row_of (pooled a b).erasures q) (row_of (pooled a b).bytes q) ≡ row_of (block main first info) q
  pub back : {previous : Option ℕ} (main : List ℕ) (first info : ℕ) → Accepted previous main first info → (xs zs : List ℕ) → length xs ≡ stream_size → length zs ≡ stream_size
      → unpoolable_rows (block main first info) (reading_of_block xs) (reading_of_block zs) ≤ 8 → PooledOut main first xs zs
  pub damaged : (before : List BlockInput) (i : BlockInput) (after : List BlockInput)
      → let run = before ++ i ∷ after in
      let k = length before in
      AcceptedRun None run → (cs : List Bool) → T (permitted_run (run_blocks run) cs)
      → (xs zs : List ℕ) → length xs ≡ run_size (length run) → length zs ≡ run_size (length run) → Bytes xs → Bytes zs
      → clashing_rows (block_part (run_stream (run_blocks run) cs) k) (block_part xs k) (block_part zs k) ≤ 8
      → PooledOut i.main i.first (block_part xs k) (block_part zs k)

-- ---- and proved

module _ {previous : Option ℕ} (main : List ℕ) (first info : ℕ) (ok : Accepted previous main first info) (a b : MarkedBytes) (sa : Sized a) (sb : Sized b) where
  abbrev made : List ℕ
  made = block main first info

  abbrev both : MarkedBytes
  both = pooled a b

  both_length : length both.bytes ≡ block_size
  both_length = pooled-length a b ∙ sa.bytes-sized

  both_bytes : Bytes both.bytes
  both_bytes = pooled-bytes a b sa.is-bytes sb.is-bytes

  both_marks_length : length both.erasures ≡ block_size
  both_marks_length = pooled-erasures-length a b ∙ sa.bytes-sized

  -- a row that is as the row theorem asks is not far from the made one
  near : (q : ℕ) → q < row_count → T (is_poolable 10 (row_of made q) (row_of_reading a q) (row_of_reading b q)) → far_row both.bytes both.erasures made q ≡ false
  near q h t =
      let c = row_of made q in
      let n = row_length made q (block_length main first info ok) h in
      let x = row_length a.bytes q sa.bytes-sized h ∙ sym n in
      let y = row_length b.bytes q sb.bytes-sized h ∙ sym n in
      let load = pooled_load 10 c (row_of_reading a q) (row_of_reading b q) x y t in
      le-ltb 10 (2 * error_count (row_of both.erasures q) (row_of both.bytes q) c + erasure_count (row_of both.erasures q) row_size)
      (subst (λ (w : MarkedBytes). 2 * wrong_in c w + erasure_count w.erasures row_size ≤ 10) (sym (pooled_row a b sa.bytes-sized q h))
      (subst (λ (m : ℕ). 2 * wrong_in c (pooled (row_of_reading a q) (row_of_reading b q)) + erasure_count (pooled (row_of_reading a q) (row_of_reading b q)).erasures m ≤ 10) n load))

  pooled_row_back : (q : ℕ) → q < row_count → T (is_poolable 10 (row_of made q) (row_of_reading a q) (row_of_reading b q))
      → nearest_erased 10 (row_of both.erasures q) (row_of both.bytes q) ≡ row_of made q
  pooled_row_back q h t = row_back main first info ok both.bytes both.erasures both_length both_bytes q h (near q h t)

  far_unpoolable : far_rows both.bytes both.erasures made ≤ unpoolable_rows made a b
  unfolding far_rows unpoolable_rows
  far_unpoolable =
      count-order (far_row both.bytes both.erasures made) (λ q. not (is_poolable 10 (row_of made q) (row_of_reading a q) (row_of_reading b q))) 0 row_count
      (λ q h t. go q (omega arith) t (is_poolable 10 (row_of made q) (row_of_reading a q) (row_of_reading b q)) refl)
    where
      go : (q : ℕ) → q < row_count → T (far_row both.bytes both.erasures made q) → (p : Bool) → is_poolable 10 (row_of made q) (row_of_reading a q) (row_of_reading b q) ≡ p → T (not p)
      go q h t true e = subst T (near q h (truth_of (is_poolable 10 (row_of made q) (row_of_reading a q) (row_of_reading b q)) e)) t
      go q h t false e = tt

sized_block : (xs : List ℕ) → Sized (reading_of_block xs)
sized_block xs = record { bytes-sized = read_block_length xs; is-bytes = read_block_bytes xs }

module _ (xs zs : List ℕ) where
  read_sized : pool_sized (reading_of_block xs) (reading_of_block zs) ≡ true
  unfolding pool_sized
  read_sized =
      rw (
        eq-eqb (length (read_block xs)) block_size (read_block_length xs),
        eq-eqb (length (erasures_of_block xs)) block_size (marks_length xs),
        eq-eqb (length (read_block zs)) block_size (read_block_length zs),
        eq-eqb (length (erasures_of_block zs)) block_size (marks_length zs),
      )

  read_marks_fit : pool_marks_fit (reading_of_block xs) (reading_of_block zs) ≡ true
  unfolding pool_marks_fit
  read_marks_fit = rw (marks_fit_lem xs, marks_fit_lem zs)

  -- the call that pools refuses nothing,
  pool_answer_lem : pool_answer (reading_of_block xs) (reading_of_block zs) ≡ Ok tt
  unfolding pool_answer
  pool_answer_lem = rw (read_sized, read_marks_fit)

  -- and pools
  pool_after_lem : pool_after (reading_of_block xs) (reading_of_block zs) ≡ pooled (reading_of_block xs) (reading_of_block zs)
  unfolding pool_after
  pool_after_lem = rw (read_sized, read_marks_fit)

module _ {previous : Option ℕ} (main : List ℕ) (first info : ℕ) (ok : Accepted previous main first info) (xs zs : List ℕ) (wx : length xs ≡ stream_size) (wz : length zs ≡ stream_size) where
  pooled_out : unpoolable_rows (block main first info) (reading_of_block xs) (reading_of_block zs) ≤ 8 → PooledOut main first xs zs
  pooled_out few b d old lb ld l =
      let x = reading_of_block xs in
      let z = reading_of_block zs in
      let w = pooled x z in
      let sx = sized_block xs in
      let sz = sized_block zs in
      let e : reading_of xs b ≡ x = ap₂ with_marks (block_bytes≡read_block xs b wx lb) (block_erasures≡erasures_of_block xs b wx lb) in
      let f : reading_of zs d ≡ z = ap₂ with_marks (block_bytes≡read_block zs d wz ld) (block_erasures≡erasures_of_block zs d wz ld) in
      let left : pool_after (reading_of xs b) (reading_of zs d) ≡ w = ap₂ pool_after e f ∙ pool_after_lem xs zs in
      let near : far_rows w.bytes w.erasures (block main first info) ≤ 8 = omega (arith, far_unpoolable main first info ok x z sx sz, few) in
      let size = both_length main first info ok x z sx sz in
      let bytes = both_bytes main first info ok x z sx sz in
      let marks = both_marks_length main first info ok x z sx sz in
      record {
        sectors = λ k h. (call_number≡0 xs b wx lb k h, call_number≡0 zs d wz ld k h);
        pooling = ap answer_number (ap₂ pool_answer e f ∙ pool_answer_lem xs zs);
        answer =
            subst (λ (v : MarkedBytes). repair_answer v.bytes v.erasures (length old) ≡ Ok (record { first = first; tallies = tallies_of v.bytes v.erasures })) (sym left)
            (rw l (handed_out main first info ok w.bytes w.erasures size bytes near marks (pooled_marks_fit x z)));
        main_data =
            subst (λ (v : MarkedBytes). main_after v.bytes v.erasures old ≡ main) (sym left)
            (main_back main first info ok w.bytes w.erasures size bytes near marks (pooled_marks_fit x z) old l);
      }

-- ---- touched bytes

module _ {bs ys : List ℕ} (laid : LaidBlock bs ys) (r : ℕ) (hr : r < row_count) where
  -- a byte that is not touched in a reading is right and unmarked in it
  untouched_is_right : (xs : List ℕ) → Bytes xs → (i : ℕ) → i < row_size → touched ys xs (r * row_size + i) ≡ false → is_right (row_of bs r) (row_of_reading (reading_of_block xs) r) i ≡ true
  untouched_is_right xs hx i l t =
      rw (
        untouched_unmarked laid xs hx r hr i l t,
        eq-eqb (get_or (row_of (read_block xs) r) i 0) (get_or (row_of bs r) i 0) (untouched_right laid xs hx r hr i l t),
      )

  module _ (xs zs : List ℕ) (hx : Bytes xs) (hz : Bytes zs) where
    abbrev x : MarkedBytes
    x = row_of_reading (reading_of_block xs) r

    abbrev z : MarkedBytes
    z = row_of_reading (reading_of_block zs) r

    covered : (i : ℕ) → i < row_size → (touched ys xs (r * row_size + i) && touched ys zs (r * row_size + i)) ≡ false → T (is_right (row_of bs r) x i || is_right (row_of bs r) z i)
    covered i l e = go (touched ys xs (r * row_size + i)) refl (touched ys zs (r * row_size + i)) refl e
      where
        go : (t : Bool) → touched ys xs (r * row_size + i) ≡ t → (u : Bool) → touched ys zs (r * row_size + i) ≡ u → (t && u) ≡ false → T (is_right (row_of bs r) x i || is_right (row_of bs r) z i)
        go false q u p c = or_left (is_right (row_of bs r) x i) (is_right (row_of bs r) z i) (truth_of (is_right (row_of bs r) x i) (untouched_is_right xs hx i l q))
        go true q false p c = or_right (is_right (row_of bs r) x i) (is_right (row_of bs r) z i) (truth_of (is_right (row_of bs r) z i) (untouched_is_right zs hz i l p))
        go true q true p c = absurd (false≢true (sym c))

    -- a row that does not clash is as the row theorem asks
    unclashed : clashes ys xs zs r ≡ false → T (is_poolable 10 (row_of bs r) x z)
    unfolding clashes is_covered
    unclashed e =
        let apart = or_none (some_from (λ i. touched ys xs i && touched ys zs i) (r * row_size) row_size) (ltb 10 (touched_known_in ys xs r + touched_known_in ys zs r)) e in
        let n = row_length bs r laid.size hr in
        and_both (is_covered (row_of bs r) x z) (leb (wrong_in (row_of bs r) x + wrong_in (row_of bs r) z) 10)
        (below_all (length (row_of bs r)) (λ i. is_right (row_of bs r) x i || is_right (row_of bs r) z i)
        (λ i l. let m : i < row_size = omega (arith, n) in covered i m (none-at (λ i. touched ys xs i && touched ys zs i) (r * row_size) row_size apart.0 i m)))
        (truth_of (leb (wrong_in (row_of bs r) x + wrong_in (row_of bs r) z) 10)
        (le-leb (wrong_in (row_of bs r) x + wrong_in (row_of bs r) z) 10
        (omega (arith, errors≤touched laid xs hx r hr, errors≤touched laid zs hz r hr, ltb-false 10 (touched_known_in ys xs r + touched_known_in ys zs r) apart.1))))

-- at most as many rows are not as the row theorem asks as clash
unpoolable_clashing : {bs ys : List ℕ} → LaidBlock bs ys → (xs zs : List ℕ) → Bytes xs → Bytes zs → unpoolable_rows bs (reading_of_block xs) (reading_of_block zs) ≤ clashing_rows ys xs zs
unfolding unpoolable_rows clashing_rows
unpoolable_clashing {bs} {ys} laid xs zs hx hz =
    count-order (λ r. not (is_poolable 10 (row_of bs r) (row_of_reading (reading_of_block xs) r) (row_of_reading (reading_of_block zs) r))) (clashes ys xs zs) 0 row_count
    (λ r h t. go r (omega arith) t (clashes ys xs zs r) refl)
  where
    go : (r : ℕ) → r < row_count → T (not (is_poolable 10 (row_of bs r) (row_of_reading (reading_of_block xs) r) (row_of_reading (reading_of_block zs) r))) → (c : Bool) → clashes ys xs zs r ≡ c → T c
    go r h t true e = tt
    go r h t false e =
        subst (λ (p : Bool). T (not p))
        (truth (is_poolable 10 (row_of bs r) (row_of_reading (reading_of_block xs) r) (row_of_reading (reading_of_block zs) r)) (unclashed laid r h xs zs hx hz e)) t

pub two_readings : TwoReadings
two_readings = record {
  row = pooled_row_back;
  back = pooled_out;
  damaged = λ before i after ok cs p xs zs sx sz hx hz few.
      let n = length (before ++ i ∷ after) in
      let k = length before in
      let laid = run_part before i after cs ok p in
      pooled_out i.main i.first i.info (accepted_at None before i after ok) (block_part xs k) (block_part zs k) (part_length xs k n (in_run before i after) sx)
      (part_length zs k n (in_run before i after) sz)
      (omega (arith, unpoolable_clashing laid (block_part xs k) (block_part zs k) (part_bytes xs k hx) (part_bytes zs k hz), few));
}

-- ---- a reading pooled with itself

-- an unknown word is read as 0
unknown_read : (r : Option ℕ) → cond (is_unknown r) 0 (reading_byte r) ≡ reading_byte r
unknown_read (Some b) = refl
unknown_read None = refl

-- so that the sector reader's reading, pooled with itself, is that reading
pub read_pool_self : (xs : List ℕ) → pooled (reading_of_block xs) (reading_of_block xs) ≡ reading_of_block xs
unfolding zeroed read_at unknown_at
read_pool_self xs =
    pool_self (reading_of_block xs) (marks_length xs ∙ sym (read_block_length xs)) (marks_fit_lem xs)
    ∙ ap (λ (ys : List ℕ). with_marks ys (erasures_of_block xs))
    (sym (is-tabulate (λ i. cond (marked_at (reading_of_block xs) i) 0 (byte_at (reading_of_block xs) i)) (read_block xs) (length (read_block xs)) refl
    (λ i l. zero_where_marked i (omega (arith, read_block_length xs)))))
  where
    zero_where_marked : (i : ℕ) → i < block_size → byte_at (reading_of_block xs) i ≡ cond (marked_at (reading_of_block xs) i) 0 (byte_at (reading_of_block xs) i)
    zero_where_marked i l =
        let read = ap (λ (ys : List ℕ). get_or ys i 0) (read_block_lem xs) ∙ get_d_tabulate (read_at xs) block_size i l in
        let mark = ap (λ (ys : List ℕ). get_or ys i 0) (erasures_block xs) ∙ get_d_tabulate (λ i. bit (unknown_at xs i)) block_size i l in
        let marked = ap (λ (m : ℕ). eqb m 1) mark ∙ bit_test (unknown_at xs i) in
        read ∙ sym (unknown_read (reading_at xs i)) ∙ sym (ap₂ (λ (t : Bool) (x : ℕ). cond t 0 x) marked read)
