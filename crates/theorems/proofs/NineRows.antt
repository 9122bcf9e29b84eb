-- NINE HEAVY ROWS MAY BE ONE TOO MANY: demand 3 does not hold with nine in place of eight (document 02, request 11, for the lecture on parity).
--   nine_rows  For every block that the maker accepts and every list of permitted choices there is a stream with nine heavy rows of which the reader refuses nothing
--              and hands out other main data; for each block of a run too (nine_rows_in_run).
-- The argument. The main data with one byte changed in the last row of a frame, where EDC stands, make a block that differs in 17 rows: that one, and the 16 of outer
-- parity. Nine of these 17 rows are read as the other block's stream has them, all else as it was laid. From the block's own stream that is nine heavy rows; from
-- the other block it is eight rows, and those the columns mend. So the other block is read, and every check passes.
--
-- The definitions it is stated over are those of Demand.antt, and distance (lists/specs/Count).
-- Assumes nothing.
use mathlib.Core.Path.{◌≡◌, refl, sym, ap, subst, ◌∙◌}
use mathlib.Core.Bool.{Bool, true, false, false≢true, not, cond, ◌&&◌, ◌||◌}
use mathlib.Core.List.{List, ◌∷◌, ◌++◌, map}
use Prim.Native.Nat.{ℕ, ◌+◌, ◌*◌, ◌/◌, ◌%◌, ◌<◌, ◌≤◌}
use Rattle.std.specs.Prelude.{Option, None}
use native.Mathlib.Omega.{arith}
use borrow.Author.Tests.{eqb-false, leb-true, leb-false, le-ltb}
use lib.Dec.{T, eqb, ltb, leb}
use lib.ListN.{length, get_or, set, length-set}
use lib.Seq.{get_or-set_other}
use Rattle.lists.specs.Bytes.{Bytes}
use Rattle.lists.specs.Count.{distance}
use Rattle.lists.specs.Fill.{tabulate}
use Rattle.lists.proofs.Bytes.{get_or-byte, set-bytes, tabulate-bytes}
use Rattle.lists.proofs.Count.{count-last, count-order}
use Rattle.lists.proofs.Distance.{distance_self, distance-set}
use Rattle.lists.proofs.Fill.{length-tabulate, get_d_tabulate}
use Rattle.layout.specs.Lengths.{frame_rows, sector_rows, row_count, row_size, frame_stream, stream_size}
use Rattle.layout.specs.Rows.{original_row, row_of}
use Rattle.layout.specs.Sectors.{half_of, block_part}
use Rattle.layout.proofs.Order.{original_low}
use Rattle.eccblock.specs.Block.{block}
use Rattle.eccblock.specs.Encode.{Accepted}
use Rattle.eccblock.specs.Run.{BlockInput, AcceptedRun, run_blocks}
use Rattle.eccblock.proofs.Laws.{block_length, block_bytes_lem, block_row}
use Rattle.eccblock.proofs.Refusals.{accepted_facts}
use Rattle.reach.proofs.OneByte.{code_row_alike}
use Rattle.channel.specs.Block.{block_items, permitted_run, run_stream, permitted_choices, permitted_stream, read_block, erasures_of_block, touched, touched_in, heavy_rows}
use Rattle.channel.proofs.BitsTouched.{untouched_where}
use Rattle.channel.proofs.Order.{main_permitted}
use Rattle.channel.proofs.Rows.{LaidBlock, laid_alone, laid_bytes}
use Rattle.theorems.proofs.Chain.{far_row, far_rows}
use Rattle.theorems.proofs.Rows.{light_near}
use Rattle.theorems.proofs.Runs.{accepted_at, run_part}
use Rattle.theorems.proofs.Demand.{HandedOut, near_handed_out, laid_back}

-- ---- what is claimed

-- the stream ys of a block is misread: `damaged` is read in its place, nine of its rows are heavy, and what is handed out is the block's first number with main data
-- that differ from its own in one byte
pub record Misread (main : List ℕ) (first : ℕ) (ys : List ℕ) : Type 0 where
  pub damaged : List ℕ
  pub size : length damaged ≡ stream_size
  pub bytes : Bytes damaged
  pub nine_heavy : heavy_rows ys damaged ≡ 9
  pub other : List ℕ
  pub one_byte : distance main other ≡ 1
  pub handed_out : HandedOut other first damaged

-- ---- the other block

-- byte 1,880 of the main data is the first of the last row of frame 0: 11 · 172 - 12
abbrev spot : ℕ
spot = 1880

abbrev other_byte : List ℕ → ℕ
other_byte main = (get_or main spot 0 + 1) % 256

abbrev other_main : List ℕ → List ℕ
other_main main = set main spot (other_byte main)

-- a row of outer parity, one a sector
abbrev is_parity_row : ℕ → Bool
is_parity_row r = leb frame_rows (r % sector_rows)

-- of the seventeen rows in which the two blocks differ, the last of frame 0 and those of outer parity, the nine that are taken from the other block's stream, and the
-- eight that are left
abbrev is_taken : ℕ → Bool
is_taken r = eqb r 11 || (is_parity_row r && ltb r (8 * sector_rows))

abbrev is_left : ℕ → Bool
is_left r = is_parity_row r && not (ltb r (8 * sector_rows))

neither : (a b c : Bool) → (a || (b && c)) ≡ false → (b && not c) ≡ false → (a ≡ false) × (b ≡ false)
neither true b c e f = absurd (false≢true (sym e))
neither false true true e f = absurd (false≢true (sym e))
neither false true false e f = absurd (false≢true (sym f))
neither false false c e f = (refl, refl)

module _ {previous : Option ℕ} (main : List ℕ) (first info : ℕ) (ok : Accepted previous main first info) where
  abbrev own : List ℕ
  own = block main first info

  abbrev other : List ℕ
  other = block (other_main main) first info

  also : Accepted previous (other_main main) first info
  also = record {
    bytes = set-bytes main spot (other_byte main) ok.bytes (omega arith);
    byte = ok.byte;
    taken = rw (length-set main spot (other_byte main)) ok.taken;
  }

  one-byte_apart : distance main (other_main main) ≡ 1
  one-byte_apart = distance-set main spot (other_byte main) (omega (arith, (accepted_facts main first info ok).whole)) (λ e. omega (arith, e))

  -- in every other row they are alike
  rows_alike : (r : ℕ) → r < row_count → is_taken r ≡ false → is_left r ≡ false → row_of own r ≡ row_of other r
  rows_alike r h e f =
      let tests = neither (eqb r 11) (is_parity_row r) (ltb r (8 * sector_rows)) e f in
      let not_last = eqb-false r 11 tests.0 in
      let in_frame = leb-false frame_rows (r % sector_rows) tests.1 in
      let i : original_row r ≡ r / sector_rows * frame_rows + r % sector_rows = original_low r h in_frame in
      block_row main first info ok r h
      ∙ code_row_alike main (other_main main) first info ok also spot (λ k n. sym (get_or-set_other main spot k (other_byte main) 0 n)) (original_row r)
      (omega arith) (λ q. not_last (omega (arith, q))) (λ q. not_last (omega (arith, q)))
      ∙ sym (block_row (other_main main) first info also r h)

  -- ---- the stream that is read: nine rows of the other block's stream zs, and else the block's own stream ys

  -- a row is two Sync Frames
  abbrev row_stream : ℕ
  row_stream = 2 * frame_stream

  -- the place of a row's last byte
  abbrev last_byte : ℕ
  last_byte = 181

  module _ {ys zs : List ℕ} (laid : LaidBlock own ys) (laid-other : LaidBlock other zs) where
    abbrev mixed_at : ℕ → ℕ
    mixed_at b = get_or (cond (is_taken (b / row_stream)) zs ys) b 0

    abbrev mixed : List ℕ
    mixed = tabulate mixed_at stream_size

    mixed_length : length mixed ≡ stream_size
    mixed_length = length-tabulate mixed_at stream_size

    mixed_bytes : Bytes mixed
    mixed_bytes = tabulate-bytes mixed_at 0 stream_size (λ b. get_or-byte (cond (is_taken (b / row_stream)) zs ys) b (both (is_taken (b / row_stream))))
      where
        both : (t : Bool) → Bytes (cond t zs ys)
        both true = laid_bytes laid-other
        both false = laid_bytes laid

    as_laid : (b : ℕ) (t : Bool) → b < stream_size → is_taken (b / row_stream) ≡ t → get_or mixed b 0 ≡ get_or (cond t zs ys) b 0
    as_laid b t h e = get_d_tabulate mixed_at stream_size b h ∙ ap (λ (t : Bool). get_or (cond t zs ys) b 0) e

    -- the word of a byte and the half word after it stand in the byte's row, but for the last byte of the row
    in_row : (r c b : ℕ) → c < last_byte → 2 * half_of (r * row_size + c) ≤ b → b < 2 * half_of (r * row_size + c) + 4 → b / row_stream ≡ r
    in_row r c b h l m = omega arith

    in_stream : (r c b : ℕ) → r < row_count → c < last_byte → b < 2 * half_of (r * row_size + c) + 4 → b < stream_size
    in_stream r c b h l m = omega arith

    -- so at most the last byte of a row is touched, of the nine against the other block's stream, of the rest against the block's own
    light : (r : ℕ) (t : Bool) → r < row_count → is_taken r ≡ t → touched_in (cond t zs ys) mixed r ≤ 1
    unfolding touched_in
    light r t h e =
        count-last (touched (cond t zs ys) mixed) (r * row_size) last_byte
        (λ c l. untouched_where (cond t zs ys) mixed (r * row_size + c) (λ b m n. as_laid b t (in_stream r c b h l n) (ap is_taken (in_row r c b l m n) ∙ e)))

    -- at most nine rows are heavy,
    at_most_nine : heavy_rows ys mixed ≤ 9
    unfolding heavy_rows
    at_most_nine = count-order (λ r. ltb 5 (touched_in ys mixed r)) is_taken 0 row_count (λ r h t. go r (omega arith) t (is_taken r) refl)
      where
        go : (r : ℕ) → r < row_count → T (ltb 5 (touched_in ys mixed r)) → (b : Bool) → is_taken r ≡ b → T b
        go r h t true e = tt
        go r h t false e = subst T (le-ltb 5 (touched_in ys mixed r) (omega (arith, light r false h e))) t

    -- and at most eight are far from the other block's
    near : (r : ℕ) → r < row_count → is_left r ≡ false → far_row (read_block mixed) (erasures_of_block mixed) other r ≡ false
    near r h f = go (is_taken r) refl
      where
        go : (b : Bool) → is_taken r ≡ b → far_row (read_block mixed) (erasures_of_block mixed) other r ≡ false
        go true e = light_near laid-other mixed mixed_bytes r h (omega (arith, light r true h e))
        go false e = rw (← rows_alike r h e f) (light_near laid mixed mixed_bytes r h (omega (arith, light r false h e)))

    at_most_eight : far_rows (read_block mixed) (erasures_of_block mixed) other ≤ 8
    unfolding far_rows
    at_most_eight = count-order (far_row (read_block mixed) (erasures_of_block mixed) other) is_left 0 row_count (λ r h t. go r (omega arith) t (is_left r) refl)
      where
        go : (r : ℕ) → r < row_count → T (far_row (read_block mixed) (erasures_of_block mixed) other r) → (b : Bool) → is_left r ≡ b → T b
        go r h t true e = tt
        go r h t false e = subst T (near r h e) t

    other_out : HandedOut (other_main main) first mixed
    other_out = near_handed_out (other_main main) first info also mixed mixed_length at_most_eight

    -- with eight heavy rows demand 3 would have the block's own main data handed out
    nine : heavy_rows ys mixed ≡ 9
    nine = go (leb (heavy_rows ys mixed) 8) refl
      where
        never : heavy_rows ys mixed ≤ 8 → ⊥
        never few =
            let whole = (accepted_facts main first info ok).whole in
            let back = (laid_back main first info ok mixed mixed_length laid mixed_bytes few).whole_main_data main whole in
            let same : other_main main ≡ main = sym (other_out.whole_main_data main whole) ∙ back in
            omega (arith, one-byte_apart, ap (distance main) same, distance_self main)

        go : (b : Bool) → leb (heavy_rows ys mixed) 8 ≡ b → heavy_rows ys mixed ≡ 9
        go true e = absurd (never (leb-true (heavy_rows ys mixed) 8 e))
        go false e = omega (arith, leb-false (heavy_rows ys mixed) 8 e, at_most_nine)

  -- the other block's stream with the main words
  plain : LaidBlock other (permitted_stream other (map (λ i. false) (block_items other)))
  plain =
      laid_alone other (map (λ i. false) (block_items other)) (block_length (other_main main) first info also) (block_bytes_lem (other_main main) first info also)
      (main_permitted 1 0 (block_items other))

  -- wherever in a run the block was laid
  laid_misread : {ys : List ℕ} → LaidBlock own ys → Misread main first ys
  laid_misread laid = record {
    damaged = mixed laid plain;
    size = mixed_length laid plain;
    bytes = mixed_bytes laid plain;
    nine_heavy = nine laid plain;
    other = other_main main;
    one_byte = one-byte_apart;
    handed_out = other_out laid plain;
  }

-- ---- and proved

pub nine_rows : {previous : Option ℕ} (main : List ℕ) (first info : ℕ) → Accepted previous main first info → (cs : List Bool)
    → T (permitted_choices (block main first info) cs) → Misread main first (permitted_stream (block main first info) cs)
nine_rows main first info ok cs p =
    laid_misread main first info ok (laid_alone (block main first info) cs (block_length main first info ok) (block_bytes_lem main first info ok) p)

pub nine_rows_in_run : (before : List BlockInput) (i : BlockInput) (after : List BlockInput)
    → let run = before ++ i ∷ after in
    AcceptedRun None run → (cs : List Bool) → T (permitted_run (run_blocks run) cs)
    → Misread i.main i.first (block_part (run_stream (run_blocks run) cs) (length before))
nine_rows_in_run before i after ok cs p = laid_misread i.main i.first i.info (accepted_at None before i after ok) (run_part before i after cs ok p)
