-- Rows, columns and frames of a block buffer, byte by byte: their lengths, where each byte stands, and that no two stand in one place.
-- Assumes nothing.
use mathlib.Core.Path.{◌≡◌, sym, ap, ◌∙◌}
use mathlib.Core.List.{List}
use mathlib.Core.Logic.{◌≢◌}
use Prim.Native.Nat.{ℕ, ◌+◌, ◌*◌, ◌-◌, ◌/◌, ◌%◌, ◌<◌, ◌≤◌}
use native.Mathlib.Omega.{arith}
use borrow.Author.Tests.{ltb-true}
use lib.Dec.{ltb}
use lib.ListN.{length, get_or, take, drop, length-drop}
use lib.Seq.{sets, get_or-take, get_or-drop, length-take-le}
use Rattle.lists.specs.Bytes.{Bytes}
use Rattle.lists.specs.Fill.{tabulate}
use Rattle.lists.proofs.Bytes.{bytes_of, take-bytes, drop-bytes, tabulate-bytes}
use Rattle.lists.proofs.Test.{truth, below_at}
use Rattle.lists.proofs.Fill.{Upto, length-tabulate, get_d_tabulate, is-tabulate}
use Rattle.octets.specs.Inner.{Stored, following}
use Rattle.octets.proofs.Copies.{sets_all, put_stored, upto_row}
use Rattle.layout.specs.Sectors.{frame_codes, code_of}
use Rattle.layout.specs.Lengths.{frame_size, block_size, row_count, row_size, column_count}
use Rattle.layout.specs.Rows.{recording_row, original_row, row_of, column_of, frame_of}
use Rattle.layout.specs.Inner.{row_place, column_place, frame_place}
use Rattle.layout.proofs.Order.{recording_lt, recording_row_lem, original_recording}

-- ---- rows

pub row_length : (xs : List ℕ) (q : ℕ) → length xs ≡ block_size → q < row_count → length (row_of xs q) ≡ row_size
row_length xs q e h = length-take-le row_size (drop (q * row_size) xs) (rw length-drop (omega arith))

pub row_bytes : (xs : List ℕ) → ((k : ℕ) → get_or xs k 0 < 256) → (q : ℕ) → Bytes (row_of xs q)
row_bytes xs h q = take-bytes row_size (drop (q * row_size) xs) (drop-bytes (q * row_size) xs (bytes_of xs (λ k l. h k)))

pub row_byte : (xs : List ℕ) (q i : ℕ) → i < row_size → get_or (row_of xs q) i 0 ≡ get_or xs (row_place q i) 0
row_byte xs q i l = get_or-take row_size (drop (q * row_size) xs) i 0 l ∙ get_or-drop (q * row_size) xs i 0

-- the part of a block that is taken out as a row
pub row_part : (xs : List ℕ) (q : ℕ) → length xs ≡ block_size → q < row_count → length (take (q * row_size + row_size - q * row_size) (drop (q * row_size) xs)) ≡ row_size
row_part xs q e h = let n : q * row_size + row_size - q * row_size ≡ row_size = omega arith in rw n (row_length xs q e h)

pub row_put : (xs : List ℕ) (q : ℕ) (old : List ℕ) → length xs ≡ block_size → q < row_count → length old ≡ row_size
    → sets old 0 (take (q * row_size + row_size - q * row_size) (drop (q * row_size) xs)) ≡ row_of xs q
row_put xs q old e h l = let n : q * row_size + row_size - q * row_size ≡ row_size = omega arith in rw n (sets_all (row_of xs q) old (row_length xs q e h ∙ sym l))

-- ---- columns

pub column_length : (xs : List ℕ) (j : ℕ) → length (column_of xs j) ≡ row_count
unfolding column_of
column_length xs j = length-tabulate (λ i. get_or xs (recording_row i * row_size + j) 0) row_count

pub column_byte : (xs : List ℕ) (j i : ℕ) → i < row_count → get_or (column_of xs j) i 0 ≡ get_or xs (recording_row i * row_size + j) 0
unfolding column_of
column_byte xs j i h = get_d_tabulate (λ i. get_or xs (recording_row i * row_size + j) 0) row_count i h

pub column_bytes : (xs : List ℕ) → ((k : ℕ) → get_or xs k 0 < 256) → (j : ℕ) → Bytes (column_of xs j)
unfolding column_of
column_bytes xs h j = tabulate-bytes (λ i. get_or xs (recording_row i * row_size + j) 0) 0 row_count (λ i. h (recording_row i * row_size + j))

-- n bytes of a column, from byte i on
pub column_part : (xs : List ℕ) (i j n : ℕ) → i + n ≤ row_count → tabulate (λ k. get_or xs (column_place j (i + k)) 0) n ≡ take n (drop i (column_of xs j))
column_part xs i j n h =
    let part : List ℕ = take n (drop i (column_of xs j)) in
    let size : length part ≡ n = length-take-le n (drop i (column_of xs j)) (rw length-drop (omega (arith, column_length xs j))) in
    sym (is-tabulate (λ k. get_or xs (column_place j (i + k)) 0) part n size
    (λ k l. get_or-take n (drop i (column_of xs j)) k 0 l ∙ get_or-drop i (column_of xs j) k 0 ∙ column_byte xs j (i + k) (omega arith)))

-- no two bytes of a column stand in one place
pub column_apart : (j i k : ℕ) → i < k → k < row_count → column_place j i ≢ column_place j k
column_apart j i k h l e =
    let s : recording_row i ≡ recording_row k = omega (arith, e) in
    let t = sym (original_recording i (omega arith)) ∙ ap original_row s ∙ original_recording k l in
    omega (arith, t)

pub column_lt : (j i : ℕ) → j < column_count → i < row_count → column_place j i < block_size
column_lt j i h l = omega (arith, recording_lt i l)

-- ---- frames

pub frame_length : (xs : List ℕ) (k : ℕ) → length (frame_of xs k) ≡ frame_size
unfolding frame_of
frame_length xs k = length-tabulate (λ q. get_or xs (recording_row (12 * k + q / column_count) * row_size + q % column_count) 0) frame_size

pub frame_byte_lem : (xs : List ℕ) (k q : ℕ) → q < frame_size → get_or (frame_of xs k) q 0 ≡ get_or xs (recording_row (12 * k + q / column_count) * row_size + q % column_count) 0
unfolding frame_of
frame_byte_lem xs k q h = get_d_tabulate (λ q. get_or xs (recording_row (12 * k + q / column_count) * row_size + q % column_count) 0) frame_size q h

-- row r of a frame
pub frame_row : (k r j : ℕ) → j < column_count → frame_place k (column_count * r + j) ≡ frame_place k (column_count * r) + j
frame_row k r j h =
    let a : (column_count * r + j) / column_count ≡ r = omega arith in
    let b : (column_count * r + j) % column_count ≡ j = omega arith in
    let c : column_count * r / column_count ≡ r = omega arith in
    let d : column_count * r % column_count ≡ 0 = omega arith in
    rw (a, b, c, d) (omega arith)

pub frame_apart : (k i q : ℕ) → i < q → frame_place k i ≢ frame_place k q
frame_apart k i q h e = omega arith

-- row r of frame k
pub frame_place_lem : (k r j : ℕ) → j < column_count → (13 * k + r) * row_size + j ≡ frame_place k (column_count * r + j)
frame_place_lem k r j h =
    let a : (column_count * r + j) / column_count ≡ r = omega arith in
    let b : (column_count * r + j) % column_count ≡ j = omega arith in
    rw (a, b)

-- byte q of frame k of a block buffer
pub frame_of_byte : (xs : List ℕ) (k q : ℕ) → k < 16 → q < frame_size → get_or xs (frame_place k q) 0 ≡ get_or xs (recording_row (12 * k + q / column_count) * row_size + q % column_count) 0
frame_of_byte xs k q h l = ap (λ (x : ℕ). get_or xs (x * row_size + q % column_count) 0) (sym (recording_row_lem k (q / column_count) h (omega arith)))

-- one row more of a frame that is read
pub frame_read :
    (xs : List ℕ) (k r : ℕ) (old mid new : List ℕ) → length xs ≡ block_size → k < 16 → r < 12 → length old ≡ frame_size
    → new ≡ sets mid (column_count * r) (take ((13 * k + r) * row_size + column_count - (13 * k + r) * row_size) (drop ((13 * k + r) * row_size) xs))
    → Upto (λ q. get_or xs (recording_row (12 * k + q / column_count) * row_size + q % column_count) 0) old mid (column_count * r)
    → Upto (λ q. get_or xs (recording_row (12 * k + q / column_count) * row_size + q % column_count) 0) old new (column_count * (r + 1))
frame_read xs k r old mid new len hk hr lo z w =
    let a : ℕ = (13 * k + r) * row_size in
    let part : List ℕ = take column_count (drop a xs) in
    let e : a + column_count - a ≡ column_count = omega arith in
    let l : length part ≡ column_count = length-take-le column_count (drop a xs) (rw length-drop (omega arith)) in
    let n : column_count * (r + 1) ≡ column_count * r + column_count = omega arith in
    let put : new ≡ sets mid (column_count * r) part = z ∙ ap (λ (m : ℕ). sets mid (column_count * r) (take m (drop a xs))) e in
    let stored : Stored (following (column_count * r)) part mid new column_count = put_stored part mid new (column_count * r) column_count l (omega (arith, w.same)) put in
    rw n
    (upto_row (λ q. get_or xs (recording_row (12 * k + q / column_count) * row_size + q % column_count) 0) old mid new part (column_count * r) column_count
    (λ j m. get_or-take column_count (drop a xs) j 0 m ∙ get_or-drop a xs j 0 ∙ ap (λ (x : ℕ). get_or xs x 0) (frame_place_lem k r j m)
    ∙ frame_of_byte xs k (column_count * r + j) hk (omega arith)) w stored)

-- ---- SYNC Codes

-- SY0 to SY7
pub code_small : (f : ℕ) → code_of f < 8
unfolding code_of frame_codes
code_small f = ltb-true (code_of f) 8 (truth (ltb (code_of f) 8) (below_at 26 (λ k. ltb (get_or frame_codes k 0) 8) tt (f % 26) (omega arith)))
