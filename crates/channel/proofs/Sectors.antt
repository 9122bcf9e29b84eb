-- Sixteen readings of a sector are one reading of the block: its half words, words, bytes and marks (part_half, part_reading, part_read, part_unknown), all of them
-- and row by row (each_sector_lem, read_block_lem, erasures_block, each_row, read_row, erasures_row). A row's touched bytes are its unknown words and the other touched
-- ones (row_touched), so that an overloaded row is heavy (overloaded_heavy). A block's stream as it was laid is read as its block (reads_whole).
-- Assumes nothing.
use mathlib.Core.Path.{◌≡◌, refl, sym, ap, ap₂, ◌∙◌}
use mathlib.Core.List.{List, ◌++◌}
use Prim.Native.Nat.{ℕ, zero, suc, ◌+◌, ◌*◌, ◌<◌, ◌≤◌}
use native.Mathlib.Omega.{arith}
use lib.Dec.{ltb, ltb→lt, lt→ltb}
use lib.ListN.{get_or, take, drop}
use lib.Seq.{get_or-take, get_or-drop}
use Rattle.lists.specs.Bytes.{Bytes}
use Rattle.lists.specs.Count.{bit}
use Rattle.lists.specs.Fill.{tabulate_from, tabulate}
use Rattle.lists.proofs.Count.{count-order, count_split}
use Rattle.lists.proofs.Fill.{is-tabulate, tabulate-same, tabulate-append, part_tabulate}
use Rattle.annexg.specs.Read.{read_word}
use Rattle.layout.specs.Lengths.{sector_size, sector_stream, sector_read, sector_count, row_size, row_count, block_size}
use Rattle.channel.specs.Block.{reading_at, reading_byte, read_at, is_unknown, unknown_at, each_sector, read_block, erasures_of_block}
use Rattle.channel.specs.Block.{touched, touched_in, heavy_rows, unknown_in, touched_known_in, overloaded, overloaded_rows}
use Rattle.layout.specs.Sectors.{half_of, sector_part}
use Rattle.octets.specs.Halves.{half_at}
use Rattle.layout.specs.Rows.{row_of}
use Rattle.channel.proofs.BitsTouched.{untouched}
use Rattle.channel.proofs.Rows.{LaidBlock, laid_bytes, reading, reading_known}

part_at : (xs : List ℕ) (a j : ℕ) → j < sector_read → get_or (take sector_read (drop a xs)) j 0 ≡ get_or xs (a + j) 0
part_at xs a j h = get_or-take sector_read (drop a xs) j 0 h ∙ get_or-drop a xs j 0

pub part_half : (xs : List ℕ) (k j : ℕ) → j < 2419 → half_at (sector_part xs k) j ≡ half_at xs (2418 * k + j)
unfolding half_at
part_half xs k j h =
    ap₂ (λ (x y : ℕ). x * 256 + y)
    (part_at xs (sector_stream * k) (2 * j) (omega arith) ∙ ap (λ (x : ℕ). get_or xs x 0) (omega arith))
    (part_at xs (sector_stream * k) (2 * j + 1) (omega arith) ∙ ap (λ (x : ℕ). get_or xs x 0) (omega arith))

pub half_of_lem : (k i : ℕ) → 2418 * k + half_of i ≡ half_of (sector_size * k + i)
half_of_lem k i = omega arith

pub half_small : (i : ℕ) → i < sector_size → half_of i < 2418
half_small i h = omega arith

module _ (xs : List ℕ) (k i : ℕ) (h : i < sector_size) where
  part_reading : reading_at (sector_part xs k) i ≡ reading_at xs (sector_size * k + i)
  part_reading =
      let a = half_of_lem k i in
      let b : 2418 * k + (half_of i + 1) ≡ half_of (sector_size * k + i) + 1 = omega (arith, a) in
      let s = half_small i h in
      ap₂ read_word
      (part_half xs k (half_of i) (omega (arith, s)) ∙ ap (half_at xs) a)
      (part_half xs k (half_of i + 1) (omega (arith, s)) ∙ ap (half_at xs) b)

  pub part_read : read_at (sector_part xs k) i ≡ read_at xs (sector_size * k + i)
  unfolding read_at
  part_read = ap reading_byte part_reading

  pub part_unknown : unknown_at (sector_part xs k) i ≡ unknown_at xs (sector_size * k + i)
  unfolding unknown_at
  part_unknown = ap is_unknown part_reading

-- an f of a sector and a place in it that is f of the block's stream and the place there
module _ (xs : List ℕ) (f : List ℕ → ℕ → ℕ) (part : (k i : ℕ) → i < sector_size → f (sector_part xs k) i ≡ f xs (sector_size * k + i)) where
  each_sector_lem : (n k : ℕ) → each_sector (λ ys. tabulate (f ys) sector_size) xs k n ≡ tabulate_from (f xs) (sector_size * k) (sector_size * n)
  unfolding each_sector
  each_sector_lem zero k = unfold tabulate_from in refl
  each_sector_lem (suc n) k =
      let next : sector_size * suc k ≡ sector_size * k + sector_size = omega arith in
      let more : sector_size + sector_size * n ≡ sector_size * suc n = omega arith in
      ap₂ (λ (x y : List ℕ). x ++ y)
      (tabulate-same (f (sector_part xs k)) (f xs) 0 (sector_size * k) sector_size (λ i h. ap (f (sector_part xs k)) (omega arith) ∙ part k i h))
      (each_sector_lem n (suc k) ∙ ap (λ (x : ℕ). tabulate_from (f xs) x (sector_size * n)) next)
      ∙ tabulate-append (f xs) (sector_size * k) sector_size (sector_size * n) ∙ ap (tabulate_from (f xs) (sector_size * k)) more

  each_row : (r : ℕ) → r < row_count → row_of (each_sector (λ ys. tabulate (f ys) sector_size) xs 0 sector_count) r ≡ tabulate_from (f xs) (r * row_size) row_size
  each_row r h =
      ap (λ (x : List ℕ). row_of x r) (each_sector_lem sector_count 0)
      ∙ part_tabulate (f xs) 0 (r * row_size) row_size block_size (omega arith) ∙ ap (λ (x : ℕ). tabulate_from (f xs) x row_size) (omega arith)

module _ (xs : List ℕ) where
  -- sixteen sector readings are one reading of the block, byte by byte
  pub read_block_lem : read_block xs ≡ tabulate (read_at xs) block_size
  read_block_lem = each_sector_lem xs read_at (part_read xs) sector_count 0

  pub read_row : (r : ℕ) → r < row_count → row_of (read_block xs) r ≡ tabulate_from (read_at xs) (r * row_size) row_size
  read_row = each_row xs read_at (part_read xs)

  -- and so are their marks
  marks_part : (k i : ℕ) → i < sector_size → bit (unknown_at (sector_part xs k) i) ≡ bit (unknown_at xs (sector_size * k + i))
  marks_part k i h = ap bit (part_unknown xs k i h)

  pub erasures_block : erasures_of_block xs ≡ tabulate (λ i. bit (unknown_at xs i)) block_size
  erasures_block = each_sector_lem xs (λ ys i. bit (unknown_at ys i)) marks_part sector_count 0

  pub erasures_row : (r : ℕ) → r < row_count → row_of (erasures_of_block xs) r ≡ tabulate_from (λ i. bit (unknown_at xs i)) (r * row_size) row_size
  erasures_row = each_row xs (λ ys i. bit (unknown_at ys i)) marks_part

module _ {bs ys : List ℕ} (m : LaidBlock bs ys) (xs : List ℕ) (hx : Bytes xs) where
  -- the touched bytes of a row are its unknown words and the others that are touched: e + f
  pub row_touched : (r : ℕ) → r < row_count → touched_known_in ys xs r + unknown_in xs r ≡ touched_in ys xs r
  unfolding touched_known_in unknown_in touched_in
  row_touched r hr = count_split (unknown_at xs) (touched ys xs) (r * row_size) row_size (λ i l. reading_known m xs hx i (omega arith))

  -- with at most five touched bytes 2e + f is at most ten
  pub overloaded_heavy : overloaded_rows ys xs ≤ heavy_rows ys xs
  unfolding overloaded_rows heavy_rows
  overloaded_heavy =
      count-order (overloaded ys xs) (λ r. ltb 5 (touched_in ys xs r)) 0 row_count
      (λ r h t. lt→ltb 5 (touched_in ys xs r) (omega (arith, ltb→lt, row_touched r (omega arith))))

-- a block's stream as it was laid is read as its block
pub reads_whole : {bs ys : List ℕ} → LaidBlock bs ys → read_block ys ≡ bs
reads_whole {bs} {ys} m = read_block_lem ys ∙ sym (is-tabulate (read_at ys) bs block_size m.size (λ i h. sym (reading m ys (laid_bytes m) i h (untouched ys i))))
