-- The sixteen sectors as the loop reads them.
-- Assumes nothing.
use mathlib.Core.Path.{◌≡◌, sym, ap, ◌∙◌, subst}
use mathlib.Core.Bool.{Bool, true, cond}
use mathlib.Core.List.{List, ◌++◌}
use mathlib.Core.Logic.{dite}
use Prim.Native.Nat.{ℕ, suc, ◌+◌, ◌-◌, ◌*◌, ◌<◌, ◌≤◌}
use native.Mathlib.Decide.{ℕ_discrete}
use native.Mathlib.Numerals.{add-one}
use native.Mathlib.Omega.{arith}
use lib.ListN.{length, get_or, take, drop, length-append, length-drop, get_or-append}
use lib.Seq.{get_or-take, get_or-drop, drop-drop, get_or-append-add, length-take-le}
use Rattle.lists.specs.Count.{bit}
use Rattle.lists.proofs.Count.{count-le}
use Rattle.lists.proofs.Fill.{Upto, upto_all, length-tabulate, get_d_tabulate}
use Rattle.channel.specs.Block.{read_at, read_sector, read_block, unknown_at, erasures_of_sector, erasures_of_block}
use Rattle.layout.specs.Sectors.{sector_part}
use Rattle.channel.proofs.Sectors.{part_read, part_unknown, read_block_lem, erasures_block}
use Rattle.reader.specs.Sector.{lost_sync, unknown_tally, sync_tally, sector_tally, sector_fits, sector_answer, sector_after, erasures_after}
use Rattle.refusals.specs.declared.Refusal.{Refusal}
use Rattle.reader.specs.declared.SectorTally.{SectorTally}
use Rattle.std.specs.Prelude.{Result, Ok}
use Rattle.reader.proofs.Calls.{part_fits, part_answer≡tallies}
use Rattle.layout.specs.Lengths.{block_size, sector_size, sector_read, sector_stream, stream_size}
use Rattle.blockreader.specs.BlockReader.{sector_sum}

-- a part of a buffer that becomes f's, right after what is f's already
pub upto_part : (f : ℕ → ℕ) (old xs new : List ℕ) (a n : ℕ) → a + n ≤ length xs → length new ≡ n → ((i : ℕ) → i < n → get_or new i 0 ≡ f (a + i))
    → Upto f old xs a → Upto f old (take a xs ++ (new ++ drop (a + n) xs)) (a + n)
upto_part f old xs new a n h l e w = record {
  same = length-append (take a xs) (new ++ drop (a + n) xs)
      ∙ omega (arith, la, length-append new (drop (a + n) xs), length-drop (a + n) xs, w.same);
  done = λ k i. dite (ℕ_discrete (1 - (a - k)) 0)
      (λ q. get_or-append (take a xs) (new ++ drop (a + n) xs) 0 k (omega (arith, la, q)) ∙ get_or-take a xs k 0 (omega (arith, q)) ∙ w.done k (omega (arith, q)))
      (λ q.
      let m : k ≡ length (take a xs) + (k - a) = omega (arith, la, q) in
      ap (λ (x : ℕ). get_or (take a xs ++ (new ++ drop (a + n) xs)) x 0) m ∙ get_or-append-add (take a xs) (new ++ drop (a + n) xs) (k - a) 0
      ∙ get_or-append new (drop (a + n) xs) 0 (k - a) (omega (arith, q)) ∙ e (k - a) (omega (arith, q)) ∙ ap f (omega (arith, q)));
  left = λ k i.
      let m : k ≡ length (take a xs) + (length new + (k - (a + n))) = omega (arith, la) in
      ap (λ (x : ℕ). get_or (take a xs ++ (new ++ drop (a + n) xs)) x 0) m ∙ get_or-append-add (take a xs) (new ++ drop (a + n) xs) (length new + (k - (a + n))) 0
      ∙ get_or-append-add new (drop (a + n) xs) (k - (a + n)) 0 ∙ get_or-drop (a + n) xs (k - (a + n)) 0 ∙ ap (λ (x : ℕ). get_or xs x 0) (omega arith) ∙ w.left k (omega arith);
}
  where
    la : length (take a xs) ≡ a
    la = length-take-le a xs (omega arith)

-- the same as a call leaves the buffer to which the part was lent
pub upto_put : (f : ℕ → ℕ) (old xs new : List ℕ) (a n m e : ℕ) → m ≡ n → e ≡ a + n → a + n ≤ length xs → length new ≡ n → ((i : ℕ) → i < n → get_or new i 0 ≡ f (a + i))
    → Upto f old xs a → Upto f old (take a xs ++ (new ++ drop m (drop a xs))) e
upto_put f old xs new a n m e q z h l w u =
    subst (λ (j : ℕ). Upto f old (take a xs ++ (new ++ drop m (drop a xs))) j) (sym z)
    (subst (λ (r : List ℕ). Upto f old (take a xs ++ (new ++ r)) (a + n)) (sym (ap (λ (j : ℕ). drop j (drop a xs)) q ∙ drop-drop n a xs)) (upto_part f old xs new a n h l w u))

pub unknown_le : (xs : List ℕ) → unknown_tally xs ≤ sector_size
unfolding unknown_tally
unknown_le xs = count-le (unknown_at xs) 0 sector_size

pub sync-le : (xs : List ℕ) → sync_tally xs ≤ 26
unfolding sync_tally
sync-le xs = count-le (lost_sync xs) 0 26

-- the mark of byte i
abbrev pub mark_at : List ℕ → ℕ → ℕ
mark_at xs i = bit (unknown_at xs i)

-- the parts that are lent for sector k: of the stream, and of a buffer of a block
pub part_is : (xs : List ℕ) (k : ℕ) → take (sector_stream * k + sector_read - sector_stream * k) (drop (sector_stream * k) xs) ≡ sector_part xs k
part_is xs k =
    let e : sector_stream * k + sector_read - sector_stream * k ≡ sector_read = omega arith in
    ap (λ (n : ℕ). take n (drop (sector_stream * k) xs)) e

pub part_sized : (ys : List ℕ) (k : ℕ) → k < 16 → length ys ≡ block_size → length (take (sector_size * k + sector_size - sector_size * k) (drop (sector_size * k) ys)) ≡ sector_size
part_sized ys k hk l =
    let e : sector_size * k + sector_size - sector_size * k ≡ sector_size = omega arith in
    ap (λ (n : ℕ). length (take n (drop (sector_size * k) ys))) e ∙ length-take-le sector_size (drop (sector_size * k) ys) (rw length-drop (omega (arith, l)))

-- sector k of a block's stream, as its part is lent
module _ (xs part : List ℕ) (k : ℕ) (hk : k < 16) (whole : length xs ≡ stream_size) (e : part ≡ sector_part xs k) where
  fits : (n m : ℕ) → n ≡ sector_size → m ≡ sector_size → sector_fits part n m ≡ true
  fits n m hn hm = ap (λ (x : List ℕ). sector_fits x n m) e ∙ part_fits xs whole k n m hk hn hm

  -- its buffers of n and m bytes hold what is read of the block
  pub sector_bytes : (old : List ℕ) (m : ℕ) → length old ≡ sector_size → m ≡ sector_size → (i : ℕ) → i < sector_size → get_or (sector_after part old m) i 0 ≡ read_at xs (sector_size * k + i)
  unfolding sector_after
  sector_bytes old m hn hm i h =
      ap (λ (t : Bool). get_or (cond t (read_sector part) old) i 0) (fits (length old) m hn hm) ∙ get_d_tabulate (read_at part) sector_size i h
      ∙ ap (λ (x : List ℕ). read_at x i) e ∙ part_read xs k i h

  pub sector_length : (old : List ℕ) (m : ℕ) → length old ≡ sector_size → m ≡ sector_size → length (sector_after part old m) ≡ sector_size
  unfolding sector_after
  sector_length old m hn hm = ap (λ (t : Bool). length (cond t (read_sector part) old)) (fits (length old) m hn hm) ∙ length-tabulate (read_at part) sector_size

  pub sector_erasures :
      (n : ℕ) (old : List ℕ) → n ≡ sector_size → length old ≡ sector_size → (i : ℕ) → i < sector_size → get_or (erasures_after part n old) i 0 ≡ mark_at xs (sector_size * k + i)
  unfolding erasures_after
  sector_erasures n old hn hm i h =
      ap (λ (t : Bool). get_or (cond t (erasures_of_sector part) old) i 0) (fits n (length old) hn hm) ∙ get_d_tabulate (mark_at part) sector_size i h
      ∙ ap (λ (x : List ℕ). mark_at x i) e ∙ ap bit (part_unknown xs k i h)

  pub erasures-length : (n : ℕ) (old : List ℕ) → n ≡ sector_size → length old ≡ sector_size → length (erasures_after part n old) ≡ sector_size
  unfolding erasures_after
  erasures-length n old hn hm = ap (λ (t : Bool). length (cond t (erasures_of_sector part) old)) (fits n (length old) hn hm) ∙ length-tabulate (mark_at part) sector_size

  -- it is not refused: the answer has its two tallies
  pub sector_tallies : (n m : ℕ) (r : Result SectorTally Refusal) → n ≡ sector_size → m ≡ sector_size → r ≡ sector_answer part n m → r ≡ Ok (sector_tally (sector_part xs k))
  sector_tallies n m r hn hm q = q ∙ ap (λ (x : List ℕ). sector_answer x n m) e ∙ part_answer≡tallies xs whole k n m hk hn hm

  pub tally_is : (n m : ℕ) (r : Result SectorTally Refusal) (t : SectorTally) → n ≡ sector_size → m ≡ sector_size → r ≡ sector_answer part n m → r ≡ Ok t
      → t ≡ sector_tally (sector_part xs k)
  tally_is n m r t hn hm q o = let z = sector_tallies n m r hn hm q in cc

pub sum_next : (f : List ℕ → ℕ) (xs : List ℕ) (k : ℕ) → k < 16 → sector_sum f xs k (16 - k) ≡ f (sector_part xs k) + sector_sum f xs (k + 1) (16 - (k + 1))
unfolding sector_sum
sum_next f xs k h =
    let e : 16 - k ≡ suc (16 - (k + 1)) = omega arith in
    ap (sector_sum f xs k) e ∙ ap (λ (x : ℕ). f (sector_part xs k) + sector_sum f xs x (16 - (k + 1))) (sym (add-one k))

pub sum_end : (f : List ℕ → ℕ) (xs : List ℕ) (k : ℕ) → 16 ≤ k → sector_sum f xs k (16 - k) ≡ 0
unfolding sector_sum
sum_end f xs k h =
    let e : 16 - k ≡ 0 = omega arith in
    ap (sector_sum f xs k) e

-- sixteen sectors are the block
pub sectors_all : (xs old ys : List ℕ) → length old ≡ block_size → Upto (read_at xs) old ys block_size → ys ≡ read_block xs
sectors_all xs old ys l w = upto_all (read_at xs) old ys block_size l w ∙ sym (read_block_lem xs)

pub erasures_all : (xs old ys : List ℕ) → length old ≡ block_size → Upto (mark_at xs) old ys block_size → ys ≡ erasures_of_block xs
erasures_all xs old ys l w = upto_all (mark_at xs) old ys block_size l w ∙ sym (erasures_block xs)
