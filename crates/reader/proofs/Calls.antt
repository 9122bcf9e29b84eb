-- Laws of the calls: of a block's stream of 77,380 bytes no sector is refused (part_fits, part_answer≡tallies, call_answer≡tallies, call_number≡0), and the
-- sixteen buffers of bytes, and of marks, are what is read of the block (call_bytes≡read_sector, call_erasures≡erasures_of_sector, block_bytes≡read_block,
-- block_erasures≡erasures_of_block).
-- Assumes nothing.
use mathlib.Core.Path.{◌≡◌, refl, sym, ap, ap₂, ◌≡⟨◌⟩◌, ◌∎}
use mathlib.Core.Bool.{true}
use mathlib.Core.List.{List, [], ◌++◌, append_assoc, append-nil}
use Prim.Native.Nat.{ℕ, zero, suc, ◌+◌, ◌*◌, ◌<◌}
use native.Mathlib.Omega.{arith}
use borrow.Author.Tests.{eq-eqb}
use lib.ListN.{length, drop, length-drop}
use lib.Seq.{length-take-le}
use Rattle.std.specs.Prelude.{Ok}
use Rattle.channel.specs.Block.{read_sector, erasures_of_sector, each_sector, read_block, erasures_of_block}
use Rattle.layout.specs.Lengths.{sector_count, sector_size, sector_stream, sector_read, stream_size}
use Rattle.layout.specs.Sectors.{sector_part}
use Rattle.reader.specs.Sector.{sector_tally, sector_fits, sector_answer, sector_after, erasures_after}
use Rattle.refusals.specs.Refusal.{answer_number}
use Rattle.reader.specs.Session.{Buffers, Lent, call_answer, call_bytes, call_erasures, joined, block_bytes, block_erasures}

-- what f gives of the sectors of xs, one after the other
module _ (f : List ℕ → List ℕ) (xs : List ℕ) where
  -- of one sector more it stands last
  each_sector_suc : (n k m : ℕ) → m ≡ k + n → each_sector f xs k n ++ f (sector_part xs m) ≡ each_sector f xs k (suc n)
  unfolding each_sector
  each_sector_suc zero k m e =
      let same : m ≡ k = omega arith in
      f (sector_part xs m) ≡⟨ ap (λ (i : ℕ). f (sector_part xs i)) same ⟩ f (sector_part xs k)
      ≡⟨ sym (append-nil (f (sector_part xs k))) ⟩ f (sector_part xs k) ++ [] ∎
  each_sector_suc (suc n) k m e =
      let first = f (sector_part xs k) in
      (first ++ each_sector f xs (suc k) n) ++ f (sector_part xs m)
      ≡⟨ append_assoc first (each_sector f xs (suc k) n) (f (sector_part xs m)) ⟩ first ++ (each_sector f xs (suc k) n ++ f (sector_part xs m))
      ≡⟨ ap (λ (r : List ℕ). first ++ r) (each_sector_suc n (suc k) m (omega arith)) ⟩ first ++ each_sector f xs (suc k) (suc n) ∎

  joined≡each_sector : (g : ℕ → List ℕ) (n : ℕ) → ((k : ℕ) → k < n → g k ≡ f (sector_part xs k)) → joined g n ≡ each_sector f xs 0 n
  unfolding joined
  joined≡each_sector g zero h = unfold each_sector in refl
  joined≡each_sector g (suc n) h =
      joined g n ++ g n
      ≡⟨ ap₂ ◌++◌ (joined≡each_sector g n (λ k l. h k (omega arith))) (h n (omega arith)) ⟩ each_sector f xs 0 n ++ f (sector_part xs n)
      ≡⟨ each_sector_suc n 0 n (omega arith) ⟩ each_sector f xs 0 (suc n) ∎

-- sector k of a block's stream, with buffers of n and m bytes
module _ (xs : List ℕ) (whole : length xs ≡ stream_size) (k n m : ℕ) (h : k < sector_count) (hn : n ≡ sector_size) (hm : m ≡ sector_size) where
  part_length : length (sector_part xs k) ≡ sector_read
  part_length = length-take-le sector_read (drop (sector_stream * k) xs) (rw length-drop (omega arith))

  pub part_fits : sector_fits (sector_part xs k) n m ≡ true
  unfolding sector_fits
  part_fits = rw (eq-eqb _ sector_read part_length, eq-eqb n sector_size hn, eq-eqb m sector_size hm)

  -- a sector is not refused: the answer has its two tallies
  pub part_answer≡tallies : sector_answer (sector_part xs k) n m ≡ Ok (sector_tally (sector_part xs k))
  unfolding sector_answer
  part_answer≡tallies = rw part_fits

module _ (xs : List ℕ) (b : Buffers) (whole : length xs ≡ stream_size) (lent : Lent b) where
  call_fits : (k : ℕ) → k < sector_count → sector_fits (sector_part xs k) (length (b.bytes k)) (length (b.erasures k)) ≡ true
  call_fits k h = part_fits xs whole k (length (b.bytes k)) (length (b.erasures k)) h (lent.bytes-sized k h) (lent.erasures-sized k h)

  -- each call answers with the two tallies of its sector,
  pub call_answer≡tallies : (k : ℕ) → k < sector_count → call_answer xs b k ≡ Ok (sector_tally (sector_part xs k))
  call_answer≡tallies k h =
      part_answer≡tallies xs whole k (length (b.bytes k)) (length (b.erasures k)) h (lent.bytes-sized k h) (lent.erasures-sized k h)

  -- so that none is refused,
  pub call_number≡0 : (k : ℕ) → k < sector_count → answer_number (call_answer xs b k) ≡ 0
  call_number≡0 k h = ap answer_number (call_answer≡tallies k h)

  -- and leaves the bytes of its sector, and the marks
  pub call_bytes≡read_sector : (k : ℕ) → k < sector_count → call_bytes xs b k ≡ read_sector (sector_part xs k)
  unfolding sector_after
  call_bytes≡read_sector k h = rw (call_fits k h)

  pub call_erasures≡erasures_of_sector : (k : ℕ) → k < sector_count → call_erasures xs b k ≡ erasures_of_sector (sector_part xs k)
  unfolding erasures_after
  call_erasures≡erasures_of_sector k h = rw (call_fits k h)

  -- the block buffer that the repairer gets, and its marks
  pub block_bytes≡read_block : block_bytes xs b ≡ read_block xs
  block_bytes≡read_block = joined≡each_sector read_sector xs (call_bytes xs b) sector_count call_bytes≡read_sector

  pub block_erasures≡erasures_of_block : block_erasures xs b ≡ erasures_of_block xs
  block_erasures≡erasures_of_block = joined≡each_sector erasures_of_sector xs (call_erasures xs b) sector_count call_erasures≡erasures_of_sector
