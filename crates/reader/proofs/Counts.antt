-- The tally of SYNC places as a chain counts it.
-- Assumes nothing.
use mathlib.Core.Bool.{Bool, true, false, cond}
use mathlib.Core.List.{List}
use mathlib.Core.Path.{◌≡◌, refl, sym, ◌∙◌}
use Prim.Native.Nat.{ℕ, zero, suc, ◌+◌}
use native.Mathlib.Numerals.{add-one}
use native.Mathlib.Omega.{arith}
use native.Mathlib.Nat.{add_assoc, zero-add}
use Rattle.std.specs.Prelude.{count_by}
use Rattle.std.specs.List.{range_with_len, fold}
use Rattle.layout.specs.Lengths.{sector_frames}
use Rattle.lists.specs.Count.{bit, count_from}
use Rattle.reader.specs.Sector.{lost_sync, sync_tally}

digit : (b : Bool) → cond b 1 0 ≡ bit b
digit true = refl
digit false = refl

counted : (f : ℕ → Bool) (k n a : ℕ) → fold (λ (a x : ℕ). a + cond (f x) 1 0) a (range_with_len k n) ≡ a + count_from f k n
counted f k zero a = omega arith
counted f k (suc n) a = rw (add-one k, counted f (suc k) n (a + cond (f k) 1 0), digit (f k), add_assoc a (bit (f k)) (count_from f (suc k) n)) refl

frames : (f : ℕ → Bool) (n : ℕ) → count_from f 0 n ≡ count_by f (range_with_len 0 n)
frames f n = sym (counted f 0 n 0 ∙ zero-add (count_from f 0 n))

pub sync_tally_counts : (xs : List ℕ) → sync_tally xs ≡ count_by (lost_sync xs) (range_with_len 0 sector_frames)
unfolding sync_tally
sync_tally_counts xs = frames (lost_sync xs) sector_frames
