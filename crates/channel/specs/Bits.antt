-- The bits of a stream (bits_all, bits_bytes), and the runs of ZEROs that it may have (sync_half, zero_run_fits, block_zero_run_fits, one_fits, zero_runs_from, zero_runs_hold).
-- Assumes nothing.
use Rattle.std.specs.Prelude.{Bool, true, false, ◌&&◌, ◌||◌, List, [], ◌∷◌, ◌++◌, ℕ, zero, suc, ◌-◌, ◌/◌, ◌%◌, eqb, Option, Some, None}
use Rattle.annexg.specs.ZeroRuns.{bits_of, inside}
use Rattle.layout.specs.Lengths.{frame_bits}
use Rattle.channel.specs.Channel.{Item, sync, byte}

-- the bits of half words, the highest first
unfoldable pub bits_all : List ℕ → List ℕ
bits_all [] = []
bits_all (h ∷ hs) = bits_of 16 h ++ bits_all hs

-- the bits of bytes, the highest first
unfoldable pub bits_bytes : List ℕ → List ℕ
bits_bytes [] = []
bits_bytes (x ∷ xs) = bits_of 8 x ++ bits_bytes xs

-- half word k of the items' stream is the first of a SYNC Code
unfoldable pub sync_half : List Item → ℕ → Bool
sync_half [] k = false
sync_half (sync n ∷ is) zero = true
sync_half (sync n ∷ is) (suc zero) = false
sync_half (sync n ∷ is) (suc (suc k)) = sync_half is k
sync_half (byte b ∷ is) zero = false
sync_half (byte b ∷ is) (suc k) = sync_half is k

-- n ZEROs may stand between the ONE at bit i and the next ONE: 2 to 10, or thirteen where bit i is the fourteenth of a SYNC Code
abbrev pub zero_run_fits : List Item → ℕ → ℕ → Bool
zero_run_fits is i n = inside 2 10 n || (eqb n 13 && (eqb (i % 16) 13 && sync_half is (i / 16)))

-- the same in a block or a run of blocks, whose frames are 1,488 bits
abbrev pub block_zero_run_fits : ℕ → ℕ → Bool
block_zero_run_fits i n = inside 2 10 n || (eqb n 13 && eqb (i % frame_bits) 13)

-- the ONE at bit p may stand after the last one before it, at bit i, or is the first
abbrev pub one_fits : Option ℕ → ℕ → Bool
one_fits None p = true
one_fits (Some i) p = block_zero_run_fits i (p - suc i)

-- the bits from bit p on, where the last ONE stands at a bit before it, if there is one: each zero run between two ONEs is one that a block may have
unfoldable pub zero_runs_from : Option ℕ → ℕ → List ℕ → Bool
zero_runs_from last p [] = true
zero_runs_from last p (zero ∷ bs) = zero_runs_from last (suc p) bs
zero_runs_from last p (suc x ∷ bs) = one_fits last p && zero_runs_from (Some p) (suc p) bs

-- the zero runs of a stream of bytes that starts with a Sync Frame
abbrev pub zero_runs_hold : List ℕ → Bool
zero_runs_hold xs = zero_runs_from None 0 (bits_bytes xs)
