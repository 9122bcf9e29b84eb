-- A SYNC Code at a bit, by what was looked at: too near the end (sync_short), in the capture (sync-within), another second half word
-- (sync_other_end).
-- Assumes nothing.
use mathlib.Core.Path.{◌≡◌, refl, ap, ap₂}
use mathlib.Core.Bool.{Bool, false, ◌&&◌, ◌||◌}
use mathlib.Core.List.{List}
use Prim.Native.Nat.{ℕ, zero, suc, ◌+◌, ◌<◌, ◌≤◌}
use borrow.Author.Tests.{ne_eqb, le-leb, lt-leb}
use Rattle.lists.proofs.Test.{and_false}
use Rattle.annexg.specs.Sync.{is_sync, sync_end}
use Rattle.octets.specs.Halves.{bits_at}
use Rattle.channel.specs.Block.{some_from}
use Rattle.layout.specs.Lengths.{sync_bits}
use Rattle.framing.specs.Frames.{bit_count, sync_at}

-- the test of two half words for each number
abbrev pub is_code : ℕ → ℕ → Bool
is_code a b = some_from (λ n. is_sync n a b) 0 8

module _ (xs : List ℕ) (p : ℕ) where
  pub sync_short : bit_count xs < p + sync_bits → sync_at xs p ≡ false
  unfolding sync_at
  sync_short h = ap (λ (b : Bool). b && is_code (bits_at xs p 16) (bits_at xs (p + 16) 16)) (lt-leb (p + sync_bits) (bit_count xs) h)

  pub sync-within : p + sync_bits ≤ bit_count xs → sync_at xs p ≡ is_code (bits_at xs p 16) (bits_at xs (p + 16) 16)
  unfolding sync_at
  sync-within h = ap (λ (b : Bool). b && is_code (bits_at xs p 16) (bits_at xs (p + 16) 16)) (le-leb (p + sync_bits) (bit_count xs) h)

none-some : (t : ℕ → Bool) (k n : ℕ) → ((i : ℕ) → t i ≡ false) → some_from t k n ≡ false
none-some t k zero h = refl
none-some t k (suc n) h = ap₂ ◌||◌ (h k) (none-some t (suc k) n h)

-- every SYNC Code has the same second half word
other_end : (n a b : ℕ) → (b ≡ sync_end → ⊥) → is_sync n a b ≡ false
unfolding is_sync
other_end n a b h = simp (ne_eqb b sync_end h, and_false)

pub sync_other_end : (a b : ℕ) → (b ≡ sync_end → ⊥) → is_code a b ≡ false
sync_other_end a b h = none-some (λ n. is_sync n a b) 0 8 (λ n. other_end n a b h)
