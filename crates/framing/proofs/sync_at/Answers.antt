-- `framing::sync_at` meets its contract. Assumes nothing.
use mathlib.Core.Path.{◌≡◌, sym, ap, ap₂, ◌∙◌}
use mathlib.Core.Bool.{Bool, false}
use mathlib.Core.List.{List}
use Prim.Native.Nat.{ℕ, ◌+◌, ◌*◌, ◌≤◌}
use native.Mathlib.Omega.{arith}
use borrow.Author.Tests.{ne_eqb}
use Rattle.annexg.specs.Sync.{sync_end}
use Rattle.octets.specs.Halves.{bits_at}
use Rattle.layout.specs.Lengths.{sync_bits}
use Rattle.framing.specs.Frames.{bit_count, sync_at}
use Rattle.framing.proofs.Codes.{is_code, sync_short, sync-within, sync_other_end}
use Rattle.framing.proofs.sync_at.Goals as goal

pub returns-then-stream-byte : goal.returns-then-stream-byte
returns-then-stream-byte c =
    let args = c.args in
    sym (sync_short args.stream.now (8 * args.byte + args.offset) (omega arith))

-- the two half words, as they were looked at
module _ (xs : List ℕ) (byte offset : ℕ) (fits : 8 * byte + offset + sync_bits ≤ bit_count xs) (second : ℕ) (second_is : second ≡ bits_at xs (8 * (byte + 2) + offset) 16) where
  end_is : second ≡ bits_at xs (8 * byte + offset + 16) 16
  end_is = second_is ∙ ap (λ (p : ℕ). bits_at xs p 16) (omega arith)

  other : (second ≡ sync_end → ⊥) → false ≡ sync_at xs (8 * byte + offset)
  other h = sym (sync-within xs (8 * byte + offset) fits ∙ sync_other_end (bits_at xs (8 * byte + offset) 16) (bits_at xs (8 * byte + offset + 16) 16) (λ e. h (end_is ∙ e)))

  by_code : (first : ℕ) → first ≡ bits_at xs (8 * byte + offset) 16 → (r : Bool) → r ≡ is_code first second → r ≡ sync_at xs (8 * byte + offset)
  by_code first e r f = f ∙ ap₂ is_code e end_is ∙ sym (sync-within xs (8 * byte + offset) fits)

pub returns-then-second-eq17 : goal.returns-then-second-eq17
returns-then-second-eq17 c =
    let args = c.args in
    by_code args.stream.now args.byte args.offset (omega arith) _ c.half_at_bit-second.ensures _ c.half_at_bit.ensures _ c.any_sync.ensures

pub returns-else-second-eq17 : goal.returns-else-second-eq17
returns-else-second-eq17 c =
    let args = c.args in
    ne_eqb _ _ c.if-second-eq17.false ∙ other args.stream.now args.byte args.offset (omega arith) _ c.half_at_bit-second.ensures c.if-second-eq17.false
