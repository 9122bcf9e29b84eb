-- Calls for the blocks of a run one after the other, each with the record that the call before it handed back and that block's first number, and then closing. The
-- laws are about these: block_calls (what the buffers hold then, and the record), BlocksTaken (no call is refused).
-- Assumes nothing.
use Rattle.std.specs.Prelude.{◌≡◌, Option, Some, List, [], ◌∷◌, ◌++◌, ℕ, suc, length}
use Rattle.eccblock.specs.Run.{BlockInput}
use Rattle.writer.specs.Answers.{closing_refusal, closing_next, closing_out}
use Rattle.writer.specs.Session.{Session}
use Rattle.writer.specs.declared.Record.{Record}
use Rattle.formatter.specs.Formatter.{write_block_refusal, write_block_next, write_block_out}

-- from the record w and the block before; outs k is what the buffer lent for block k holds before, end what that for the closing code does
unfoldable pub block_calls : Record → Option ℕ → List BlockInput → (ℕ → List ℕ) → List ℕ → Session
block_calls w previous [] outs end = record { bytes = closing_out w end; next = closing_next w (length end) }
block_calls w previous (i ∷ is) outs end =
    let next = write_block_next w previous i.main i.first i.info (length (outs 0)) in
    let rest = block_calls next (Some i.first) is (λ k. outs (suc k)) end in
    record { bytes = write_block_out w previous i.main i.first i.info (outs 0) ++ rest.bytes; next = rest.next }

unfoldable pub BlocksTaken : Record → Option ℕ → List BlockInput → (ℕ → List ℕ) → List ℕ → Type 0
BlocksTaken w previous [] outs end = closing_refusal w (length end) ≡ 0
BlocksTaken w previous (i ∷ is) outs end =
    (write_block_refusal w previous (length i.main) (length (outs 0)) i.first i.info ≡ 0)
    × BlocksTaken (write_block_next w previous i.main i.first i.info (length (outs 0))) (Some i.first) is (λ k. outs (suc k)) end
