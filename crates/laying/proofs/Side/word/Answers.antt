-- `laying::Side::word` meets its contract.
-- Assumes nothing.
use mathlib.Core.Path.{ap, ◌∙◌}
use Prim.Native.Nat.{ℕ, ◌/◌}
use native.Mathlib.Omega.{arith}
use Rattle.octets.specs.Halves.{put_half}
use Rattle.laying.proofs.Words.{entry_small, word_side}
use Rattle.laying.proofs.Side.word.Goals as goal

pub overflow_cast-word : goal.overflow_cast-word
overflow_cast-word c =
    let a = c.args in
    omega (arith, c.entry_for-entry.ensures, entry_small a.self.running.state a.byte a.choice)

pub returns : goal.returns
returns c =
    let a = c.args in
    let entry = c.entry_for-entry.ensures in
    record {
      value = word_side a.self.running a.byte _ a.choice _ entry c.word.ensures;
      buffer_after = c.put_half.ensures ∙ ap (λ (e : ℕ). put_half a.buffer.now a.at (e / 16)) entry;
    }
