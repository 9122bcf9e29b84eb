-- `edc::EdcTable::remainder` meets its contract: what is left to divide in gives the same remainder at every turn. Assumes nothing.
use mathlib.Core.Path.{sym, ◌∙◌}
use Prim.Native.Nat.{◌*◌}
use native.Mathlib.Omega.{arith}
use Rattle.edc.proofs.Steps.{edc_next_word, edc_end}
use Rattle.edc.proofs.EdcTable.remainder.Goals as goal

pub loop-word-preserved : goal.loop-word-preserved
loop-word-preserved c =
    edc_next_word c.loop-word.r _ c.loop-word.word-index c.args.xs.now _ c.as_chunks.ensures.front (omega (arith, c.as_chunks.ensures.front_len)) c.after-r.ensures
    ∙ c.loop-word.invariant

pub returns : goal.returns
returns c =
    sym (edc_end c.loop-word.r c.args.xs.now (c.loop-word.word-index * 4) (omega (arith, c.as_chunks.ensures.front_len))) ∙ c.loop-word.invariant
