-- `words::repair_words` meets its contract: each turn repairs one word. Assumes nothing.
use mathlib.Core.Path.{◌≡◌, ◌∙◌}
use Prim.Native.Nat.{◌<◌}
use native.Mathlib.Omega.{arith}
use Rattle.repairer.specs.Inner.{count_of, outcome_of_word}
use Rattle.repairer.proofs.Along.{count_most, divided_same, outcome_same, words_none, word_same, words_more, words_all}
use Rattle.repairer.proofs.Counting.{tally_none, tally_small, tally_more}
use Rattle.repairer.proofs.words.repair_words.Goals as goal

pub loop-k-init : goal.loop-k-init
loop-k-init g c = (tally_none _, words_none _ _ _)

pub repair-requires : goal.repair-requires
repair-requires g c =
    let a = g.W.Words.axis in
    let old = c.args.block.now in
    let h : c.loop-k.k < count_of a = omega (arith, c.count-k-end.ensures) in
    let same = word_same a c.args.erasures.now old c.loop-k.block c.loop-k.k c.told-block h c.loop-k.invariant.1 in
    (h, divided_same a old c.loop-k.block _ c.loop-k.k same (c.requires c.loop-k.k h))

pub plus-tally-requires : goal.plus-tally-requires
plus-tally-requires g c =
    let a = g.W.Words.axis in
    record {
      corrected_lt_row_count = (tally_small (outcome_of_word a c.args.erasures.now c.args.block.now) c.loop-k.k _ c.loop-k.invariant.0
          (omega (arith, count_most a, c.count-k-end.ensures))).0;
      uncorrectable_lt_row_count = (tally_small (outcome_of_word a c.args.erasures.now c.args.block.now) c.loop-k.k _ c.loop-k.invariant.0
          (omega (arith, count_most a, c.count-k-end.ensures))).1;
    }

pub loop-k-preserved : goal.loop-k-preserved
loop-k-preserved g c =
    let a = g.W.Words.axis in
    let ms = c.args.erasures.now in
    let old = c.args.block.now in
    let h : c.loop-k.k < count_of a = omega (arith, c.count-k-end.ensures) in
    let o = c.repair.ensures.value ∙ outcome_same a ms c.loop-k.block old c.loop-k.k (word_same a ms old c.loop-k.block c.loop-k.k c.told-block h c.loop-k.invariant.1) in (
      c.plus-tally.ensures ∙ tally_more (outcome_of_word a ms old) c.loop-k.k _ _ c.loop-k.invariant.0 o,
      words_more a ms old c.loop-k.block c.loop-k.k c.told-block h c.loop-k.invariant.1 _ c.repair.ensures.stored,
    )

pub returns : goal.returns
returns g c =
    let a = g.W.Words.axis in
    let e : c.loop-k.k ≡ count_of a = omega (arith, c.count-k-end.ensures) in
    record {
      value = rw e at c.loop-k.invariant.0;
      block_after = words_all a c.args.erasures.now c.args.block.now c.loop-k.block c.told-block (rw e at c.loop-k.invariant.1);
    }
