-- `read_block` meets its contract: the number of a refusal, where the search stops. Assumes nothing.
use mathlib.Core.Path.{◌≡◌}
use mathlib.Core.Logic.{◌≢◌}
use borrow.Author.Tests.{eq-eqb, ne_eqb}
use lib.ListN.{length}
use Rattle.std.proofs.Common.{rules}
use Rattle.std.proofs.lemmas.Result.{err_from_is_err_and}
use Rattle.refusals.specs.declared.Refusal.TheVariants.{Length}
use Rattle.layout.specs.Lengths.{stream_size, block_size, main_size}
use Rattle.blockreader.specs.BlockReader.{block_fits, block_read_refusal}
use Rattle.blockreader.proofs.read_block.Goals as goal

pub returns-in_err-block-clause-result_value : goal.returns-in_err-block-clause-result_value
unfolding block_fits block_read_refusal
returns-in_err-block-clause-result_value c =
    let p = err_from_is_err_and c.from_residual-in_err-block.result c.from_residual-in_err-block.ensures.1 in
    let refusal : c.in_err-block.field-0.0 ≡ Length = search rules in
    let stream : length c.args.stream.now ≡ stream_size = search rules in
    let block : length c.args.block.now ≢ block_size = search rules in
    rw (p.1, p.2, refusal, eq-eqb _ stream_size stream, ne_eqb _ block_size block)

pub returns-in_err-main-clause-result_value : goal.returns-in_err-main-clause-result_value
unfolding block_fits block_read_refusal
returns-in_err-main-clause-result_value c =
    let p = err_from_is_err_and c.from_residual-in_err-main.result c.from_residual-in_err-main.ensures.1 in
    let refusal : c.in_err-main.field-0.0 ≡ Length = search rules in
    let stream : length c.args.stream.now ≡ stream_size = search rules in
    let block : length c.args.block.now ≡ block_size = search rules in
    let marks : length c.args.erasures.now ≡ block_size = search rules in
    let main : length c.args.main.now ≢ main_size = search rules in
    rw (p.1, p.2, refusal, eq-eqb _ stream_size stream, eq-eqb _ block_size block, eq-eqb _ block_size marks, ne_eqb _ main_size main)
