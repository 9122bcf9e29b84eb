-- `rows::RowsWords::repair` meets its contract: its sums and its marks decide; a row that is no code row, or has more than ten marks, is taken out, corrected and
-- stored back. Assumes nothing.
use mathlib.Core.Path.{ap, ap₂, ◌∙◌}
use mathlib.Core.List.{List}
use Prim.Native.Nat.{ℕ, ◌*◌, ◌<◌}
use native.Mathlib.Omega.{arith}
use lib.ListN.{length, get_or}
use Rattle.codes.specs.Erasures.{erasure_count, nearest_erased}
use Rattle.octets.proofs.Copies.{put_stored, stored_same}
use Rattle.layout.specs.Inner.{row_place}
use Rattle.layout.specs.Lengths.{row_size}
use Rattle.layout.specs.Rows.{row_of}
use Rattle.layout.proofs.Places.{row_length}
use Rattle.repairer.specs.Inner.{Rows}
use Rattle.repairer.proofs.Along.{row_clean, repaired-size}
use Rattle.repairer.proofs.rows.RowsWords.repair.Goals as goal

pub returns-then-all_zero : goal.returns-then-all_zero
returns-then-all_zero c =
    let xs = c.args.block.now in
    let ms = c.args.erasures.now in
    let q = c.args.k in
    let small : (i : ℕ) → get_or xs i 0 < 256 = λ i. c.fits-block i in
    let f = c.count_erasures.ensures ∙ ap (λ (m : List ℕ). erasure_count m (length m)) c.row_at-marks.ensures ∙ ap (erasure_count (row_of ms q)) (row_length ms q c.told-erasures c.requires.0) in
    record {
      value = (row_clean ms xs q c.told-block small c.told-erasures c.requires.0 _ f (omega arith) _ c.syndromes-syndromes.ensures _ c.all_zero.ensures c.if-all_zero.true).0;
      stored = (row_clean ms xs q c.told-block small c.told-erasures c.requires.0 _ f (omega arith) _ c.syndromes-syndromes.ensures _ c.all_zero.ensures c.if-all_zero.true).1;
    }

pub returns-clause-stored : goal.returns-clause-stored
returns-clause-stored c =
    let xs = c.args.block.now in
    let ms = c.args.erasures.now in
    let q = c.args.k in
    let small : (i : ℕ) → get_or xs i 0 < 256 = λ i. c.fits-block i in
    let near = c.correct_row_from-row.ensures.bytes_value ∙ ap₂ (nearest_erased 10) c.row_at-marks.ensures c.row_at-bytes.ensures in
    let l = ap length near ∙ repaired-size Rows ms xs q c.told-block small c.requires.0 in
    stored_same (row_place q) _ _ _ _ row_size near (put_stored _ xs _ (q * row_size) row_size l (omega (arith, c.told-block, c.requires.0)) c.put.ensures)
