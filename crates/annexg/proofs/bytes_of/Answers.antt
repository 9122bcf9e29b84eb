-- `annexg::bytes_of` meets its contract.
-- Assumes nothing.
use mathlib.Core.Path.{◌≡◌, sym, ap, ◌∙◌}
use Prim.Native.Nat.{ℕ}
use native.Mathlib.Omega.{arith}
use lib.ListN.{length}
use lib.Dec.{lit≤}
use Rattle.annexg.specs.Read.{table_of}
use Rattle.annexg.proofs.Search.{length_main, length-sub}
use Rattle.annexg.proofs.bytes_of.Goals as goal

pub returns-then-table-eq0 : goal.returns-then-table-eq0
returns-then-table-eq0 c = record {
  result_value = sym (ap (λ (t : ℕ). length (table_of t)) c.if-table-eq0.true ∙ length_main);
  upper_bound = lit≤ tt;
}

pub returns-else-table-eq0 : goal.returns-else-table-eq0
returns-else-table-eq0 c =
    let one : c.args.table ≡ 1 = omega arith in
    record {
      result_value = sym (ap (λ (t : ℕ). length (table_of t)) one ∙ length-sub);
      upper_bound = lit≤ tt;
    }
