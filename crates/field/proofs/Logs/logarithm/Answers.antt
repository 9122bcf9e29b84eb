-- `field::Logs::logarithm` meets its contract: the table's entry. Assumes nothing.
use mathlib.Core.Path.{ap, ◌∙◌}
use Prim.Native.Nat.{ℕ}
use native.Mathlib.Omega.{arith}
use lib.ListN.{get_or}
use Rattle.field.specs.Field.{pow}
use Rattle.field.proofs.Logs.logarithm.Goals as goal

pub returns : goal.returns
returns c =
    let table = c.args.self.now.sound in
    let a : ℕ = c.args.a in
    let logs = c.args.self.now.table in
    let entry = ap (λ (i : ℕ). get_or logs i 0) c.from.ensures in
    record {
      result_value = ap (pow 2) entry ∙ table.log a c.requires (omega arith);
      upper_bound = omega (arith, entry, table.log_small a c.requires (omega arith));
    }
