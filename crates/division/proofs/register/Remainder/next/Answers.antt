-- `Remainder::next` meets its contract. Assumes nothing.
use Rattle.std.proofs.Common.{rules, ℕ, arith, List, Fits, w64}
use Rattle.field.specs.Field.{add}
use Rattle.division.specs.Inner.{Packed, unpacked}
use Rattle.division.proofs.Step.{packed_next}
use Rattle.division.proofs.Unpacked.{packed-unpacked}
use Rattle.division.proofs.register.Remainder.next.Goals as goal

pub returns : goal.returns
unfolding add
returns g c =
    let table = c.args.table.now in
    let high : Fits w64 c.args.self.high = search rules in
    let low : Fits w64 c.args.self.low = search rules in
    let next = λ (x : List ℕ) (w : Packed g.row.P x c.args.self). packed_next g.row.P c.args.b x table.table c.args.self table.fits table.sound (omega arith) w in
    record {
      of_register = λ x w. rw c.from.ensures (next x w);
      of_sixteen = λ e. rw c.from.ensures (next (unpacked c.args.self) (rw e (packed-unpacked c.args.self high.fits low.fits))).numbers;
    }
