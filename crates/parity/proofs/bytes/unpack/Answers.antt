-- `bytes::unpack` meets its contract. Assumes nothing.
use Rattle.std.proofs.Common.{◌≡◌, ap, ap₂, ◌∙◌, ℕ, List, ◌++◌, take, replicate}
use Rattle.std.specs.Int.{to_be_bytes}
use borrow.Rule.Slice.PartMut.{put_mid}
use mir.Syntax.{w64}
use native.Mathlib.Nat.{div-one}
use Rattle.lists.specs.Fill.{tabulate_from, tabulate}
use Rattle.division.specs.Inner.{number_byte, unpacked}
use Rattle.division.specs.declared.register.Remainder.{Remainder}
use Rattle.parity.proofs.bytes.unpack.Goals as goal

eight : (x : ℕ) → to_be_bytes w64 x ≡ tabulate (number_byte x) 8
unfolding tabulate_from number_byte
eight x = simp div-one

sixteen : (r : Remainder) (a b : List ℕ) → a ≡ to_be_bytes w64 r.high → b ≡ to_be_bytes w64 r.low → put_mid 8 8 (a ++ replicate 8 0) b ≡ unpacked r
unfolding tabulate_from unpacked
sixteen r a b ea eb = ap₂ (λ (x y : List ℕ). put_mid 8 8 (x ++ replicate 8 0) y) (ea ∙ eight r.high) (eb ∙ eight r.low)

pub returns : goal.returns
returns g c =
    c.copy_from_slice-3.ensures.after
    ∙ ap (take g.row.P)
    (sixteen c.args.register c.copy_from_slice.new.self c.copy_from_slice-2.new.self (c.copy_from_slice.ensures.after ∙ c.to_be_bytes.ensures)
    (c.copy_from_slice-2.ensures.after ∙ c.to_be_bytes-2.ensures))
