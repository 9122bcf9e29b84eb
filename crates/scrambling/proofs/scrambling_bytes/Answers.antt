-- `scrambling::scrambling_bytes` meets its contract: each turn stores one byte. Assumes nothing.
use mathlib.Core.Path.{◌≡◌, refl, ap, ap₂, sym, ◌∙◌}
use Prim.Native.Nat.{ℕ, ◌-◌, ◌+◌}
use lib.Bits.{bit_xor}
use borrow.Author.Rules.{rules}
use native.Mathlib.Omega.{arith}
use Rattle.field.specs.Field.{add}
use Rattle.layout.specs.Lengths.{frame_main_size}
use Rattle.lists.proofs.Fill.{upto_more, upto_all}
use Rattle.scrambling.specs.Scrambling.{preset_of, scrambling_byte}
use Rattle.scrambling.proofs.Scrambled.{preset_lt}
use Rattle.scrambling.proofs.Register.{byte_recurs}
use Rattle.scrambling.proofs.scrambling_bytes.Goals as goal

pub loop-i-init : goal.loop-i-init
loop-i-init c = (search rules, record { same = refl; done = c.first_bytes-s.ensures; left = λ k l. refl })

pub loop-i-preserved : goal.loop-i-preserved
unfolding add
loop-i-preserved c =
    let w = c.loop-i.invariant.1 in
    let p : ℕ = preset_of c.args.number in
    let i : ℕ = c.loop-i.i - 15 in
    let e : i + 15 ≡ c.loop-i.i = omega arith in
    let f : c.loop-i.i - 11 ≡ i + 4 = omega arith in (
      c.loop-i.invariant.0,
      upto_more (scrambling_byte p) _ c.loop-i.s c.loop-i.i _ (omega (arith, c.loop-i.invariant.0, w.same))
          (ap₂ bit_xor (w.done i (omega arith)) (w.done (c.loop-i.i - 11) (omega arith) ∙ ap (scrambling_byte p) f) ∙ sym (byte_recurs p i (preset_lt c.args.number)) ∙ ap (scrambling_byte p) e)
          w,
    )

pub returns : goal.returns
returns c =
    let e : c.loop-i.i ≡ frame_main_size = omega arith in
    upto_all (scrambling_byte (preset_of c.args.number)) _ c.loop-i.s frame_main_size c.loop-i.invariant.0 (rw e at c.loop-i.invariant.1)
