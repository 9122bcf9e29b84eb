-- `scrambling::first_bytes` meets its contract: each turn stores one byte, and the register is the one at it. Assumes nothing.
use mathlib.Core.Path.{◌≡◌, refl, ap, sym, ◌∙◌}
use Prim.Native.Nat.{ℕ, ◌+◌, ◌*◌, ◌%◌}
use native.Mathlib.Omega.{arith}
use Rattle.lists.proofs.Fill.{upto_none, upto_more}
use Rattle.scrambling.specs.Scrambling.{preset_of, register, scrambling_byte}
use Rattle.scrambling.proofs.Scrambled.{register-add}
use Rattle.scrambling.proofs.first_bytes.Goals as goal

pub loop-i-init : goal.loop-i-init
unfolding register
loop-i-init c = record { size = refl; small = c.preset-r.ensures.upper_bound; shifted = c.preset-r.ensures.value; bytes = upto_none _ _ }

pub loop-i-preserved : goal.loop-i-preserved
unfolding scrambling_byte
loop-i-preserved c =
    let inv = c.loop-i.invariant in
    let p : ℕ = preset_of c.args.number in
    let i : ℕ = c.loop-i.i in
    let next : 8 * i + 8 ≡ 8 * (i + 1) = omega arith in record {
      size = inv.size;
      small = c.eight_shifts-r.ensures.upper_bound;
      shifted = c.eight_shifts-r.ensures.value ∙ ap (λ (x : ℕ). register x 8) inv.shifted ∙ sym (register-add p (8 * i) 8) ∙ ap (register p) next;
      bytes = upto_more (scrambling_byte p) _ _ i _ (omega (arith, inv.bytes.same)) (ap (λ (x : ℕ). x % 256) inv.shifted) inv.bytes;
    }

pub returns : goal.returns
returns c = λ i l. c.loop-i.invariant.bytes.done i (omega arith)
