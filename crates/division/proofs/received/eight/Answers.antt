-- `received::eight` meets its contract. Assumes nothing.
use Rattle.std.proofs.Common.{◌≡◌, refl, ap, ap₂, ◌∙◌, ℕ, ◌+◌, ◌*◌, ◌<◌, arith, List, get_or}
use Rattle.multiples.specs.Inner.{top, bytes_as_number}
use Rattle.multiples.proofs.Numbers.{number_more, number-room}
use Rattle.division.proofs.received.eight.Goals as goal

few :
    (bytes : List ℕ) (a i x : ℕ) → ((k : ℕ) → get_or bytes k 0 < 256) → i < 8 → x ≡ bytes_as_number (λ k. get_or bytes k 0) a i → x < top
few bytes a i x small h e = omega (arith, e, number-room (λ k. get_or bytes k 0) small a i h)

pub loop-i-init : goal.loop-i-init
unfolding bytes_as_number
loop-i-init c = refl

pub overflow_mul-x : goal.overflow_mul-x
overflow_mul-x c = omega (arith, few c.args.bytes.now c.args.a c.loop-i.i c.loop-i.x (λ k. omega (arith, c.type_inv.bytes k)) (omega arith) c.loop-i.invariant)

pub overflow_add-x : goal.overflow_add-x
overflow_add-x c =
    omega (
      arith,
      few c.args.bytes.now c.args.a c.loop-i.i c.loop-i.x (λ k. omega (arith, c.type_inv.bytes k)) (omega arith) c.loop-i.invariant,
      c.type_inv.bytes (c.args.a + c.loop-i.i),
      c.place.ensures,
    )

pub loop-i-preserved : goal.loop-i-preserved
loop-i-preserved c = ap₂ (λ (x y : ℕ). x * 256 + y) c.loop-i.invariant c.place.ensures ∙ number_more (λ k. get_or c.args.bytes.now k 0) c.args.a c.loop-i.i

pub returns : goal.returns
returns c = c.loop-i.invariant ∙ ap (bytes_as_number (λ k. get_or c.args.bytes.now k 0) c.args.a) (omega arith)
