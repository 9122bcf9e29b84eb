-- `octets::half_at_bit` meets its contract. Assumes nothing.
use Rattle.std.proofs.Common.{◌≡◌, ℕ, ◌+◌, ◌-◌, ◌*◌, ◌/◌, ◌%◌, ◌^◌, ◌<◌, ◌∙◌, refl, ap, arith, get_or}
use Rattle.octets.proofs.BitsAt.{bits_of_three}
use Rattle.octets.proofs.half_at_bit.Goals as goal

pub returns : goal.returns
returns c =
    let byte : ℕ → ℕ = λ i. get_or c.args.stream.now i 0 in
    let small : (i : ℕ) → byte i < 256 = λ i. omega (arith, c.type_inv.stream i) in
    let k = c.args.byte in
    let o = c.args.offset in
    let last = k + (o + 15) / 8 in
    let three : c.from_be_bytes-three.result ≡ (byte k * 256 + byte (k + 1)) * 256 + byte last = omega (arith, c.from_be_bytes-three.ensures) in
    ap (λ (n : ℕ). n / 2 ^ (8 - o) % 65536) three
    ∙ bits_of_three c.args.stream.now k (byte k) (byte (k + 1)) (byte last) refl refl (small k) (small (k + 1)) o c.requires.offset_bound refl (small last)
