-- The entries of the tables, by the rule of `multiples`.
-- Assumes nothing.
use mathlib.Core.Path.{◌≡◌, ap₂, ◌∙◌}
use mathlib.Core.List.{map}
use Prim.Native.Nat.{ℕ, ◌+◌, ◌*◌, ◌/◌, ◌%◌, ◌<◌}
use native.Mathlib.Omega.{arith}
use lib.ListN.{get_or}
use Rattle.lists.proofs.Fill.{get_d_tabulate}
use Rattle.field.specs.Field.{mul}
use Rattle.codes.specs.Parity.{generator_tail}
use Rattle.multiples.specs.Inner.{high, low, half, multiples}

pub multiples-high : (p h : ℕ) → h < 256 → get_or (multiples p) (2 * h) 0 ≡ high (map (mul h) (generator_tail p))
unfolding multiples half
multiples-high p h l =
    let a : 2 * h % 2 ≡ 0 = omega arith in
    let b : 2 * h / 2 ≡ h = omega arith in
    get_d_tabulate (λ i. half (i % 2) (map (mul (i / 2)) (generator_tail p))) 512 (2 * h) (omega arith)
    ∙ ap₂ (λ (u v : ℕ). half u (map (mul v) (generator_tail p))) a b

pub multiples-low : (p h : ℕ) → h < 256 → get_or (multiples p) (2 * h + 1) 0 ≡ low (map (mul h) (generator_tail p))
unfolding multiples half
multiples-low p h l =
    let a : (2 * h + 1) % 2 ≡ 1 = omega arith in
    let b : (2 * h + 1) / 2 ≡ h = omega arith in
    get_d_tabulate (λ i. half (i % 2) (map (mul (i / 2)) (generator_tail p))) 512 (2 * h + 1) (omega arith)
    ∙ ap₂ (λ (u v : ℕ). half u (map (mul v) (generator_tail p))) a b
