-- `ied::shift_in` meets its contract: the register of two bytes, and the generator, the product of the 2 factors x + α^i, computed. Assumes nothing.
use Rattle.std.proofs.Common.{◌≡◌, refl, ap, ap₂, sym, ◌∙◌, ℕ, List, [], ◌∷◌, arith, length, get_or}
use lib.ListN.{set}
use Rattle.field.specs.Field.{add, double, mul_bits, mul, square, pow_halves, pow}
use Rattle.codes.specs.Parity.{add_words, times_root, generator, shift_in, generator_tail}
use Rattle.parity.proofs.ied.shift_in.Goals as goal

generator2 : generator_tail 2 ≡ 3 ∷ 2 ∷ []
unfolding add double mul_bits mul square pow_halves pow add_words times_root generator
generator2 = refl

two :
    (r : List ℕ) (b x y : ℕ) → length r ≡ 2 → x ≡ mul (add b (get_or r 0 0)) 3 → y ≡ mul (add b (get_or r 0 0)) 2
    → set (set r 0 (add (get_or r 1 0) x)) 1 y ≡ shift_in (3 ∷ 2 ∷ []) r b
unfolding shift_in add_words add
two [] b x y e p q = absurd (omega arith)
two (h ∷ []) b x y e p q = absurd (omega arith)
two (h ∷ s ∷ []) b x y e p q = ap₂ (λ (u v : ℕ). add s u ∷ v ∷ []) p q
two (h ∷ s ∷ t ∷ r) b x y e p q = absurd (omega arith)

pub returns : goal.returns
unfolding add
returns c =
    two c.args.register.now c.args.b c.product.result c.product-2.result (omega arith) c.product.ensures c.product-2.ensures
    ∙ ap (λ (g : List ℕ). shift_in g c.args.register.now c.args.b) (sym generator2)
