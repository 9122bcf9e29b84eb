-- `annexg::both_zero` meets its contract: two numbers are both 0 exactly where their sum is. Assumes nothing.
use mathlib.Core.Path.{◌≡◌, sym, ap}
use mathlib.Core.Bool.{◌&&◌}
use Prim.Native.Nat.{ℕ, zero, suc, ◌+◌, ◌/◌, ◌%◌}
use native.Mathlib.Omega.{arith}
use borrow.Author.Tests.{ne_eqb}
use lib.Dec.{eqb}
use Rattle.annexg.specs.Read.{both_zero}
use Rattle.annexg.proofs.both_zero.Goals as goal

both_sum : (a b : ℕ) → eqb a 0 && eqb b 0 ≡ eqb (a + b) 0
both_sum zero b = let same : b ≡ 0 + b = omega arith in ap (λ (n : ℕ). eqb n 0) same
both_sum (suc a) b = rw (ne_eqb (suc a) 0 (λ e. omega (arith, e))) (sym (ne_eqb (suc a + b) 0 (λ e. omega (arith, e))))

pub returns : goal.returns
unfolding both_zero
returns c = let f = c.args.following in both_sum (f / 32768 % 2) (f / 8 % 2)
