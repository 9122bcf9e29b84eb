-- `annexg::fits` meets its contract. Assumes nothing.
use mathlib.Core.Path.{ap₂}
use mathlib.Core.Bool.{Bool, ◌&&◌}
use Prim.Native.Nat.{ℕ, ◌/◌}
use lib.Dec.{eqb}
use Rattle.annexg.specs.Read.{fits_of}
use Rattle.annexg.proofs.fits.Goals as goal

pub returns : goal.returns
unfolding fits_of
returns c = let a = c.args in ap₂ (λ (w : ℕ) (b : Bool). eqb (a.entry / 16) w && b) c.from.ensures c.agrees_with.ensures
