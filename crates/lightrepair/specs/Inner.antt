-- The vocabulary of the inner contracts: what the formulas hand to the repair. No public contract cites it, and nobody needs to believe it.
-- Assumes nothing.
use Rattle.std.specs.Prelude.{Bool, true, false, Option, List, [], ◌∷◌, ◌≡◌, ℕ, ◌<◌, ◌≤◌}
use Rattle.std.specs.Prelude.{Some, None}
use Rattle.field.specs.Field.{add, mul, pow}
use Rattle.codes.specs.declared.WrongByte.{WrongByte}
use Rattle.codes.specs.Inner.{Unexplained}
use Rattle.lightrepair.specs.declared.formulas.Errors.{Errors}
use Rattle.lightrepair.specs.declared.formulas.Errors.TheVariants.{None as NoError, One, Two}

-- the wrong bytes that are told
abbrev pub wrong_bytes : Errors → List WrongByte
wrong_bytes NoError = []
wrong_bytes (One e) = e ∷ []
wrong_bytes (Two e f) = e ∷ f ∷ []

-- no two places of a word of n bytes have the roots of x² + a x + b for locators
abbrev pub NoRoots : ℕ → ℕ → ℕ → Type 0
NoRoots a b n = (k l : ℕ) → k < n → l < n → a ≡ add (pow 2 k) (pow 2 l) → b ≡ mul (pow 2 k) (pow 2 l) → ⊥

-- neither no wrong byte nor one nor two explain p sums of a word of n bytes
abbrev pub Heavier : (ℕ → ℕ) → ℕ → ℕ → Type 0
Heavier S p n = (m : ℕ) → m ≤ 2 → Unexplained S p n m

-- the first number below n that passes a test is told, and none where none does
abbrev pub FirstBelow : (ℕ → Bool) → ℕ → Option ℕ → Type 0
FirstBelow test n None = (k : ℕ) → k < n → test k ≡ false
FirstBelow test n (Some r) = (r < n) × (test r ≡ true) × ((k : ℕ) → k < r → test k ≡ false)
