-- Texts written one after the other.
-- Assumes nothing.
use mathlib.Core.List.{List, ◌++◌, append_assoc}
use mathlib.Core.Path.{◌≡◌, ap, ◌∙◌}
use Prim.Native.Nat.{ℕ}

-- the text a is written, and then b
pub then : {w x a : List ℕ} (b : List ℕ) → w ≡ a → x ≡ w ++ b → x ≡ a ++ b
then b e f = f ∙ ap (λ (z : List ℕ). z ++ b) e

-- a block's line, part by part
pub parts :
    (block hex rows columns unknown sync end : List ℕ)
    → (((((block ++ hex) ++ rows) ++ columns) ++ unknown) ++ sync) ++ end ≡ (block ++ hex) ++ (rows ++ columns) ++ ((unknown ++ sync) ++ end)
parts block hex rows columns unknown sync end = simp append_assoc
