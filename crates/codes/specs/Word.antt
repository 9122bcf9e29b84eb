-- Words of bytes as polynomials over the field: the first byte has the highest power (ECMA-268, 18; document 01, 'The block').
-- Assumes nothing.
use Rattle.std.specs.Prelude.{Bool, List, [], ◌∷◌, ℕ, eqb, length, get_or}
use Rattle.lists.specs.Test.{below}
use Rattle.field.specs.Field.{add, mul, pow}

-- the value at x of a word that follows a part with the value v: each byte takes v to v times x and the byte
unfoldable pub value_from : ℕ → ℕ → List ℕ → ℕ
value_from x v [] = v
value_from x v (b ∷ w) = value_from x (add (mul v x) b) w

-- the value of a word at x
unfoldable pub value_at : List ℕ → ℕ → ℕ
value_at w x = value_from x 0 w

-- syndrome i: the value of a word at the root α^i (document 01: 'the sums of a row at the roots')
unfoldable pub syndrome : List ℕ → ℕ → ℕ
syndrome w i = value_at w (pow 2 i)

-- a code word with p roots α^0 .. α^(p-1): its first p syndromes are 0
unfoldable pub is_code : ℕ → List ℕ → Bool
is_code p w = below p (λ i. eqb (syndrome w i) 0)

-- each entry of a list is 0. Of the p syndromes of a word this says that it is a code word (proofs/Decision, `all_zero-is_code`)
unfoldable pub all_zero : List ℕ → Bool
all_zero s = below (length s) (λ i. eqb (get_or s i 0) 0)
