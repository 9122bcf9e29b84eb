-- What a table of logarithms and powers of α holds. It is lent to the functions that multiply, so that no call makes it anew.
-- Assumes nothing.
use Rattle.std.specs.Prelude.{List, ◌≡◌, ℕ, ◌+◌, ◌<◌, get_or}
use Rattle.field.specs.Field.{pow}

-- entry 0: 0, since the element 0 has no logarithm; entries 1 to 255: the logarithm of each other element to the base α; from entry 256 on: α^0 .. α^511, so that
-- the sum of two logarithms is an index. Exactly one list of 768 entries is such a table (`log_table_unique`)
pub record LogTable (t : List ℕ) : Type 0 where
  pub log-zero : get_or t 0 0 ≡ 0
  pub log_small : (a : ℕ) → 0 < a → a < 256 → get_or t a 0 < 255
  pub log : (a : ℕ) → 0 < a → a < 256 → pow 2 (get_or t a 0) ≡ a
  pub exp : (i : ℕ) → i < 512 → get_or t (256 + i) 0 ≡ pow 2 i
