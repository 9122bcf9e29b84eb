-- What the row theorem asks of two readings (document 02, request 8): 'A row in which every place is right and unmarked in at least one reading, and in which the two
-- readings together have at most ten unmarked wrong bytes'. Stated for words of any length; c is the word that was made, and a and b are the readings of it.
--   is_right, is_covered, wrong_in, is_poolable    of a word
--   row_of_reading, unpoolable_rows               of a block
-- Assumes nothing.
use Rattle.std.specs.Prelude.{Bool, not, ◌&&◌, ◌||◌, List, ℕ, ◌+◌, eqb, leb, length, get_or}
use Rattle.lists.specs.Count.{count_from}
use Rattle.lists.specs.Test.{below}
use Rattle.codes.specs.Erasures.{error_count}
use Rattle.layout.specs.Lengths.{row_count, inner_size}
use Rattle.layout.specs.Rows.{row_of}
use Rattle.pooling.specs.Pool.{MarkedBytes, byte_at, marked_at}

-- place i is right and unmarked in a reading
abbrev pub is_right : List ℕ → MarkedBytes → ℕ → Bool
is_right c a i = not (marked_at a i) && eqb (byte_at a i) (get_or c i 0)

-- every place is, in at least one of two readings
unfoldable pub is_covered : List ℕ → MarkedBytes → MarkedBytes → Bool
is_covered c a b = below (length c) (λ i. is_right c a i || is_right c b i)

-- how many unmarked bytes of a reading are wrong
abbrev pub wrong_in : List ℕ → MarkedBytes → ℕ
wrong_in c a = error_count a.erasures a.bytes c

-- as the theorem asks: and the two together have at most p wrong ones
abbrev pub is_poolable : ℕ → List ℕ → MarkedBytes → MarkedBytes → Bool
is_poolable p c a b = is_covered c a b && leb (wrong_in c a + wrong_in c b) p

-- recording row r of a reading of a block
abbrev pub row_of_reading : MarkedBytes → ℕ → MarkedBytes
row_of_reading a r = record { bytes = row_of a.bytes r; erasures = row_of a.erasures r }

-- how many of the rows of a block c are not as the theorem asks, with ten roots
unfoldable pub unpoolable_rows : List ℕ → MarkedBytes → MarkedBytes → ℕ
unpoolable_rows c a b = count_from (λ r. not (is_poolable inner_size (row_of c r) (row_of_reading a r) (row_of_reading b r))) 0 row_count
