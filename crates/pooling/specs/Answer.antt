-- What the call that pools two readings of a block answers and leaves (document 02, request 8): 'the result replaces the first reading, the second stays.'
-- Assumes nothing.
use Rattle.std.specs.Prelude.{Bool, cond, ◌&&◌, ℕ, eqb, length, Result, Ok, Err, ⊤}
use Rattle.refusals.specs.declared.Refusal.{Refusal}
use Rattle.refusals.specs.declared.Refusal.TheVariants.{Length, Mark}
use Rattle.layout.specs.Lengths.{block_size}
use Rattle.repairer.specs.Answer.{marks_fit}
use Rattle.pooling.specs.Pool.{MarkedBytes, pooled}

-- the four buffers have the bytes of a block
unfoldable pub pool_sized : MarkedBytes → MarkedBytes → Bool
pool_sized a b =
    (eqb (length a.bytes) block_size && eqb (length a.erasures) block_size) && (eqb (length b.bytes) block_size && eqb (length b.erasures) block_size)

-- each mark of either reading is 0 or 1
unfoldable pub pool_marks_fit : MarkedBytes → MarkedBytes → Bool
pool_marks_fit a b = marks_fit a.erasures && marks_fit b.erasures

-- the answer to a first reading a and a second b
unfoldable pub pool_answer : MarkedBytes → MarkedBytes → Result ⊤ Refusal
pool_answer a b = cond (pool_sized a b) (cond (pool_marks_fit a b) (Ok tt) (Err Mark)) (Err Length)

-- the first reading after the call; the second is only lent to read
unfoldable pub pool_after : MarkedBytes → MarkedBytes → MarkedBytes
pool_after a b = cond (pool_sized a b && pool_marks_fit a b) (pooled a b) a

-- the number that a call is refused with: 1 where a length is wrong; else 11 where a mark is; 0 where nothing is refused
unfoldable pub pool_refusal : MarkedBytes → MarkedBytes → ℕ
pool_refusal a b = cond (pool_sized a b) (cond (pool_marks_fit a b) 0 11) 1
