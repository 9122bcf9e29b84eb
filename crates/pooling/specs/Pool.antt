-- Two readings of one block, pooled (document 02, request 8): 'At a place where both are unmarked and equal, that byte stands. Where exactly one is marked, the
-- unmarked byte stands without a mark. Elsewhere the byte is 0 and marked.' Stated for readings of any length, so of a row too.
--   MarkedBytes, byte_at, marked_at     a reading, and one place of it
--   pooled_byte, pooled_mark, pooled    what stands at a place, and at all
--   zeroed                            a reading with byte 0 at its marked places
-- Assumes nothing.
use Rattle.std.specs.Prelude.{Bool, true, false, not, cond, List, ℕ, eqb, length, get_or}
use Rattle.lists.specs.Count.{bit}
use Rattle.lists.specs.Fill.{tabulate}
use Rattle.codes.specs.Erasures.{is_erased}

-- a reading: bytes, and a mark for each, 1 where it is marked and 0 where it is not
pub record MarkedBytes : Type 0 where
  pub bytes : List ℕ
  pub erasures : List ℕ

abbrev pub with_marks : List ℕ → List ℕ → MarkedBytes
with_marks xs ms = record { bytes = xs; erasures = ms }

-- place i of a reading: its byte, and whether it is marked
abbrev pub byte_at : MarkedBytes → ℕ → ℕ
byte_at a i = get_or a.bytes i 0

abbrev pub marked_at : MarkedBytes → ℕ → Bool
marked_at a i = is_erased a.erasures i

-- one place, where m says whether a reading's byte x is marked, and n of the other's y: the byte that stands there
abbrev pub pooled_byte : Bool → ℕ → Bool → ℕ → ℕ
pooled_byte false x false y = cond (eqb x y) x 0
pooled_byte false x true y = x
pooled_byte true x false y = y
pooled_byte true x true y = 0

-- and whether it is marked
abbrev pub pooled_mark : Bool → ℕ → Bool → ℕ → Bool
pooled_mark false x false y = not (eqb x y)
pooled_mark false x true y = false
pooled_mark true x false y = false
pooled_mark true x true y = true

-- the readings a and b, which are of one length, pooled place by place
unfoldable pub pooled : MarkedBytes → MarkedBytes → MarkedBytes
pooled a b = record {
  bytes = tabulate (λ i. pooled_byte (marked_at a i) (byte_at a i) (marked_at b i) (byte_at b i)) (length a.bytes);
  erasures = tabulate (λ i. bit (pooled_mark (marked_at a i) (byte_at a i) (marked_at b i) (byte_at b i))) (length a.bytes);
}

-- a reading with byte 0 at the marked places. Pooled with itself, a reading gives this (proofs/Laws, pool_self)
unfoldable pub zeroed : MarkedBytes → MarkedBytes
zeroed a = record { bytes = tabulate (λ i. cond (marked_at a i) 0 (byte_at a i)) (length a.bytes); erasures = a.erasures }
