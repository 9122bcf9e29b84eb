-- What a call of the block maker answers and leaves (document 01, 'Refused because of the input', numbers 1 to 3; document 02, request 1, number 10).
-- Assumes nothing.
use Rattle.std.specs.Prelude.{Bool, true, ◌&&◌, cond, Option, None, Some, List, ◌≡◌, ℕ, ◌+◌, ◌%◌, ◌<◌, eqb, leb, length}
use Rattle.lists.specs.Bytes.{Bytes}
use Rattle.dataframe.specs.Frame.{is_permitted}
use Rattle.layout.specs.Lengths.{main_size, block_size, last_first}
use Rattle.eccblock.specs.Block.{block}

-- whether a first number follows on the block before (document 02, request 1), given by its first number, or None where a run begins: any does where there is none,
-- else that block's first number plus 16. The sum is in ℕ, so that 0 follows on no block
abbrev pub follows : Option ℕ → ℕ → Bool
follows None first = true
follows (Some before) first = eqb first (before + 16)

-- the lowest number that applies to the block before, n main data bytes, a block buffer of m bytes, a first number and a Sector Information byte, or 0 where none
-- does: 1 another length than stated; 2 no multiple of 16, or over 16,777,200; 3 a bit outside (2D); 10 a first number that does not follow on
unfoldable pub encode_refusal : Option ℕ → ℕ → ℕ → ℕ → ℕ → ℕ
encode_refusal previous n m first info =
    cond (eqb n main_size && eqb m block_size)
    (cond (eqb (first % 16) 0 && leb first last_first) (cond (is_permitted info) (cond (follows previous first) 0 10) 3) 2)
    1

-- the block buffer after the call: the block, or what it held where the call is refused
unfoldable pub encoded_buffer : Option ℕ → List ℕ → ℕ → ℕ → List ℕ → List ℕ
encoded_buffer previous main first info old =
    cond (eqb (encode_refusal previous (length main) (length old) first info) 0) (block main first info) old

-- a block is accepted after the block before when the block maker refuses nothing (document 01, 'Permitted stream'; document 02, request 1)
pub record Accepted (previous : Option ℕ) (main : List ℕ) (first info : ℕ) : Type 0 where
  pub bytes : Bytes main
  pub byte : info < 256
  pub taken : encode_refusal previous (length main) block_size first info ≡ 0
