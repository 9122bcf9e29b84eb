-- What the formatter answers and leaves: the block maker and then the writer (document 01, 'The block' and 'The choice between two streams').
--   write_block_refusal, write_block_next, write_block_out     a whole block of a run, from a record and the number of the block before (document 02, request 1)
--   format_refusal, formatted_buffer                       the run of one block, with its closing code
-- Assumes nothing.
use Rattle.std.specs.Prelude.{cond, Option, None, List, [], ◌∷◌, ℕ, eqb, length}
use Rattle.octets.specs.Halves.{packed}
use Rattle.eccblock.specs.Block.{block}
use Rattle.eccblock.specs.Encode.{encode_refusal}
use Rattle.streams.specs.Frames.{sectors_of, run_of}
use Rattle.writer.specs.Answers.{block_refusal}
use Rattle.writer.specs.Records.{start, running_of, after_block}
use Rattle.writer.specs.declared.Record.{Record}
use Rattle.layout.specs.Lengths.{block_size, sector_count, sectors_stream, stream_size}

-- ---- a block of a run

-- the number that n main data bytes, a stream buffer of m bytes, a first number and a Sector Information byte are refused with after the record w and the block
-- before: 1, then what the block maker refuses (2, 3, 10), then what the writer does (9, 7); 0 where nothing is refused
unfoldable pub write_block_refusal : Record → Option ℕ → ℕ → ℕ → ℕ → ℕ → ℕ
write_block_refusal w previous n m first info =
    let refusal = encode_refusal previous n block_size first info in
    cond (eqb m sectors_stream) (cond (eqb refusal 0) (block_refusal w) refusal) 1

-- the record and the stream buffer after the call: the block's sixteen sectors are written, or all is as it was where the call is refused
unfoldable pub write_block_next : Record → Option ℕ → List ℕ → ℕ → ℕ → ℕ → Record
write_block_next w previous main first info m =
    cond (eqb (write_block_refusal w previous (length main) m first info) 0) (after_block w (block main first info)) w

unfoldable pub write_block_out : Record → Option ℕ → List ℕ → ℕ → ℕ → List ℕ → List ℕ
write_block_out w previous main first info old =
    cond (eqb (write_block_refusal w previous (length main) (length old) first info) 0)
    (packed (sectors_of (running_of w) (block main first info) sector_count).halves) old

-- ---- the run of one block

-- the sixteen sectors of a block of the bytes bs and the closing code, by the two-stream rule from a new record
unfoldable pub block_stream : List ℕ → List ℕ
block_stream bs = packed (run_of (running_of start) (bs ∷ [])).halves

-- the lowest number that applies to n main data bytes, a stream buffer of m bytes, a first number and a Sector Information byte, or 0 where none does
unfoldable pub format_refusal : ℕ → ℕ → ℕ → ℕ → ℕ
format_refusal n m first info = cond (eqb m stream_size) (encode_refusal None n block_size first info) 1

-- the stream buffer after the call: the block's stream, or what it held where the call is refused
unfoldable pub formatted_buffer : List ℕ → ℕ → ℕ → List ℕ → List ℕ
formatted_buffer main first info old =
    cond (eqb (format_refusal (length main) (length old) first info) 0) (block_stream (block main first info)) old
