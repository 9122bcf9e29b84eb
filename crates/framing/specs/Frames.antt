-- The Sync Frames of a capture, of which nobody knows where they start (document 02, request 6), bit by bit. A capture is whole bytes; bits are counted from 0.
--   bit_count                   the bits of a capture
--   sync_at, frame_at            a full SYNC Code at a bit, and a frame
--   taken_in, frames_from        the look, and the frames that it takes
--   frame_byte, bytes_of_frame    the bytes of a frame
--   bytes_of                    and of frames, one after the other
-- Assumes nothing.
use Rattle.std.specs.Prelude.{Bool, true, false, ◌&&◌, List, [], ◌∷◌, ◌++◌, ℕ, zero, suc, ◌+◌, ◌*◌, leb, length}
use Rattle.lists.specs.Fill.{tabulate}
use Rattle.octets.specs.Halves.{bits_at}
use Rattle.layout.specs.Lengths.{frame_bits, frame_bytes, sync_bits}
use Rattle.annexg.specs.Read.{read_word}
use Rattle.annexg.specs.Sync.{is_sync}
use Rattle.channel.specs.Block.{some_from, reading_byte}

abbrev pub bit_count : List ℕ → ℕ
bit_count xs = 8 * length xs

-- 'any full SYNC Code of table 4' stands at bit p: its 32 bits are all in the capture, and they are a code of one of SY0 to SY7, Primary or Secondary, of either
-- class
unfoldable pub sync_at : List ℕ → ℕ → Bool
sync_at xs p = leb (p + sync_bits) (bit_count xs) && some_from (λ n. is_sync n (bits_at xs p 16) (bits_at xs (p + 16) 16)) 0 8

-- a frame of 1,488 bits starts at bit p: 'where any full SYNC Code of table 4 starts it and any, also the same, stands exactly 1,488 bits later'
unfoldable pub frame_at : List ℕ → ℕ → Bool
frame_at xs p = sync_at xs p && sync_at xs (p + frame_bits)

-- the frames taken in n looks, of which the first is at bit p, by the bits at which they start. Where a frame starts it is taken, and the look moves to its second
-- SYNC Code; 'otherwise the look moves on by one bit'
unfoldable pub taken_in : ℕ → List ℕ → ℕ → List ℕ
taken_in zero xs p = []
taken_in (suc n) xs p = elim (frame_at xs p) [ true ↦ p ∷ taken_in n xs (p + frame_bits) | false ↦ taken_in n xs (suc p) ]

-- the frames taken where the look starts at bit p. Each look moves it on by a bit at least, so that as many looks as there are bits see them all
abbrev pub frames_from : List ℕ → ℕ → List ℕ
frames_from xs p = taken_in (bit_count xs) xs p

-- byte i of the frame that starts at bit p: its Code Word is read with the 16 bits after it, which for the last one are the first half of the second SYNC Code.
-- An unknown word gives byte 0
unfoldable pub frame_byte : List ℕ → ℕ → ℕ → ℕ
frame_byte xs p i = let word = p + sync_bits + 16 * i in reading_byte (read_word (bits_at xs word 16) (bits_at xs (word + 16) 16))

-- its 91 bytes
abbrev pub bytes_of_frame : List ℕ → ℕ → List ℕ
bytes_of_frame xs p = tabulate (frame_byte xs p) frame_bytes

-- the bytes of the frames that start at the bits ps, in order
unfoldable pub bytes_of : List ℕ → List ℕ → List ℕ
bytes_of xs [] = []
bytes_of xs (p ∷ ps) = bytes_of_frame xs p ++ bytes_of xs ps
