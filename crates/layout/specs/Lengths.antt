-- The lengths of the format, each once: of a Data Frame, of a block and its rows, of a sector and a block on the channel, of a run, of a capture. The code has them
-- by the same names in capitals (src/lib.rt). In bytes where nothing else is said.
-- Assumes nothing.
use Rattle.std.specs.Prelude.{ℕ}

-- ---- a Data Frame (ECMA-268, clause 16)

-- ID, IED and CPR_MAI, the bytes before the main data
abbrev pub head_size : ℕ
head_size = 12

-- the main data of a frame
abbrev pub frame_main_size : ℕ
frame_main_size = 2048

-- where EDC stands: the bytes that it is over
abbrev pub edc_place : ℕ
edc_place = 2060

-- a Data Frame, with EDC's four bytes
abbrev pub frame_size : ℕ
frame_size = 2064

-- ---- an ECC Block (clause 18) and its Recording Frames (clause 19)

-- frames of a block, and sectors
abbrev pub sector_count : ℕ
sector_count = 16

-- the main data of a block, 16 · 2,048
abbrev pub main_size : ℕ
main_size = 32768

-- rows of a frame; of all frames, 16 · 12; with the rows of outer parity
abbrev pub frame_rows : ℕ
frame_rows = 12

abbrev pub data_rows : ℕ
data_rows = 192

abbrev pub row_count : ℕ
row_count = 208

-- columns of the frames; a row with its bytes of inner parity
abbrev pub column_count : ℕ
column_count = 172

abbrev pub row_size : ℕ
row_size = 182

-- bytes of outer parity of a column, and of inner parity of a row
abbrev pub outer_size : ℕ
outer_size = 16

abbrev pub inner_size : ℕ
inner_size = 10

-- rows of a Recording Frame: twelve of its frame and one of outer parity
abbrev pub sector_rows : ℕ
sector_rows = 13

-- a sector of a block in recording order, 13 · 182; and a block, 208 · 182
abbrev pub sector_size : ℕ
sector_size = 2366

abbrev pub block_size : ℕ
block_size = 37856

-- the largest first number of a block, 2^24 - 16
abbrev pub last_first : ℕ
last_first = 16777200

-- ---- the channel (clauses 20 and 21)

-- a Sync Frame: bytes that it carries; half words; bytes of stream; code bits
abbrev pub frame_bytes : ℕ
frame_bytes = 91

abbrev pub frame_halves : ℕ
frame_halves = 93

abbrev pub frame_stream : ℕ
frame_stream = 186

abbrev pub frame_bits : ℕ
frame_bits = 1488

-- a SYNC Code, in code bits
abbrev pub sync_bits : ℕ
sync_bits = 32

-- Sync Frames of a sector
abbrev pub sector_frames : ℕ
sector_frames = 26

-- a sector of stream, 26 · 186; its code bits; a sector with the two bytes after it, as the sector reader takes it
abbrev pub sector_stream : ℕ
sector_stream = 4836

abbrev pub sector_bits : ℕ
sector_bits = 38688

abbrev pub sector_read : ℕ
sector_read = 4838

-- Sync Frames of a block; the sixteen sectors of a block; the closing SYNC Code; a block of stream with it; its code bits
abbrev pub block_frames : ℕ
block_frames = 416

abbrev pub sectors_stream : ℕ
sectors_stream = 77376

abbrev pub closing_size : ℕ
closing_size = 4

abbrev pub stream_size : ℕ
stream_size = 77380

abbrev pub stream_bits : ℕ
stream_bits = 619040

-- ---- a run of blocks (document 02, request 1)

-- the most sectors of a run, 2^24: as many as there are sector numbers
abbrev pub run_sectors : ℕ
run_sectors = 16777216

-- ---- a capture (document 02, request 6)

-- the longest capture, 2^40
abbrev pub longest_capture : ℕ
longest_capture = 1099511627776
