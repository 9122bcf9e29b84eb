-- The writer's refusals and answers (document 01, "Refused because of the state"; document 02, request 1, for a run of blocks,
-- request 4, for the peak, and request 5, for trial and take).
--   sector_refusal, sector_next, sector_out      the single write of a sector, which is no call any more: trial and take are said by it
--   trial_next                                 a trial, which is refused with what the single write is
--   take_refusal, take_next, take_out            a take
--   sectors_refusal, sectors_next, sectors_out   the sixteen sectors of a block
--   closing_refusal, closing_next, closing_out   closing
-- Assumes nothing.
use Rattle.std.specs.Prelude.{Bool, false, not, cond, ◌&&◌, ◌||◌, List, ℕ, ◌+◌, ◌*◌, ◌%◌, eqb, leb, ltb, ℤ, pos, negsuc, nat_abs, length}
use Rattle.lists.specs.Count.{bit}
use Rattle.annexg.specs.ZeroRuns.{inside}
use Rattle.octets.specs.Halves.{packed}
use Rattle.streams.specs.Frames.{sector_of, sectors_of, closing_of}
use Rattle.layout.specs.Lengths.{block_size, sector_count, sector_size, sector_stream, sectors_stream, sector_bits, closing_size, run_sectors}
use Rattle.writer.specs.Records.{running_of, marked_with, after_sector, after_block, after_closing}
use Rattle.writer.specs.declared.Record.{Record}

-- a count of sectors at which closing is accepted: whole blocks, at least one (document 02, request 1)
abbrev pub closes : ℕ → Bool
closes n = leb 1 n && eqb (n % sector_count) 0

-- DSV and peak that number 9 does not refuse: the absolute DSV at most 38,688 times the sectors, and 32 more if closed; the peak not below the
-- absolute DSV, or not by more than 32 if closed, and at most 38,688 times the sectors (document 02, request 4)
abbrev pub in_range : Record → Bool
in_range w =
    leb (nat_abs w.dsv) (sector_bits * w.sectors + 32 * bit w.closed)
    && (leb (nat_abs w.dsv) (w.peak + 32 * bit w.closed)
    && leb w.peak (sector_bits * w.sectors))

-- a record that number 9 does not refuse: State 1 to 4, level 0 or 1, at most 16,777,216 sectors, closed only at a count at which closing is accepted, DSV and
-- peak in range
unfoldable pub sound : Record → Bool
sound w =
    inside 1 4 w.state
    && (leb w.level 1
    && (leb w.sectors run_sectors
    && ((not w.closed || closes w.sectors)
    && in_range w)))

-- n sectors more can't follow: the closing code is written, or they would go over number 16,777,216 of the run
abbrev pub ended : Record → ℕ → Bool
ended w n = w.closed || ltb run_sectors (w.sectors + n)

-- ---- a sector

-- the number that the single write of a sector is refused with, by the lengths of its bytes and of the buffer lent: 1, then 9, then 7; 0 where nothing is refused
unfoldable pub sector_refusal : Record → ℕ → ℕ → ℕ
sector_refusal w from to = cond (eqb from sector_size && eqb to sector_stream) (cond (sound w) (cond (ended w 1) 7 0) 9) 1

-- the record and the buffer that the single write leaves: as they were where it is refused
unfoldable pub sector_next : Record → List ℕ → ℕ → Record
sector_next w bs to = cond (eqb (sector_refusal w (length bs) to) 0) (after_sector w bs) w

unfoldable pub sector_out : Record → List ℕ → List ℕ → List ℕ
sector_out w bs out = cond (eqb (sector_refusal w (length bs) (length out)) 0) (packed (sector_of (running_of w) bs).halves) out

-- ---- trial and take (document 02, request 5)

-- the DSV after a sector of the bytes bs
abbrev pub sector_dsv : Record → List ℕ → ℤ
sector_dsv w bs = (after_sector w bs).dsv

-- the record that a trial leaves: marked with that DSV, or as it was where the trial is refused, which it is with what the single write is
unfoldable pub trial_next : Record → List ℕ → ℕ → Record
trial_next w bs to = cond (eqb (sector_refusal w (length bs) to) 0) (marked_with w (sector_dsv w bs)) w

-- two DSVs are the same
abbrev pub same_dsv : ℤ → ℤ → Bool
same_dsv (pos m) (pos n) = eqb m n
same_dsv (pos m) (negsuc n) = false
same_dsv (negsuc m) (pos n) = false
same_dsv (negsuc m) (negsuc n) = eqb m n

-- the number that a take is refused with because of the mark, by the DSV d after its sector: 12 where no trial is marked, then 13 where the mark is another DSV
abbrev pub mark_refusal : Record → ℤ → ℕ
mark_refusal w d = cond w.marked (cond (same_dsv w.mark d) 0 13) 12

-- the number that a take is refused with: the single write's (1, 9, 7), then the mark's (12, 13)
unfoldable pub take_refusal : Record → List ℕ → ℕ → ℕ
take_refusal w bs to =
    let refusal = sector_refusal w (length bs) to in
    cond (eqb refusal 0) (mark_refusal w (sector_dsv w bs)) refusal

-- the record and the buffer that a take leaves: those that the single write leaves, or as they were where the take is refused
unfoldable pub take_next : Record → List ℕ → ℕ → Record
take_next w bs to = cond (eqb (take_refusal w bs to) 0) (after_sector w bs) w

unfoldable pub take_out : Record → List ℕ → List ℕ → List ℕ
take_out w bs out = cond (eqb (take_refusal w bs (length out)) 0) (packed (sector_of (running_of w) bs).halves) out

-- ---- the sixteen sectors of a block

-- the number that the sixteen sectors are refused with because of the record: 9, then 7
unfoldable pub block_refusal : Record → ℕ
block_refusal w = cond (sound w) (cond (ended w sector_count) 7 0) 9

-- the same by the lengths of the block and of the buffer lent too: 1, then 9, then 7
unfoldable pub sectors_refusal : Record → ℕ → ℕ → ℕ
sectors_refusal w from to = cond (eqb from block_size && eqb to sectors_stream) (block_refusal w) 1

-- the record and the buffer that the sixteen sectors leave: as they were where they are refused
unfoldable pub sectors_next : Record → List ℕ → ℕ → Record
sectors_next w bs to = cond (eqb (sectors_refusal w (length bs) to) 0) (after_block w bs) w

unfoldable pub sectors_out : Record → List ℕ → List ℕ → List ℕ
sectors_out w bs out = cond (eqb (sectors_refusal w (length bs) (length out)) 0) (packed (sectors_of (running_of w) bs sector_count).halves) out

-- ---- closing

-- the number that closing is refused with, by the length of the buffer lent: 1, then 9, then 7, then 8
unfoldable pub closing_refusal : Record → ℕ → ℕ
closing_refusal w to = cond (eqb to closing_size) (cond (sound w) (cond w.closed 7 (cond (closes w.sectors) 0 8)) 9) 1

-- the record and the buffer that closing leaves: as they were where it is refused
unfoldable pub closing_next : Record → ℕ → Record
closing_next w to = cond (eqb (closing_refusal w to) 0) (after_closing w) w

unfoldable pub closing_out : Record → List ℕ → List ℕ
closing_out w out = cond (eqb (closing_refusal w (length out)) 0) (packed (closing_of (running_of w)).halves) out
