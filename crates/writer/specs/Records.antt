-- The writer's record, and what a sector, a block's sectors and the closing code make of it (document 01, "The choice between two streams"; document 02,
-- request 4, for the peak, and request 5, for the mark).
-- Assumes nothing.
use Rattle.std.specs.Prelude.{Bool, true, false, List, ℕ, suc, ◌+◌, ◌*◌, ◌-◌, max, ℤ, pos, negsuc, ◌-ℤ◌, length, Result, Ok, Err}
use Rattle.levels.specs.Level.{zero_at}
use Rattle.levels.specs.declared.Running.{Running}
use Rattle.refusals.specs.declared.Refusal.{Refusal}
use Rattle.streams.specs.Frames.{sector_of, sectors_of, closing_of, run_of}
use Rattle.streams.specs.Peak.{peak_of}
use Rattle.streams.specs.Streams.{Stream}
use Rattle.layout.specs.Lengths.{sector_count, sector_frames}
use Rattle.writer.specs.declared.Record.{Record}

-- the record holds the DSV as a signed number, the running record holds it with 0 at 2^40: one from the other
abbrev pub offset : ℤ → ℕ
offset (pos n) = zero_at + n
offset (negsuc n) = zero_at - suc n

abbrev pub signed : ℕ → ℤ
signed d = pos d -ℤ pos zero_at

-- the record with another mark: the DSV that a trial gave, or none, for which the number is 0 (document 02, request 5)
abbrev pub marked_with : Record → ℤ → Record
marked_with w d =
    record { state = w.state; level = w.level; dsv = w.dsv; sectors = w.sectors; closed = w.closed; peak = w.peak; marked = true; mark = d }

abbrev pub unmarked : Record → Record
unmarked w =
    record { state = w.state; level = w.level; dsv = w.dsv; sectors = w.sectors; closed = w.closed; peak = w.peak; marked = false; mark = pos 0 }

-- a run starts at State 1, level ZERO, DSV 0, peak 0, with no mark; its later blocks go on from the record
abbrev pub start : Record
start = record { state = 1; level = 0; dsv = pos 0; sectors = 0; closed = false; peak = 0; marked = false; mark = pos 0 }

-- the running record from which the next sector or the closing code is laid
abbrev pub running_of : Record → Running
running_of w = record { state = w.state; level = w.level; dsv = offset w.dsv }

-- the record with another running record and peak, so many sectors, open or closed; whatever is written drops a mark
abbrev pub record_of : Running → ℕ → ℕ → Bool → Record
record_of r p n c = record { state = r.state; level = r.level; dsv = signed r.dsv; sectors = n; closed = c; peak = p; marked = false; mark = pos 0 }

-- the peak after n sectors of the stream m: the greatest of what the record held and of the absolute DSVs at the ends of their frames, 26 a sector
-- (document 02, request 4)
abbrev pub peak_after : Record → Stream → ℕ → ℕ
peak_after w m n = max w.peak (peak_of (running_of w) m.halves (sector_frames * n))

-- the record after n sectors of the stream m
abbrev pub after_sectors : Record → Stream → ℕ → Record
after_sectors w m n = record_of m.running (peak_after w m n) (w.sectors + n) w.closed

-- after a sector of the bytes bs
abbrev pub after_sector : Record → List ℕ → Record
after_sector w bs = after_sectors w (sector_of (running_of w) bs) 1

-- after the sixteen sectors of a block
abbrev pub after_block : Record → List ℕ → Record
after_block w bs = after_sectors w (sectors_of (running_of w) bs sector_count) sector_count

-- after the closing code, which doesn't count towards the peak
abbrev pub after_closing : Record → Record
after_closing w = record_of (closing_of (running_of w)).running w.peak w.sectors true

-- after the blocks of a run and the closing code
abbrev pub after_run : Record → List (List ℕ) → Record
after_run w run =
    let m = run_of (running_of w) run in
    let n = sector_count * length run in
    record_of m.running (peak_after w m n) (w.sectors + n) true

-- the record after a call: the one that it hands back, or the old one where it refuses
abbrev pub record_after : Record → Result Record Refusal → Record
record_after w (Ok next) = next
record_after w (Err refusal) = w
