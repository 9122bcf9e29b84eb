-- Document 02's words on a run held against the definitions. Request 1: at which counts closing is accepted (closing_counts), and which sector is the last
-- (last_sector, no_sector_after). Request 7: the closing code where the choice tips (closing_equal, closing_tipped). Request 4: number 9 at the edges of the
-- peak (peak_at_dsv, peak_at_limit).
-- Assumes nothing.
use mathlib.Core.Path.{◌≡◌, refl}
use mathlib.Core.Bool.{Bool, true, false}
use mathlib.Core.List.{List, [], ◌∷◌}
use Prim.Native.Nat.{ℕ}
use lib.IntN.{ℤ, pos, negsuc, nat_abs}
use Rattle.annexg.specs.Sync.{sync_table}
use Rattle.channel.specs.Bits.{bits_all}
use Rattle.levels.specs.Level.{level_after, dsv_after}
use Rattle.streams.specs.Frames.{closing_of}
use Rattle.streams.specs.Streams.{lay, lower, opened}
use Rattle.layout.specs.Lengths.{run_sectors}
use Rattle.writer.specs.Answers.{closes, sound, ended}
use Rattle.writer.specs.Records.{record_of, running_of, start}

-- not at no sectors, nor at a count that isn't a multiple of 16
pub closing_counts :
    (closes 0 ≡ false) × ((closes 8 ≡ false) × ((closes 16 ≡ true) × ((closes 17 ≡ false) × ((closes 32 ≡ true) × (closes run_sectors ≡ true)))))
closing_counts = (refl, (refl, (refl, (refl, (refl, refl)))))

-- sector 16,777,216 may follow, and none after it; sixteen may follow up to 16,777,200 sectors
pub last_sector : (ended (record_of (running_of start) 0 16777215 false) 1 ≡ false) × (ended (record_of (running_of start) 0 16777200 false) 16 ≡ false)
last_sector = (refl, refl)

pub no_sector_after : (ended (record_of (running_of start) 0 16777216 false) 1 ≡ true) × (ended (record_of (running_of start) 0 16777201 false) 16 ≡ true)
no_sector_after = (refl, refl)

-- request 7: the closing code from a State, a level and a DSV, where `negsuc n` is −1 − n. Where both codes of the class leave 7 to either side it is the Primary
abbrev closing_halves : ℕ → ℕ → ℤ → List ℕ
closing_halves s l d = (closing_of (running_of (record { state = s; level = l; dsv = d; sectors = 16; closed = false; peak = nat_abs d; marked = false; mark = pos 0 }))).halves

pub closing_equal :
    (closing_halves 1 0 (pos 3) ≡ 0x1244 ∷ 0x0011 ∷ [])
    × ((closing_halves 2 1 (negsuc 2) ≡ 0x1244 ∷ 0x0011 ∷ [])
    × ((closing_halves 3 0 (negsuc 2) ≡ 0x9204 ∷ 0x0011 ∷ [])
    × (closing_halves 4 1 (pos 3) ≡ 0x9204 ∷ 0x0011 ∷ [])))
unfolding lower opened lay level_after dsv_after bits_all sync_table
closing_equal = (refl, (refl, (refl, refl)))

-- with the DSV one further to the side where the Secondary leaves less
pub closing_tipped :
    (closing_halves 1 0 (pos 2) ≡ 0x1204 ∷ 0x0011 ∷ [])
    × ((closing_halves 2 1 (negsuc 1) ≡ 0x1204 ∷ 0x0011 ∷ [])
    × ((closing_halves 3 0 (negsuc 3) ≡ 0x9244 ∷ 0x0011 ∷ [])
    × (closing_halves 4 1 (pos 4) ≡ 0x9244 ∷ 0x0011 ∷ [])))
unfolding lower opened lay level_after dsv_after bits_all sync_table
closing_tipped = (refl, (refl, (refl, refl)))

-- request 4: number 9 by the peak, for a DSV, a count of sectors, open or closed. Not below the absolute DSV, and in a closed record not by more than 32
abbrev sound_with : ℤ → ℕ → Bool → ℕ → Bool
sound_with d n c p = sound (record { state = 1; level = 0; dsv = d; sectors = n; closed = c; peak = p; marked = false; mark = pos 0 })

pub peak_at_dsv :
    (sound_with (negsuc 99) 16 false 100 ≡ true)
    × ((sound_with (negsuc 99) 16 false 99 ≡ false)
    × ((sound_with (pos 100) 16 true 68 ≡ true)
    × (sound_with (pos 100) 16 true 67 ≡ false)))
unfolding sound
peak_at_dsv = (refl, (refl, (refl, refl)))

-- at most 38,688 times the sectors, closed or not; 0 before the first
pub peak_at_limit :
    (sound_with (pos 0) 16 false 619008 ≡ true)
    × ((sound_with (pos 0) 16 false 619009 ≡ false)
    × ((sound_with (negsuc 619039) 16 true 619008 ≡ true)
    × ((sound_with (pos 0) 16 true 619009 ≡ false)
    × ((sound_with (pos 0) 0 false 0 ≡ true)
    × (sound_with (pos 0) 0 false 1 ≡ false)))))
unfolding sound
peak_at_limit = (refl, (refl, (refl, (refl, (refl, refl)))))
