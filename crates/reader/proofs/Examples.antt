-- Closing codes, computed from the definition.
-- Assumes nothing.
use mathlib.Core.Bool.{true, false}
use mathlib.Core.List.{[], ◌∷◌}
use mathlib.Core.Path.{◌≡◌, refl}
use Rattle.annexg.specs.Sync.{sync_table, is_sync}
use Rattle.octets.specs.Halves.{half_at}
use Rattle.reader.specs.Closing.{closing_holds}

-- SY0 of table 4: Primary and Secondary in States 1 and 2, then in States 3 and 4
pub closing_codes :
    (closing_holds (0x12 ∷ 0x44 ∷ 0x00 ∷ 0x11 ∷ []) ≡ true)
    × (closing_holds (0x12 ∷ 0x04 ∷ 0x00 ∷ 0x11 ∷ []) ≡ true)
    × (closing_holds (0x92 ∷ 0x04 ∷ 0x00 ∷ 0x11 ∷ []) ≡ true)
    × (closing_holds (0x92 ∷ 0x44 ∷ 0x00 ∷ 0x11 ∷ []) ≡ true)
unfolding closing_holds is_sync half_at sync_table
closing_codes = (refl, refl, refl, refl)

-- SY1, another second half, a byte less and a byte more
pub no_closing_codes :
    (closing_holds (0x04 ∷ 0x04 ∷ 0x00 ∷ 0x11 ∷ []) ≡ false)
    × (closing_holds (0x12 ∷ 0x44 ∷ 0x00 ∷ 0x10 ∷ []) ≡ false)
    × (closing_holds (0x12 ∷ 0x44 ∷ 0x00 ∷ []) ≡ false)
    × (closing_holds (0x12 ∷ 0x44 ∷ 0x00 ∷ 0x11 ∷ 0x00 ∷ []) ≡ false)
unfolding closing_holds is_sync half_at sync_table
no_closing_codes = (refl, refl, refl, refl)
