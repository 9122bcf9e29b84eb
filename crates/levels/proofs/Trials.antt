-- The starred trials of document 01's table, of which these are 6 to 12. Each field is one trial, said of the definitions; `trials` proves them all.
-- Assumes nothing.
use mathlib.Core.Path.{◌≡◌, refl}
use mathlib.Core.Bool.{Bool, true, false}
use mathlib.Core.List.{[], ◌∷◌}
use Prim.Native.Nat.{ℕ, ◌+◌, ◌-◌, ◌/◌}
use Rattle.annexg.specs.Read.{table_of, word_of, next_of}
use Rattle.annexg.specs.ZeroRuns.{trail}
use Rattle.annexg.specs.Sync.{sync_table, sync_end}
use Rattle.annexg.specs.Tables.{main_table}
use Rattle.channel.specs.Bits.{bits_all}
use Rattle.channel.specs.Channel.{Item, sync, byte, entry_for, halves_for, next_for, join_zeros, permitted}
use Rattle.levels.specs.Level.{zero_at, level_after, dsv_after, running_after}
use Rattle.levels.specs.declared.Running.{Running}

-- the running record in State s at level l, DSV 0, and the record after an item by a choice
abbrev start : ℕ → ℕ → Running
start s l = record { state = s; level = l; dsv = zero_at }

abbrev after : ℕ → ℕ → Item → Bool → Running
after s l i c = running_after (start s l) (next_for s i c) (halves_for s i c)

-- two bytes, the main word of the first in State 1 and then the other choice for the second
abbrev pair : ℕ → ℕ → Bool
pair a b = permitted 1 sync_end (byte a ∷ byte b ∷ []) (false ∷ true ∷ [])

pub record Trials6to12 : Type 0 where
  -- 6: 207 and 215 in State 1: both 0000010010001000, next State 2 and 3
  pub trial_6 :
      (word_of 0 207 0 ≡ 0b0000010010001000) × ((next_of 0 207 0 ≡ 2) × ((word_of 0 215 0 ≡ 0b0000010010001000) × (next_of 0 215 0 ≡ 3)))
  -- 7: 255 in State 1 from level ZERO: 0000001000001000, DSV -4, level ZERO; from ONE: +4
  pub trial_7 :
      (halves_for 1 (byte 255) false ≡ 0b0000001000001000 ∷ [])
      × (((after 1 0 (byte 255) false).dsv ≡ zero_at - 4) × (((after 1 0 (byte 255) false).level ≡ 0) × ((after 1 1 (byte 255) false).dsv ≡ zero_at + 4)))
  -- 8: SY1, States 1 and 2, from ZERO: Primary -8, Secondary +6
  pub trial_8 :
      (((after 1 0 (sync 1) false).dsv ≡ zero_at - 8) × ((after 1 0 (sync 1) true).dsv ≡ zero_at + 6))
      × (((after 2 0 (sync 1) false).dsv ≡ zero_at - 8) × ((after 2 0 (sync 1) true).dsv ≡ zero_at + 6))
  -- 9: after 166 (0010010000100010) the State 4 word of 255 (0100001000010010) may follow
  pub trial_9 : (word_of 0 166 0 ≡ 0b0010010000100010) × ((entry_for 1 255 true / 16 ≡ 0b0100001000010010) × (pair 166 255 ≡ true))
  -- 10: after 165 (0010010010010001) not
  pub trial_10 : (word_of 0 165 0 ≡ 0b0010010010010001) × (pair 165 255 ≡ false)
  -- 11: after 230 in State 1 (six ZEROs last) the State 1 word of 246 may follow, zero run 10
  pub trial_11 : (trail (word_of 0 230 0) ≡ 6) × ((join_zeros (word_of 0 230 0) (entry_for 4 246 true / 16) ≡ 10) × (pair 230 246 ≡ true))
  -- 12: that of 250 not, zero run 11
  pub trial_12 : (join_zeros (word_of 0 230 0) (entry_for 4 250 true / 16) ≡ 11) × (pair 230 250 ≡ false)

pub trials : Trials6to12
unfolding table_of main_table sync_table join_zeros permitted bits_all level_after dsv_after
trials = record {
  trial_6 = (refl, (refl, (refl, refl)));
  trial_7 = (refl, (refl, (refl, refl)));
  trial_8 = ((refl, refl), (refl, refl));
  trial_9 = (refl, (refl, refl));
  trial_10 = (refl, refl);
  trial_11 = (refl, (refl, refl));
  trial_12 = (refl, refl);
}
