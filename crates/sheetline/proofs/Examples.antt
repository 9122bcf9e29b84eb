-- The lines that document 01 prints (`The bench sheet`) and one with every number different, computed from the definition.
-- Assumes nothing.
use mathlib.Core.List.{[], ◌∷◌}
use mathlib.Core.Path.{◌≡◌, refl}
use Rattle.std.specs.Prelude.{Some, None, Ok, Err}
use Rattle.std.specs.Fmt.{digits}
use Rattle.refusals.specs.declared.Refusal.TheVariants.{Length, Edc}
use Rattle.repairer.specs.declared.Tallies.{Tallies}
use Rattle.sheetline.specs.Line.{sheet_line}

abbrev pub untouched : Tallies
untouched = record { rows = record { corrected = 0; uncorrectable = 0 }; columns = record { corrected = 0; uncorrectable = 0 } }

-- 'block 030000 rows 0 0 columns 0 0 unknown 0 sync 0'
pub undamaged :
    sheet_line (Ok (record { first = 196608; tallies = untouched; unknown = 0; sync = 0 }))
    ≡ 98 ∷ 108 ∷ 111 ∷ 99 ∷ 107 ∷ 32 ∷ 48 ∷ 51 ∷ 48 ∷ 48 ∷ 48 ∷ 48 ∷ 32 ∷ 114 ∷ 111 ∷ 119 ∷ 115 ∷ 32 ∷ 48 ∷ 32 ∷ 48 ∷ 32 ∷ 99 ∷ 111 ∷ 108 ∷ 117 ∷ 109 ∷ 110 ∷ 115 ∷ 32 ∷ 48 ∷ 32 ∷ 48 ∷ 32 ∷ 117 ∷ 110 ∷ 107 ∷ 110 ∷ 111 ∷ 119 ∷ 110 ∷ 32 ∷ 48 ∷ 32 ∷ 115 ∷ 121 ∷ 110 ∷ 99 ∷ 32 ∷ 48 ∷ 10 ∷ []
unfolding sheet_line digits
undamaged = refl

-- 'refused 6 frame 3'
pub frame_refused :
    sheet_line (Err (record { refusal = Edc; frame = Some 3 })) ≡ 114 ∷ 101 ∷ 102 ∷ 117 ∷ 115 ∷ 101 ∷ 100 ∷ 32 ∷ 54 ∷ 32 ∷ 102 ∷ 114 ∷ 97 ∷ 109 ∷ 101 ∷ 32 ∷ 51 ∷ 10 ∷ []
unfolding sheet_line digits
frame_refused = refl

-- 'refused 1'
pub length_refused : sheet_line (Err (record { refusal = Length; frame = None })) ≡ 114 ∷ 101 ∷ 102 ∷ 117 ∷ 115 ∷ 101 ∷ 100 ∷ 32 ∷ 49 ∷ 10 ∷ []
unfolding sheet_line digits
length_refused = refl

-- 'block FFFFF0 rows 201 7 columns 172 13 unknown 1619 sync 222', with every number in its place
pub counted :
    sheet_line (Ok (record { first = 16777200; tallies = record { rows = record { corrected = 201; uncorrectable = 7 }; columns = record { corrected = 172; uncorrectable = 13 } }; unknown = 1619; sync = 222 }))
    ≡ 98 ∷ 108 ∷ 111 ∷ 99 ∷ 107 ∷ 32 ∷ 70 ∷ 70 ∷ 70 ∷ 70 ∷ 70 ∷ 48 ∷ 32 ∷ 114 ∷ 111 ∷ 119 ∷ 115 ∷ 32 ∷ 50 ∷ 48 ∷ 49 ∷ 32 ∷ 55 ∷ 32 ∷ 99 ∷ 111 ∷ 108 ∷ 117 ∷ 109 ∷ 110 ∷ 115 ∷ 32 ∷ 49 ∷ 55 ∷ 50 ∷ 32 ∷ 49 ∷ 51 ∷ 32 ∷ 117 ∷ 110 ∷ 107 ∷ 110 ∷ 111 ∷ 119 ∷ 110 ∷ 32 ∷ 49 ∷ 54 ∷ 49 ∷ 57 ∷ 32 ∷ 115 ∷ 121 ∷ 110 ∷ 99 ∷ 32 ∷ 50 ∷ 50 ∷ 50 ∷ 10 ∷ []
unfolding sheet_line digits
counted = refl
