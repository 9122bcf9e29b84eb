-- What is checked of a frame that was read (document 01, 'Refused because of the input', numbers 4 to 6), its main data, and that of a block buffer. A frame here
-- is scrambled, and CPR_MAI is not checked.
-- Assumes nothing.
use Rattle.std.specs.Prelude.{Bool, ◌&&◌, ◌||◌, not, cond, List, ℕ, ◌+◌, ◌*◌, ◌/◌, ◌%◌, eqb, get_or, take, drop}
use Rattle.lists.specs.Count.{distance}
use Rattle.lists.specs.Fill.{tabulate}
use Rattle.edc.specs.Edc.{edc_of}
use Rattle.scrambling.specs.Scrambling.{scrambled}
use Rattle.layout.specs.Lengths.{head_size, frame_main_size, edc_place, main_size}
use Rattle.layout.specs.Rows.{frame_of}
use Rattle.dataframe.specs.Frame.{is_permitted, ied_of}

-- the Sector Information byte, and the sector number in 24 bits
abbrev pub info_of : List ℕ → ℕ
info_of f = get_or f 0 0

unfoldable pub number_of : List ℕ → ℕ
number_of f = get_or f 1 0 * 65536 + get_or f 2 0 * 256 + get_or f 3 0

-- the frame as it was before scrambling, by its own number; and its main data
unfoldable pub unscrambled : List ℕ → List ℕ
unscrambled f = scrambled (number_of f) f

unfoldable pub main_of : List ℕ → List ℕ
main_of f = take frame_main_size (drop head_size (unscrambled f))

-- the main data of all sixteen frames of a block buffer, unscrambled
unfoldable pub main_of_block : List ℕ → List ℕ
main_of_block xs = tabulate (λ p. get_or (main_of (frame_of xs (p / frame_main_size))) (p % frame_main_size) 0) main_size

-- two lists of one length differ in no place
unfoldable pub agree : List ℕ → List ℕ → Bool
agree xs ys = eqb (distance xs ys) 0

-- 4: IED differs
unfoldable pub ied_passes : List ℕ → Bool
ied_passes f = agree (take 2 (drop 4 f)) (ied_of (take 4 f))

-- 5: frame 0's number no multiple of 16 (a failure of frame 0 alone), a number not frame 0's + k, a prohibited Information byte, or one unlike frame 0's.
-- first and info are frame 0's number and Information byte
unfoldable pub id_passes : ℕ → ℕ → ℕ → List ℕ → Bool
id_passes first info k f =
    (not (eqb k 0) || eqb (number_of f % 16) 0) && (eqb (number_of f) (first + k) && (is_permitted (info_of f) && eqb (info_of f) info))

-- 6: EDC differs
unfoldable pub edc_passes : List ℕ → Bool
edc_passes f = agree (drop edc_place f) (edc_of (take edc_place (unscrambled f)))

-- the lowest number that applies to frame k, or 0 where none does
unfoldable pub frame_refusal : ℕ → ℕ → ℕ → List ℕ → ℕ
frame_refusal first info k f = cond (ied_passes f) (cond (id_passes first info k f) (cond (edc_passes f) 0 6) 5) 4
