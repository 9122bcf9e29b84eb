-- What the functions of the C boundary are told, the numbers that they answer with, and what a lent buffer holds afterwards. One number space: 0 where all is done,
-- below 256 the refusals, which are the documents' numbers, and from 256 on what became of a word that was no code word, so that none is taken for another.
--   previous_of                                  the block before, as C tells it
--   reading_number                               a Code Word as it is read
--   corrected, uncorrectable, outcome_number     the outcomes of a word
--   heavier, light_number                        those of the light repair
--   sized, done_or1, held_after                   a function that fills a buffer, or refuses
--   column_repair_number, column_repair_bytes       the repair of a column
--   row_repair_number, row_repair_bytes             and of a row with its marks
--   light_repair_number, light_repair_bytes         the light repair of a row
-- Assumes nothing.
use Rattle.std.specs.Prelude.{Bool, true, false, cond, ◌&&◌, List, ℕ, eqb, length, Option, None, Some}
use Rattle.codes.specs.declared.Outcome.{Outcome}
use Rattle.codes.specs.declared.Outcome.TheVariants.{Clean, Corrected, Uncorrectable}
use Rattle.codes.specs.declared.LightOutcome.{LightOutcome}
use Rattle.codes.specs.declared.LightOutcome.TheVariants.{Repaired, Heavier}
use Rattle.codes.specs.Nearest.{nearest, outcome_of}
use Rattle.codes.specs.Light.{light_outcome}
use Rattle.codes.specs.Erasures.{nearest_erased, outcome_erased}
use Rattle.layout.specs.Lengths.{row_count, row_size, inner_size, outer_size}
use Rattle.repairer.specs.Answer.{marks_fit}

-- the block before: none, or the one with that first number, which counts only where a block comes before
abbrev pub previous_of : Bool → ℕ → Option ℕ
previous_of false first = None
previous_of true first = Some first

-- a buffer has n bytes
abbrev pub sized : ℕ → List ℕ → Bool
sized n xs = eqb (length xs) n

-- 0 where the lengths are as stated, or else refusal 1
abbrev pub done_or1 : Bool → ℕ
done_or1 ok = cond ok 0 1

-- a lent buffer: what was asked for where the lengths are as stated, or else as it was
abbrev pub held_after : Bool → List ℕ → List ℕ → List ℕ
held_after ok asked was = cond ok asked was

-- a word that was no code word: it became the code word near it; or there is none near enough, and it stays
abbrev pub corrected : ℕ
corrected = 256

abbrev pub uncorrectable : ℕ
uncorrectable = 257

-- a reading as a number: its byte, or 256 for an unknown word
abbrev pub reading_number : Option ℕ → ℕ
reading_number (Some b) = b
reading_number None = 256

-- 0 for a word that was a code word already
abbrev pub outcome_number : Outcome → ℕ
outcome_number Clean = 0
outcome_number Corrected = corrected
outcome_number Uncorrectable = uncorrectable

-- the light repair: a code word is within two bytes, and the word is that now; or there is none, and it stays
abbrev pub heavier : ℕ
heavier = 258

abbrev pub light_number : LightOutcome → ℕ
light_number Repaired = 0
light_number Heavier = heavier

-- the repair of a column of 208 bytes with sixteen roots, at most eight bytes wrong: its number, or refusal 1 for another length
abbrev pub column_repair_number : List ℕ → ℕ
column_repair_number w = cond (sized row_count w) (outcome_number (outcome_of outer_size 8 w)) 1

-- the bytes of the column after it
abbrev pub column_repair_bytes : List ℕ → List ℕ
column_repair_bytes w = held_after (sized row_count w) (nearest outer_size 8 w) w

-- a row of 182 bytes and as many marks
abbrev pub row_sized : List ℕ → List ℕ → Bool
row_sized w m = sized row_size w && sized row_size m

-- the repair of a row w with ten roots and the marks m (document 02, request 2): its number; or refusal 1 for another length of either, and after it 11 for a mark
-- that is neither 0 nor 1
abbrev pub row_repair_number : List ℕ → List ℕ → ℕ
row_repair_number w m = cond (row_sized w m) (cond (marks_fit m) (outcome_number (outcome_erased inner_size m w)) 11) 1

-- the bytes of the row after it
abbrev pub row_repair_bytes : List ℕ → List ℕ → List ℕ
row_repair_bytes w m = held_after (row_sized w m && marks_fit m) (nearest_erased inner_size m w) w

-- the light repair of a row of 182 bytes with ten roots, at most two bytes wrong (document 02, request 13): its number, or refusal 1 for another length
abbrev pub light_repair_number : List ℕ → ℕ
light_repair_number w = cond (sized row_size w) (light_number (light_outcome inner_size 2 w)) 1

-- the bytes of the row after it
abbrev pub light_repair_bytes : List ℕ → List ℕ
light_repair_bytes w = held_after (sized row_size w) (nearest inner_size 2 w) w
