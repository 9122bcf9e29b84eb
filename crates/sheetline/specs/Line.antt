-- The line of the bench sheet as a list of bytes (document 01, 'The bench sheet'). The texts are in ASCII.
-- Assumes nothing.
use Rattle.std.specs.Prelude.{cond, List, [], ◌∷◌, ◌++◌, ℕ, ◌+◌, ◌/◌, ◌%◌, ltb, take, decimal, Option, Some, None, Result, Ok, Err}
use Rattle.repairer.specs.declared.Tally.{Tally}
use Rattle.repairer.specs.declared.Tallies.{Tallies}
use Rattle.blockreader.specs.declared.BlockRead.{BlockRead}
use Rattle.refusals.specs.Refusal.{refusal_number}
use Rattle.repairer.specs.declared.BlockRefusal.{BlockRefusal}
use Rattle.sheetline.specs.declared.line.Line.{Line}

-- what a caller gets of a line: the bytes that are written of it
abbrev pub written : Line → List ℕ
written line = take line.len line.bytes

-- the last hexadecimal digit of a number, 0 to 9 and A to F
abbrev pub hex_digit : ℕ → ℕ
hex_digit n = cond (ltb (n % 16) 10) (48 + n % 16) (55 + n % 16)

-- a number of 24 bits in six hexadecimal capitals
abbrev pub hex_six : ℕ → List ℕ
hex_six n = hex_digit (n / 1048576) ∷ hex_digit (n / 65536) ∷ hex_digit (n / 4096) ∷ hex_digit (n / 256) ∷ hex_digit (n / 16) ∷ hex_digit n ∷ []

-- ---- the texts between the numbers, each as it reads with its spaces

-- 'block '
abbrev pub block_text : List ℕ
block_text = 98 ∷ 108 ∷ 111 ∷ 99 ∷ 107 ∷ 32 ∷ []

-- ' rows '
abbrev pub rows_text : List ℕ
rows_text = 32 ∷ 114 ∷ 111 ∷ 119 ∷ 115 ∷ 32 ∷ []

-- ' columns '
abbrev pub columns_text : List ℕ
columns_text = 32 ∷ 99 ∷ 111 ∷ 108 ∷ 117 ∷ 109 ∷ 110 ∷ 115 ∷ 32 ∷ []

-- ' unknown '
abbrev pub unknown_text : List ℕ
unknown_text = 32 ∷ 117 ∷ 110 ∷ 107 ∷ 110 ∷ 111 ∷ 119 ∷ 110 ∷ 32 ∷ []

-- ' sync '
abbrev pub sync_text : List ℕ
sync_text = 32 ∷ 115 ∷ 121 ∷ 110 ∷ 99 ∷ 32 ∷ []

-- 'refused '
abbrev pub refused_text : List ℕ
refused_text = 114 ∷ 101 ∷ 102 ∷ 117 ∷ 115 ∷ 101 ∷ 100 ∷ 32 ∷ []

-- ' frame '
abbrev pub frame_text : List ℕ
frame_text = 32 ∷ 102 ∷ 114 ∷ 97 ∷ 109 ∷ 101 ∷ 32 ∷ []

-- a space, and a newline
abbrev pub space : List ℕ
space = 32 ∷ []

abbrev pub newline : List ℕ
newline = 10 ∷ []

-- words changed and past help, after the text that names the words
abbrev pub tally_text : List ℕ → Tally → List ℕ
tally_text text t = (text ++ decimal t.corrected) ++ (space ++ decimal t.uncorrectable)

-- the rows' and the columns' counts
abbrev pub tallies_text : Tallies → List ℕ
tallies_text t = tally_text rows_text t.rows ++ tally_text columns_text t.columns

-- the sums of the two sector tallies, and the end of the line
abbrev pub sums_text : ℕ → ℕ → List ℕ
sums_text unknown sync = (unknown_text ++ decimal unknown) ++ (sync_text ++ decimal sync) ++ newline

-- ---- the line of each answer of the whole-block reader

-- the frame that a check fails in, where there is one
abbrev pub frame_part : Option ℕ → List ℕ
frame_part None = []
frame_part (Some frame) = frame_text ++ decimal frame

unfoldable pub sheet_line : Result BlockRead BlockRefusal → List ℕ
sheet_line (Ok r) = block_text ++ hex_six r.first ++ tallies_text r.tallies ++ sums_text r.unknown r.sync
sheet_line (Err e) = (refused_text ++ decimal (refusal_number e.refusal)) ++ frame_part e.frame ++ newline
