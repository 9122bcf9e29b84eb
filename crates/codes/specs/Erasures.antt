-- The repair with marks as document 02, request 2, words it: 'With f marked bytes, a row becomes the one code row that differs from it in e unmarked bytes with
-- 2e + f at most 10, or stays.' Stated for words of any length with p roots. A mark is a byte for each byte of the word, 1 where it is marked; the field's word
-- for a marked byte is an erasure.
-- Assumes nothing.
use Rattle.std.specs.Prelude.{Bool, not, ◌&&◌, cond, List, ℕ, ◌+◌, ◌*◌, eqb, leb, length, get_or}
use Rattle.lists.specs.Count.{count_from}
use Rattle.codes.specs.Word.{is_code}
use Rattle.codes.specs.Nearest.{all_words, first_of}
use Rattle.codes.specs.declared.Outcome.{Outcome}
use Rattle.codes.specs.declared.Outcome.TheVariants.{Clean, Corrected, Uncorrectable}

-- byte i is marked
abbrev pub is_erased : List ℕ → ℕ → Bool
is_erased m i = eqb (get_or m i 0) 1

-- f: how many of the first n bytes are marked
unfoldable pub erasure_count : List ℕ → ℕ → ℕ
erasure_count m n = count_from (is_erased m) 0 n

-- e: how many of the unmarked bytes of w differ from those of c
unfoldable pub error_count : List ℕ → List ℕ → List ℕ → ℕ
error_count m w c = count_from (λ i. not (is_erased m i) && not (eqb (get_or w i 0) (get_or c i 0))) 0 (length w)

-- c is a code word with p roots, and 2e + f is at most p
unfoldable pub is_within : ℕ → List ℕ → List ℕ → List ℕ → Bool
is_within p m w c = is_code p c && leb (2 * error_count m w c + erasure_count m (length w)) p

-- the code word with 2e + f at most p (there is one at most: proofs/Erasures), or w where there is none
unfoldable pub nearest_erased : ℕ → List ℕ → List ℕ → List ℕ
nearest_erased p m w = first_of (is_within p m w) w (all_words (length w))

-- what becomes of a word: a code word with at most p marks stays ('Clean'); one that another code word is within reach of is 'Corrected'; any other is
-- 'Uncorrectable', and so is a code word with more than p marks
unfoldable pub outcome_erased : ℕ → List ℕ → List ℕ → Outcome
outcome_erased p m w = cond (is_within p m w w) Clean (cond (is_within p m w (nearest_erased p m w)) Corrected Uncorrectable)
