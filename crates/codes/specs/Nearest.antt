-- The repair as document 01 words it: a row 'becomes the one code row that differs from it in at most five bytes; if none does, it stays', and a column
-- likewise within eight. Stated for words of any length with p roots and at most t bytes.
-- Assumes nothing.
use Rattle.std.specs.Prelude.{Bool, true, false, ◌&&◌, cond, List, [], ◌∷◌, ◌++◌, map, ℕ, zero, suc, leb, length}
use Rattle.lists.specs.Count.{distance}
use Rattle.codes.specs.Word.{is_code}
use Rattle.codes.specs.declared.Outcome.{Outcome}
use Rattle.codes.specs.declared.Outcome.TheVariants.{Clean, Corrected, Uncorrectable}

-- each word with each of the bytes m-1 .. 0 before it
unfoldable pub preceded : ℕ → List (List ℕ) → List (List ℕ)
preceded zero ws = []
preceded (suc m) ws = map (λ w. m ∷ w) ws ++ preceded m ws

-- all words of n bytes
unfoldable pub all_words : ℕ → List (List ℕ)
all_words zero = [] ∷ []
all_words (suc n) = preceded 256 (all_words n)

-- the first of them that passes a test, or else w
unfoldable pub first_of : (List ℕ → Bool) → List ℕ → List (List ℕ) → List ℕ
first_of f w [] = w
first_of f w (c ∷ cs) = elim (f c) [ true ↦ c | false ↦ first_of f w cs ]

-- c is a code word with p roots that differs from w in at most t bytes
unfoldable pub is_near : ℕ → ℕ → List ℕ → List ℕ → Bool
is_near p t w c = is_code p c && leb (distance w c) t

-- the code word with p roots that differs from w in at most t bytes (there is one at most where 2 t ≤ p: proofs/Nearest), or w where there is none
unfoldable pub nearest : ℕ → ℕ → List ℕ → List ℕ
nearest p t w = first_of (is_near p t w) w (all_words (length w))

-- what becomes of a word: a code word stays ('Clean'); one with a code word within t bytes is 'Corrected' (document 01: changed); any other is
-- 'Uncorrectable' (document 01: past help)
unfoldable pub outcome_of : ℕ → ℕ → List ℕ → Outcome
outcome_of p t w = cond (is_code p w) Clean (cond (is_code p (nearest p t w)) Corrected Uncorrectable)
