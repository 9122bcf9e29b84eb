-- The light repair as document 02, request 13, words it: 'it repairs exactly the rows with a code row within two bytes, and says "heavier" for every other row and
-- leaves it.' Stated for words of any length with p roots and at most t bytes: the word after it is `nearest p t` (specs/Nearest), and this is what it says.
-- Assumes nothing.
use Rattle.std.specs.Prelude.{cond, List, ℕ}
use Rattle.codes.specs.Nearest.{is_near, nearest}
use Rattle.codes.specs.declared.LightOutcome.{LightOutcome}
use Rattle.codes.specs.declared.LightOutcome.TheVariants.{Repaired, Heavier}

-- 'Repaired' where a code word differs in at most t bytes, be it the word itself; any other word is 'Heavier'
unfoldable pub light_outcome : ℕ → ℕ → List ℕ → LightOutcome
light_outcome p t w = cond (is_near p t w (nearest p t w)) Repaired Heavier
