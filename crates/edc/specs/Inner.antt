-- What the table of EDC holds. It is lent to the functions that divide, so that no step makes it anew.
-- Assumes nothing.
use Rattle.std.specs.Prelude.{List, ◌∷◌, ℕ, ◌/◌, ◌%◌, replicate}
use Rattle.lists.specs.Fill.{tabulate}
use Rattle.edc.specs.Edc.{edc_from}

-- entry 256 k + h: the remainder that the byte h and k bytes ZERO after it leave, from the remainder 0
unfoldable pub edc_entry : ℕ → ℕ
edc_entry i = edc_from 0 (i % 256 ∷ replicate (i / 256) 0)

unfoldable pub edc_table : List ℕ
edc_table = tabulate edc_entry 1024
