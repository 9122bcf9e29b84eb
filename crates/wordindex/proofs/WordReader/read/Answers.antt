-- `wordindex::WordReader::read` meets its contract: the search from the entry that the index names finds what it finds from the first. Assumes nothing.
use mathlib.Core.Path.{◌≡◌, ap, ◌∙◌}
use mathlib.Core.Bool.{Bool}
use mathlib.Core.List.{List}
use Prim.Native.Nat.{ℕ}
use lib.ListN.{get_or}
use Rattle.std.specs.Prelude.{Option}
use Rattle.annexg.specs.Inner.{read_from}
use Rattle.annexg.specs.Read.{read_word, both_zero}
use Rattle.wordindex.specs.Inner.{slot_of, table_no, entry_no, word_index}
use Rattle.wordindex.proofs.Index.{index_reads}
use Rattle.wordindex.proofs.WordReader.read.Goals as goal

-- slot i of the index xs holds the number n, of the entry where the search began, which gave r
from_slot :
    (w f i n : ℕ) (r : Option ℕ) (z : Bool) (xs : List ℕ) → xs ≡ word_index → z ≡ both_zero f → i ≡ slot_of w z → n ≡ get_or xs i 0
    → r ≡ read_from w z (table_no n) (entry_no n) → r ≡ read_word w f
from_slot w f i n r z xs hx hz hi hn hr =
    let h = hi ∙ ap (slot_of w) hz in
    (rw (hn, hx, h, hz) at hr) ∙ index_reads w f

pub returns : goal.returns
returns c =
    from_slot c.args.word c.args.following _ _ _ _ _ c.args.self.now.index_value c.both_zero-zero.ensures
    (c.slot_of-at.ensures.value ∙ ap (λ (w : ℕ). slot_of w c.both_zero-zero.result) c.from.ensures) c.from-number.ensures c.search_from.ensures
