-- Vocabulary of inner contracts: an index of the Code Words, which says where the search through the columns begins. place_of, slot_of (the slot of a word),
-- entry_number, table_no, entry_no (what a slot holds), put_one, put_entry, put_first, put_all (an entry, a table), word_index.
-- Assumes nothing.
use Rattle.std.specs.Prelude.{Bool, true, false, cond, List, ℕ, zero, suc, ◌+◌, ◌*◌, ◌/◌, ◌%◌, get_or, set, length, replicate}
use Rattle.lists.specs.Count.{bit}
use Rattle.annexg.specs.Read.{table_of, agrees}

-- the place of a word among 4,096: no two Code Words of annex G have one (proofs/Index.antt)
unfoldable pub place_of : ℕ → ℕ
place_of w = w * 2747 / 16 % 4096

-- its slot: each place has two, the second for words before bits 15 and 3 that are both ZERO, and z says whether they are
abbrev pub slot_of : ℕ → Bool → ℕ
slot_of w z = place_of w * 2 + bit z

-- the number of entry k of table t: the main table's are 0 to 1,023, the substitution table's 1,024 to 1,375
abbrev pub entry_number : ℕ → ℕ → ℕ
entry_number t k = t * 1024 + k

-- the table and the entry in it that have the number n
abbrev pub table_no : ℕ → ℕ
table_no n = n / 1024 % 2

abbrev pub entry_no : ℕ → ℕ
entry_no n = n % 1024

-- entry e with the number n takes the slot of its word where its next State agrees
unfoldable pub put_one : Bool → ℕ → ℕ → List ℕ → List ℕ
put_one z n e xs = cond (agrees (e % 16) z) (set xs (slot_of (e / 16) z) n) xs

unfoldable pub put_entry : ℕ → ℕ → List ℕ → List ℕ
put_entry n e xs = put_one true n e (put_one false n e xs)

-- the first k entries of table t, one after the other
unfoldable pub put_first : ℕ → ℕ → List ℕ → List ℕ
put_first t zero xs = xs
put_first t (suc k) xs = put_entry (entry_number t k) (get_or (table_of t) k 0) (put_first t k xs)

unfoldable pub put_all : ℕ → List ℕ → List ℕ
put_all t xs = put_first t (length (table_of t)) xs

-- the index: the entries of both tables, and 0, the first entry's number, in each slot that none takes
unfoldable pub word_index : List ℕ
word_index = put_all 1 (put_all 0 (replicate 8192 0))
