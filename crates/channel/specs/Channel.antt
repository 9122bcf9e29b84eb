-- The channel: SYNC Codes and Code Words one after the other, by choices (document 01, "Code Words and SYNC Codes"; clauses 20 and 21 of ECMA-268).
-- A half word is 16 bits: a SYNC Code is two, a Code Word one. A stream is a list of half words.
-- Assumes nothing.
use Rattle.std.specs.Prelude.{Bool, true, false, cond, ◌&&◌, ◌||◌, List, [], ◌∷◌, ◌++◌, ℕ, zero, suc, ◌+◌, ◌-◌, ◌/◌, ◌%◌, eqb, ltb}
use Rattle.annexg.specs.Read.{entry_of}
use Rattle.annexg.specs.ZeroRuns.{bits_of, lead, trail, inside}
use Rattle.annexg.specs.Sync.{sync_end, code_for}

-- what stands in recording order: SYNC Code SYn, or a byte
pub data Item : Type 0 where
  sync : ℕ → Item
  byte : ℕ → Item

-- the entry taken for byte b in State s by a choice. false: the main word of that State. true: the substitution word of that State for bytes 0 to 87;
-- for bytes 88 to 255 the word of State 4 in State 1, and of State 1 in State 4
abbrev pub entry_for : ℕ → ℕ → Bool → ℕ
entry_for s b false = entry_of 0 b (s - 1)
entry_for s b true = cond (ltb b 88) (entry_of 1 b (s - 1)) (entry_of 0 b (4 - s))

-- the half words of an item in State s; for a SYNC Code a choice is false for Primary, true for Secondary
abbrev pub halves_for : ℕ → Item → Bool → List ℕ
halves_for s (sync n) c = code_for s n c ∷ sync_end ∷ []
halves_for s (byte b) c = entry_for s b c / 16 ∷ []

-- the State prescribed after it: 1 after a SYNC Code, and what the table gives with the word taken
abbrev pub next_for : ℕ → Item → Bool → ℕ
next_for s (sync n) c = 1
next_for s (byte b) c = entry_for s b c % 16

-- its last half word
abbrev pub last_for : ℕ → Item → Bool → ℕ
last_for s (sync n) c = sync_end
last_for s (byte b) c = entry_for s b c / 16

-- the run of ZEROs across the join of two half words
unfoldable pub join_zeros : ℕ → ℕ → ℕ
join_zeros l h = trail l + lead (bits_of 16 h)

-- the States 1 and 4, in which alone a byte of 88 to 255 has a choice
abbrev pub swaps : ℕ → Bool
swaps s = eqb s 1 || eqb s 4

-- the choices permitted for an item in State s after the half word l, as document 01 lists them: Primary or Secondary; main or substitution word for
-- bytes 0 to 87; the word of the other of States 1 and 4 for bytes 88 to 255, if the zero run across the join is 2 to 10. Nothing else
abbrev pub allowed : ℕ → ℕ → Item → Bool → Bool
allowed s l (sync n) c = true
allowed s l (byte b) false = true
allowed s l (byte b) true = ltb b 88 || (swaps s && inside 2 10 (join_zeros l (entry_for s b true / 16)))

-- the choices are one for each item, each of them permitted, from State s and after the half word l
unfoldable pub permitted : ℕ → ℕ → List Item → List Bool → Bool
permitted s l [] [] = true
permitted s l [] (c ∷ cs) = false
permitted s l (i ∷ is) [] = false
permitted s l (i ∷ is) (c ∷ cs) = allowed s l i c && permitted (next_for s i c) (last_for s i c) is cs

-- the stream that the choices take, from State s
unfoldable pub stream : ℕ → List Item → List Bool → List ℕ
stream s [] cs = []
stream s (i ∷ is) [] = []
stream s (i ∷ is) (c ∷ cs) = halves_for s i c ++ stream (next_for s i c) is cs

-- the State prescribed after the items, and the last half word, from State s and after the half word l
unfoldable pub state_after : ℕ → List Item → List Bool → ℕ
state_after s [] cs = s
state_after s (i ∷ is) [] = s
state_after s (i ∷ is) (c ∷ cs) = state_after (next_for s i c) is cs

unfoldable pub last_after : ℕ → ℕ → List Item → List Bool → ℕ
last_after s l [] cs = l
last_after s l (i ∷ is) [] = l
last_after s l (i ∷ is) (c ∷ cs) = last_after (next_for s i c) (last_for s i c) is cs

-- the half word at which item j begins
unfoldable pub place : List Item → ℕ → ℕ
place [] j = 0
place (i ∷ is) zero = 0
place (sync n ∷ is) (suc j) = suc (suc (place is j))
place (byte b ∷ is) (suc j) = suc (place is j)

-- SY0 to SY7, and bytes
abbrev pub proper : Item → Bool
proper (sync n) = ltb n 8
proper (byte b) = ltb b 256

unfoldable pub all_proper : List Item → Bool
all_proper [] = true
all_proper (i ∷ is) = proper i && all_proper is
