-- The SYNC Codes (table 4): 32 bits, of which the first half word tells the code and the second is the same in all. sync_table and code_for (the first half
-- words), sync_end (the second), is_sync (the test of two half words), sync_zero_runs (figure G.2's rule for a first half word).
-- Assumes nothing.
use Rattle.std.specs.Prelude.{Bool, true, false, ◌&&◌, ◌||◌, List, [], ◌∷◌, ℕ, ◌+◌, ◌*◌, ◌-◌, ◌/◌, eqb, get_or}
use Rattle.lists.specs.Count.{bit}
use Rattle.annexg.specs.ZeroRuns.{bits_of, trail, inner, start_fits}

-- table 4: first half words of SY0 to SY7, Primary and Secondary, in States 1 and 2, then in States 3 and 4
unfoldable pub sync_table : List ℕ
sync_table =
    0x1244 ∷ 0x1204 ∷ 0x0404 ∷ 0x0444 ∷ 0x1004 ∷ 0x1044 ∷ 0x0804 ∷ 0x0844 ∷
    0x2004 ∷ 0x2044 ∷ 0x2244 ∷ 0x2204 ∷ 0x2484 ∷ 0x2084 ∷ 0x2444 ∷ 0x2404 ∷
    0x9204 ∷ 0x9244 ∷ 0x8444 ∷ 0x8404 ∷ 0x9044 ∷ 0x9004 ∷ 0x8244 ∷ 0x8204 ∷
    0x8844 ∷ 0x8804 ∷ 0x8904 ∷ 0x8104 ∷ 0x9084 ∷ 0x8044 ∷ 0x8884 ∷ 0x8084 ∷
    []

-- every second half word
abbrev pub sync_end : ℕ
sync_end = 0x0011

-- the first half word of SYn in State s; a choice is false for Primary, true for Secondary. What is no State and no code counts on in the table as it is
-- laid: State 0 is taken for State 1, SY8 to SY15 of States 1 and 2 are SY0 to SY7 of States 3 and 4, and past the table's end there is 0
abbrev pub code_for : ℕ → ℕ → Bool → ℕ
code_for s n c = get_or sync_table ((s - 1) / 2 * 16 + n * 2 + bit c) 0

-- the half words a and b are one of the four codes of SYn, n at most 7: Primary or Secondary, of either class
unfoldable pub is_sync : ℕ → ℕ → ℕ → Bool
is_sync n a b =
    (eqb a (code_for 1 n false) || (eqb a (code_for 1 n true) || (eqb a (code_for 3 n false) || eqb a (code_for 3 n true)))) && eqb b sync_end

-- the zero runs of a first half word in State s: it starts as figure G.2 wants of a Code Word of that State, its inner zero runs are 2 to 10, and it ends in two
-- ZEROs, which are thirteen with the eleven that open the second half word
unfoldable pub sync_zero_runs : ℕ → ℕ → Bool
sync_zero_runs s h = start_fits s h && (inner (bits_of 16 h) && eqb (trail h) 2)
