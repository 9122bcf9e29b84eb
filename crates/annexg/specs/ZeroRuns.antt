-- Figure G.2: the runs of ZEROs in a Code Word, by its State and its next State.
-- Assumes nothing.
use Rattle.std.specs.Prelude.{Bool, true, false, not, ◌&&◌, List, [], ◌∷◌, reverse, ℕ, zero, suc, ◌^◌, ◌/◌, ◌%◌, leb}
use Rattle.annexg.specs.Read.{both_zero}

-- the lowest n bits of a number, the highest first
abbrev pub bits_of : ℕ → ℕ → List ℕ
bits_of zero w = []
bits_of (suc n) w = w / 2 ^ n % 2 ∷ bits_of n w

-- the ZEROs before the first ONE
abbrev pub lead : List ℕ → ℕ
lead [] = 0
lead (zero ∷ bs) = suc (lead bs)
lead (suc x ∷ bs) = 0

-- the ZEROs after the last ONE of a half word
abbrev pub trail : ℕ → ℕ
trail h = lead (reverse (bits_of 16 h))

-- low ≤ n ≤ high
abbrev pub inside : ℕ → ℕ → ℕ → Bool
inside low high n = leb low n && leb n high

-- each zero run that a ONE ends is 2 to 10, r ZEROs having passed since the last ONE
abbrev pub inner_from : ℕ → List ℕ → Bool
inner_from r [] = true
inner_from r (zero ∷ bs) = inner_from (suc r) bs
inner_from r (suc x ∷ bs) = inside 2 10 r && inner_from 0 bs

-- each zero run between two ONEs is 2 to 10
abbrev pub inner : List ℕ → Bool
inner [] = true
inner (zero ∷ bs) = inner bs
inner (suc x ∷ bs) = inner_from 0 bs

-- the leading ZEROs by the State; bits 15 and 3 are both ZERO in State 2 and not both in State 3
abbrev pub start_fits : ℕ → ℕ → Bool
start_fits zero w = false
start_fits (suc zero) w = inside 2 9 (lead (bits_of 16 w))
start_fits (suc (suc zero)) w = inside 1 5 (lead (bits_of 16 w)) && both_zero w
start_fits (suc (suc (suc zero))) w = inside 0 5 (lead (bits_of 16 w)) && not (both_zero w)
start_fits (suc (suc (suc (suc zero)))) w = inside 0 1 (lead (bits_of 16 w))
start_fits (suc (suc (suc (suc (suc s))))) w = false

-- the trailing ZEROs by the next State
abbrev pub end_fits : ℕ → ℕ → Bool
end_fits zero w = false
end_fits (suc zero) w = inside 0 1 (trail w)
end_fits (suc (suc zero)) w = inside 2 5 (trail w)
end_fits (suc (suc (suc zero))) w = inside 2 5 (trail w)
end_fits (suc (suc (suc (suc zero)))) w = inside 6 9 (trail w)
end_fits (suc (suc (suc (suc (suc n))))) w = false

-- figure G.2 for the word w of State s with next State n
unfoldable pub zero_runs_fit : ℕ → ℕ → ℕ → Bool
zero_runs_fit s w n = start_fits s w && (end_fits n w && inner (bits_of 16 w))
