-- Lists of bytes, entry by entry and under the operations on lists.
-- Assumes nothing.
use mathlib.Core.List.{List, [], ◌∷◌, ◌++◌}
use Prim.Native.Nat.{ℕ, zero, suc, ◌<◌, suc-le-suc}
use native.Mathlib.Omega.{arith}
use lib.ListN.{length, get_or, set, take, drop, replicate}
use Rattle.lists.specs.Bytes.{Bytes}
use Rattle.lists.specs.Fill.{tabulate_from}

pub bytes_of : (xs : List ℕ) → ((i : ℕ) → i < length xs → get_or xs i 0 < 256) → Bytes xs
unfolding Bytes
bytes_of [] h = tt
bytes_of (x ∷ xs) h = (h 0 (omega arith), bytes_of xs (λ i l. h (suc i) (suc-le-suc l)))

pub get_or-byte : (xs : List ℕ) (i : ℕ) → Bytes xs → get_or xs i 0 < 256
unfolding Bytes
get_or-byte [] i h = omega arith
get_or-byte (x ∷ xs) zero h = h.0
get_or-byte (x ∷ xs) (suc i) h = get_or-byte xs i h.1

pub set-bytes : (xs : List ℕ) (i v : ℕ) → Bytes xs → v < 256 → Bytes (set xs i v)
unfolding Bytes
set-bytes [] i v h l = tt
set-bytes (x ∷ xs) zero v h l = (l, h.1)
set-bytes (x ∷ xs) (suc i) v h l = (h.0, set-bytes xs i v h.1 l)

pub append-bytes : (xs ys : List ℕ) → Bytes xs → Bytes ys → Bytes (xs ++ ys)
unfolding Bytes
append-bytes [] ys h k = k
append-bytes (x ∷ xs) ys h k = (h.0, append-bytes xs ys h.1 k)

pub take-bytes : (n : ℕ) (xs : List ℕ) → Bytes xs → Bytes (take n xs)
unfolding Bytes
take-bytes zero xs h = tt
take-bytes (suc n) [] h = tt
take-bytes (suc n) (x ∷ xs) h = (h.0, take-bytes n xs h.1)

pub drop-bytes : (n : ℕ) (xs : List ℕ) → Bytes xs → Bytes (drop n xs)
unfolding Bytes
drop-bytes zero xs h = h
drop-bytes (suc n) [] h = tt
drop-bytes (suc n) (x ∷ xs) h = drop-bytes n xs h.1

pub zeros-bytes : (n : ℕ) → Bytes (replicate n 0)
unfolding Bytes
zeros-bytes zero = tt
zeros-bytes (suc n) = (omega arith, zeros-bytes n)

pub tabulate-bytes : (f : ℕ → ℕ) (k n : ℕ) → ((i : ℕ) → f i < 256) → Bytes (tabulate_from f k n)
unfolding Bytes tabulate_from
tabulate-bytes f k zero h = tt
tabulate-bytes f k (suc n) h = (h k, tabulate-bytes f (suc k) n h)
