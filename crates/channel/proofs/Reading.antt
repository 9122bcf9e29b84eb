-- Every byte of a permitted stream after which an item stands is read back while its own half and bits 15 and 3 of the half after it stand.
-- Assumes nothing.
use mathlib.Core.Path.{◌≡◌, ap, ◌∙◌}
use mathlib.Core.Bool.{Bool}
use mathlib.Core.List.{List, [], ◌∷◌, ◌++◌}
use Prim.Native.Nat.{ℕ, zero, suc, ◌/◌, ◌%◌, ◌<◌}
use native.Mathlib.Nat.{not-suc-le-zero, le_of_suc-le-suc}
use native.Mathlib.Omega.{arith}
use lib.Dec.{T, ltb→lt}
use lib.ListN.{length, get_or}
use Rattle.lists.proofs.Test.{and_left, and_right, truth}
use Rattle.annexg.specs.Read.{State, entry_of, both_zero, agrees, read_word}
use Rattle.annexg.proofs.Sync.{code_agrees}
use Rattle.annexg.proofs.Unique.{reads_back}
use Rattle.channel.specs.Channel.{Item, sync, byte, halves_for, next_for, last_for, allowed, permitted, stream, place, proper, all_proper}
use Rattle.channel.proofs.Entries.{Taken, taken, taken_next}
use Rattle.std.specs.Prelude.{Some}

-- the State after an item
pub next_state : (s l : ℕ) (i : Item) (c : Bool) → T (proper i) → State s → T (allowed s l i c) → State (next_for s i c)
next_state s l (sync n) c hp hs p = record { low = omega arith; high = omega arith }
next_state s l (byte b) c hp hs p = taken_next (taken s l b c (ltb→lt b 256 hp) hs p)

-- the first half of an item agrees with the State that is prescribed
first_agrees : (s l : ℕ) (i : Item) (c : Bool) (r : List ℕ) → T (proper i) → State s → T (allowed s l i c) → T (agrees s (both_zero (get_or (halves_for s i c ++ r) 0 0)))
first_agrees s l (sync n) c r hp hs p = code_agrees s n c hs (ltb→lt n 8 hp)
first_agrees s l (byte b) c r hp hs p = (taken s l b c (ltb→lt b 256 hp) hs p).fits

pub stream-agrees :
    (s l : ℕ) (is : List Item) (cs : List Bool) → 0 < length is → T (all_proper is) → State s → T (permitted s l is cs)
    → T (agrees s (both_zero (get_or (stream s is cs) 0 0)))
unfolding permitted stream all_proper
stream-agrees s l [] cs h hp hs p = absurd (not-suc-le-zero h)
stream-agrees s l (i ∷ is) [] h hp hs p = absurd p
stream-agrees s l (i ∷ is) (c ∷ cs) h hp hs p =
    first_agrees s l i c (stream (next_for s i c) is cs) (and_left (proper i) (all_proper is) hp) hs
    (and_left (allowed s l i c) (permitted (next_for s i c) (last_for s i c) is cs) p)

-- a word before bits that agree with its next State
reads_taken : {s b e : ℕ} (f : ℕ) → Taken s b e → T (agrees (e % 16) (both_zero f)) → read_word (e / 16) f ≡ Some b
reads_taken {s} {b} {e} f t a =
    rw t.entry_is (reads_back t.table_no_lem b t.column f t.table_small t.row_small t.column_small
    (truth (agrees (entry_of t.table_no_lem b t.column % 16) (both_zero f)) (rw t.entry_is at a)))

sync-byte : (n b : ℕ) → sync n ≡ byte b → ⊥
sync-byte n b e = let z : ◌≡◌ {A = ℕ} 0 1 = cc in omega arith

byte-byte : (a b : ℕ) → byte a ≡ byte b → a ≡ b
byte-byte a b e = cc

pub reads :
    (s l : ℕ) (is : List Item) (cs : List Bool) → T (all_proper is) → State s → T (permitted s l is cs)
    → (j b : ℕ) → suc j < length is → get_or is j (sync 0) ≡ byte b
    → (f : ℕ) → both_zero f ≡ both_zero (get_or (stream s is cs) (suc (place is j)) 0)
    → read_word (get_or (stream s is cs) (place is j) 0) f ≡ Some b
unfolding permitted stream all_proper place
reads s l [] cs hp hs p j b h e f q = absurd (not-suc-le-zero h)
reads s l (i ∷ is) [] hp hs p j b h e f q = absurd p
reads s l (sync n ∷ is) (c ∷ cs) hp hs p zero b h e f q = absurd (sync-byte n b e)
reads s l (byte a ∷ is) (c ∷ cs) hp hs p zero b h e f q =
    let t = taken s l a c (ltb→lt a 256 (and_left (proper (byte a)) (all_proper is) hp)) hs (and_left (allowed s l (byte a) c) (permitted (next_for s (byte a) c) (last_for s (byte a) c) is cs) p) in
    let g = stream-agrees (next_for s (byte a) c) (last_for s (byte a) c) is cs (le_of_suc-le-suc h) (and_right (proper (byte a)) (all_proper is) hp) (taken_next t)
    (and_right (allowed s l (byte a) c) (permitted (next_for s (byte a) c) (last_for s (byte a) c) is cs) p) in
    reads_taken f t (rw q g) ∙ ap Some (byte-byte a b e)
reads s l (sync n ∷ is) (c ∷ cs) hp hs p (suc j) b h e f q =
    reads 1 (last_for s (sync n) c) is cs (and_right (proper (sync n)) (all_proper is) hp)
    (next_state s l (sync n) c (and_left (proper (sync n)) (all_proper is) hp) hs tt) p j b (le_of_suc-le-suc h) e f q
reads s l (byte a ∷ is) (c ∷ cs) hp hs p (suc j) b h e f q =
    let p₁ = and_left (allowed s l (byte a) c) (permitted (next_for s (byte a) c) (last_for s (byte a) c) is cs) p in
    let p₂ = and_right (allowed s l (byte a) c) (permitted (next_for s (byte a) c) (last_for s (byte a) c) is cs) p in
    reads (next_for s (byte a) c) (last_for s (byte a) c) is cs (and_right (proper (byte a)) (all_proper is) hp)
    (next_state s l (byte a) c (and_left (proper (byte a)) (all_proper is) hp) hs p₁) p₂ j b (le_of_suc-le-suc h) e f q
