-- The order of the SYNC Codes in a sector, and which choices and zero runs are refused: what the definitions say, held against document 01's words.
-- Assumes nothing.
use mathlib.Core.Path.{◌≡◌, refl, ap, ◌∙◌}
use mathlib.Core.Bool.{Bool, true, false}
use mathlib.Core.List.{List, [], ◌∷◌, ◌++◌, map, append_assoc}
use Prim.Native.Nat.{ℕ, zero, suc, ◌+◌, ◌*◌, ◌-◌, ◌/◌, ◌%◌, ◌<◌, ◌≤◌}
use native.Mathlib.Nat.{not-suc-le-zero, le_of_suc-le-suc}
use native.Mathlib.Omega.{arith}
use borrow.Author.Tests.{ne_eqb, le-ltb, lt-ltb}
use lib.Dec.{T, eqb}
use lib.ListN.{length, get_or, take, drop, replicate}
use Rattle.lists.proofs.Test.{and_false}
use Rattle.annexg.specs.Read.{entry_of, word_of}
use Rattle.annexg.specs.ZeroRuns.{inside}
use Rattle.layout.specs.Lengths.{frame_bytes, frame_bits}
use Rattle.channel.specs.Bits.{sync_half, zero_run_fits, block_zero_run_fits}
use Rattle.layout.specs.Sectors.{frame_codes, code_of}
use Rattle.channel.specs.Block.{frames}
use Rattle.channel.specs.Channel.{Item, sync, byte, entry_for, next_for, last_for, join_zeros, allowed, permitted}
use Rattle.channel.proofs.Places.{item_past, head_length, tail_length}

-- ---- the order of the SYNC Codes

abbrev pub alternate : List ℕ → List ℕ → List ℕ
alternate [] ys = []
alternate (x ∷ xs) [] = []
alternate (x ∷ xs) (y ∷ ys) = x ∷ y ∷ alternate xs ys

-- first frames carry SY0, SY1, SY2, SY3, SY4, then SY1 to SY4 twice; second frames SY5 five times, SY6 four times, SY7 four times
pub frame_order :
    frame_codes
    ≡ alternate ((0 ∷ 1 ∷ 2 ∷ 3 ∷ 4 ∷ []) ++ ((1 ∷ 2 ∷ 3 ∷ 4 ∷ []) ++ (1 ∷ 2 ∷ 3 ∷ 4 ∷ []))) (replicate 5 5 ++ (replicate 4 6 ++ replicate 4 7))
unfolding frame_codes
frame_order = refl

-- frame f of the frames from g on begins with its own code
pub frame_sync :
    (n g : ℕ) (bs : List ℕ) (end : List Item) → length bs ≡ frame_bytes * n → (f : ℕ) → f < n → get_or (frames g n bs ++ end) (92 * f) (byte 0) ≡ sync (code_of (g + f))
unfolding frames
frame_sync zero g bs end e f h = absurd (not-suc-le-zero h)
frame_sync (suc n) g bs end e zero h = ap (λ (x : ℕ). sync (code_of x)) (omega arith)
frame_sync (suc n) g bs end e (suc f) h =
    let k : 92 * suc f ≡ suc (frame_bytes + 92 * f) = omega arith in
    rw (k, append_assoc (map byte (take frame_bytes bs)) (frames (suc g) n (drop frame_bytes bs)) end)
    (past ∙ frame_sync n (suc g) (drop frame_bytes bs) end (tail_length bs n e) f (le_of_suc-le-suc h) ∙ ap (λ (x : ℕ). sync (code_of x)) (omega arith))
  where
    past : get_or (map byte (take frame_bytes bs) ++ (frames (suc g) n (drop frame_bytes bs) ++ end)) (frame_bytes + 92 * f) (byte 0) ≡ get_or (frames (suc g) n (drop frame_bytes bs) ++ end) (92 * f) (byte 0)
    past = rw (head_length bs n e) at (item_past (take frame_bytes bs) (frames (suc g) n (drop frame_bytes bs) ++ end) (92 * f) (byte 0))

-- ---- permitted choices: nothing else

-- the prescribed main word, and either SYNC Code, is always permitted
pub main_allowed : (s l b : ℕ) → allowed s l (byte b) false ≡ true
main_allowed s l b = refl

pub sync-allowed : (s l n : ℕ) (c : Bool) → allowed s l (sync n) c ≡ true
sync-allowed s l n c = refl

-- so every block has a permitted stream: the main words, and Primary codes
pub main_permitted : (s l : ℕ) (is : List Item) → T (permitted s l is (map (λ i. false) is))
unfolding permitted
main_permitted s l [] = tt
main_permitted s l (sync n ∷ is) = main_permitted (next_for s (sync n) false) (last_for s (sync n) false) is
main_permitted s l (byte b ∷ is) = main_permitted (next_for s (byte b) false) (last_for s (byte b) false) is

-- bytes 0 to 87: the substitution word of the prescribed State, in every State
pub low-allowed : (s l b : ℕ) → b < 88 → (allowed s l (byte b) true ≡ true) × (entry_for s b true ≡ entry_of 1 b (s - 1))
low-allowed s l b h = (rw (lt-ltb b 88 h) refl, rw (lt-ltb b 88 h) refl)

-- bytes 88 to 255: no other word in State 2 or 3
pub two_refused : (l b : ℕ) → 88 ≤ b → allowed 2 l (byte b) true ≡ false
two_refused l b h = rw (le-ltb b 88 h) refl

pub three_refused : (l b : ℕ) → 88 ≤ b → allowed 3 l (byte b) true ≡ false
three_refused l b h = rw (le-ltb b 88 h) refl

-- and in States 1 and 4 the word of State 4 or 1, just where the zero run across the join is 2 to 10
pub one-allowed : (l b : ℕ) → 88 ≤ b → (entry_for 1 b true ≡ entry_of 0 b 3) × (allowed 1 l (byte b) true ≡ inside 2 10 (join_zeros l (word_of 0 b 3)))
one-allowed l b h = (rw (le-ltb b 88 h) refl, rw (le-ltb b 88 h) refl)

pub four_allowed : (l b : ℕ) → 88 ≤ b → (entry_for 4 b true ≡ entry_of 0 b 0) × (allowed 4 l (byte b) true ≡ inside 2 10 (join_zeros l (word_of 0 b 0)))
four_allowed l b h = (rw (le-ltb b 88 h) refl, rw (le-ltb b 88 h) refl)

-- ---- zero runs that theorem ZERO RUNS excludes

pub none_refused : (is : List Item) (i : ℕ) → zero_run_fits is i 0 ≡ false
none_refused is i = refl

pub one_refused : (is : List Item) (i : ℕ) → zero_run_fits is i 1 ≡ false
one_refused is i = refl

pub eleven_refused : (is : List Item) (i : ℕ) → zero_run_fits is i 11 ≡ false
eleven_refused is i = refl

pub twelve_refused : (is : List Item) (i : ℕ) → zero_run_fits is i 12 ≡ false
twelve_refused is i = refl

pub fourteen_refused : (is : List Item) (i : ℕ) → zero_run_fits is i 14 ≡ false
fourteen_refused is i = refl

-- thirteen anywhere but after the fourteenth bit of a SYNC Code
pub thirteen_refused : (is : List Item) (i : ℕ) → sync_half is (i / 16) ≡ false → zero_run_fits is i 13 ≡ false
thirteen_refused is i h = rw h (and_false (eqb (i % 16) 13))

pub thirteen_off : (is : List Item) (i : ℕ) → (i % 16 ≡ 13 → ⊥) → zero_run_fits is i 13 ≡ false
thirteen_off is i h = rw (ne_eqb (i % 16) 13 h) refl

-- in a block, thirteen anywhere but there in one of its frames
pub block_thirteen_refused : (i : ℕ) → (i % frame_bits ≡ 13 → ⊥) → block_zero_run_fits i 13 ≡ false
block_thirteen_refused i h = rw (ne_eqb (i % frame_bits) 13 h) refl

pub block_one_refused : (i : ℕ) → block_zero_run_fits i 1 ≡ false
block_one_refused i = refl

pub block_eleven_refused : (i : ℕ) → block_zero_run_fits i 11 ≡ false
block_eleven_refused i = refl
