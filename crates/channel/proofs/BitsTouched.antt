-- A byte that no changed bit touches is not disturbed (bits-touched), one whose bytes of the stream are read as they were laid is not touched (untouched_where, and so
-- no byte of a stream that is read as it was laid, untouched), and a permitted stream is of bytes (stream-bytes).
-- Assumes nothing.
use mathlib.Core.Path.{◌≡◌, refl, sym, ap, ap₂, subst, ◌∙◌}
use mathlib.Core.Bool.{Bool, true, false, not, ◌&&◌, ◌||◌}
use mathlib.Core.List.{List, [], ◌∷◌}
use Prim.Native.Nat.{ℕ, zero, suc, ◌+◌, ◌*◌, ◌-◌, ◌^◌, ◌/◌, ◌%◌, ◌<◌, ◌≤◌}
use native.Mathlib.Nat.{not-suc-le-zero, le_of_suc-le-suc}
use native.Mathlib.Omega.{arith}
use borrow.Author.Tests.{not-false, eqb-true, eq-eqb}
use lib.Dec.{T, eqb, lit<, ltb, ltb→lt}
use lib.ListN.{length, get_or}
use Rattle.lists.specs.Bytes.{Bytes}
use Rattle.lists.specs.Test.{every}
use Rattle.lists.proofs.Bytes.{get_or-byte}
use Rattle.lists.proofs.Test.{and_left, and_right, or_none}
use Rattle.annexg.specs.Read.{State}
use Rattle.annexg.specs.Sync.{sync_table, code_for}
use Rattle.annexg.proofs.Figure.{entry_below}
use Rattle.annexg.proofs.Sync.{sync_rule}
use Rattle.octets.specs.Halves.{packed, half_at, bit_at}
use Rattle.octets.proofs.Halves.{packed-bytes, same_byte, bit_of_byte}
use Rattle.layout.specs.Sectors.{half_of}
use Rattle.channel.specs.Block.{changed, some_from, touched}
use Rattle.channel.specs.Channel.{Item, sync, byte, next_for, last_for, allowed, permitted, stream, proper, all_proper}
use Rattle.channel.proofs.Damage.{same_state_bits, disturbed}
use Rattle.channel.proofs.Entries.{Taken, taken, taken_next}

pub none-at : (t : ℕ → Bool) (k n : ℕ) → some_from t k n ≡ false → (j : ℕ) → j < n → t (k + j) ≡ false
none-at t k zero e j h = absurd (not-suc-le-zero h)
none-at t k (suc n) e zero h =
    let m : k + 0 ≡ k = omega arith in
    rw m (or_none (t k) (some_from t (suc k) n) e).0
none-at t k (suc n) e (suc j) h =
    let m : k + suc j ≡ suc k + j = omega arith in
    rw m (none-at t (suc k) n (or_none (t k) (some_from t (suc k) n) e).1 j (le_of_suc-le-suc h))

kept : (ys xs : List ℕ) (j : ℕ) → changed ys xs j ≡ false → bit_at xs j ≡ bit_at ys j
unfolding changed
kept ys xs j e = eqb-true (bit_at xs j) (bit_at ys j) (not-false (eqb (bit_at xs j) (bit_at ys j)) e)

-- a byte of the stream none of whose bits was changed
same_at : (ys xs : List ℕ) → Bytes ys → Bytes xs → (k : ℕ) → ((j : ℕ) → j < 8 → changed ys xs (8 * k + j) ≡ false) → get_or xs k 0 ≡ get_or ys k 0
same_at ys xs by bx k e =
    same_byte (get_or xs k 0) (get_or ys k 0) (get_or-byte xs k bx) (get_or-byte ys k by)
    (λ j h. sym (bit_of_byte xs k j h) ∙ kept ys xs (8 * k + j) (e j h) ∙ bit_of_byte ys k j h)

bit_15_of : (x y : ℕ) → x < 256 → y < 256 → (x * 256 + y) / 32768 % 2 ≡ x / 128 % 2
bit_15_of x y hx hy = let e : (x * 256 + y) / 32768 ≡ x / 128 = omega arith in ap (λ (z : ℕ). z % 2) e

bit_3_of : (x y : ℕ) → y < 256 → (x * 256 + y) / 8 % 2 ≡ y / 8 % 2
bit_3_of x y hy = let e : (x * 256 + y) / 8 ≡ x * 32 + y / 8 = omega arith in rw e (omega arith)

half-bit_15 : (xs : List ℕ) → Bytes xs → (k : ℕ) → half_at xs (k + 1) / 32768 % 2 ≡ bit_at xs (16 * k + 16)
unfolding half_at
half-bit_15 xs bx k =
    let e : 8 * (2 * (k + 1)) + 0 ≡ 16 * k + 16 = omega arith in
    bit_15_of (get_or xs (2 * (k + 1)) 0) (get_or xs (2 * (k + 1) + 1) 0) (get_or-byte xs (2 * (k + 1)) bx) (get_or-byte xs (2 * (k + 1) + 1) bx)
    ∙ sym (bit_of_byte xs (2 * (k + 1)) 0 (lit< tt)) ∙ ap (bit_at xs) e

half-bit_3 : (xs : List ℕ) → Bytes xs → (k : ℕ) → half_at xs (k + 1) / 8 % 2 ≡ bit_at xs (16 * k + 28)
unfolding half_at
half-bit_3 xs bx k =
    let e : 8 * (2 * (k + 1) + 1) + 4 ≡ 16 * k + 28 = omega arith in
    bit_3_of (get_or xs (2 * (k + 1)) 0) (get_or xs (2 * (k + 1) + 1) 0) (get_or-byte xs (2 * (k + 1) + 1) bx)
    ∙ sym (bit_of_byte xs (2 * (k + 1) + 1) 4 (lit< tt)) ∙ ap (bit_at xs) e

and_true : (a b : Bool) → a ≡ true → b ≡ true → (a && b) ≡ true
and_true a b p q = rw (p, q)

pub bits-touched : (ys xs : List ℕ) → Bytes ys → Bytes xs → (i : ℕ) → touched ys xs i ≡ false → disturbed ys xs i ≡ false
unfolding touched disturbed
bits-touched ys xs by bx i e =
    let k = half_of i in
    let t = changed ys xs in
    let two = or_none (some_from t (16 * k) 16) (t (16 * k + 16) || t (16 * k + 28)) e in
    let bits = or_none (t (16 * k + 16)) (t (16 * k + 28)) two.1 in
    let own = none-at t (16 * k) 16 two.0 in
    ap not (and_true (eqb (half_at xs k) (half_at ys k)) (same_state_bits (half_at xs (k + 1)) (half_at ys (k + 1)))
    (eq-eqb (half_at xs k) (half_at ys k) (word k own)) (both_bits k bits.0 bits.1))
  where
    word : (k : ℕ) → ((j : ℕ) → j < 16 → changed ys xs (16 * k + j) ≡ false) → half_at xs k ≡ half_at ys k
    word k own =
        unfold half_at in
        ap₂ (λ (a b : ℕ). a * 256 + b)
        (same_at ys xs by bx (2 * k) (λ j h. subst (λ (z : ℕ). changed ys xs z ≡ false) (omega arith) (own j (omega arith))))
        (same_at ys xs by bx (2 * k + 1) (λ j h. subst (λ (z : ℕ). changed ys xs z ≡ false) (omega arith) (own (8 + j) (omega arith))))

    both_bits : (k : ℕ) → changed ys xs (16 * k + 16) ≡ false → changed ys xs (16 * k + 28) ≡ false → same_state_bits (half_at xs (k + 1)) (half_at ys (k + 1)) ≡ true
    both_bits k a b =
        let f = half_at xs (k + 1) in
        let g = half_at ys (k + 1) in
        and_true (eqb (f / 32768 % 2) (g / 32768 % 2)) (eqb (f / 8 % 2) (g / 8 % 2))
        (eq-eqb (f / 32768 % 2) (g / 32768 % 2) (half-bit_15 xs bx k ∙ kept ys xs (16 * k + 16) a ∙ sym (half-bit_15 ys by k)))
        (eq-eqb (f / 8 % 2) (g / 8 % 2) (half-bit_3 xs bx k ∙ kept ys xs (16 * k + 28) b ∙ sym (half-bit_3 ys by k)))

-- ---- nothing is touched where nothing was changed

unchanged : (ys xs : List ℕ) (j : ℕ) → get_or xs (j / 8) 0 ≡ get_or ys (j / 8) 0 → changed ys xs j ≡ false
unfolding changed bit_at
unchanged ys xs j e = ap not (eq-eqb (bit_at xs j) (bit_at ys j) (ap (λ (v : ℕ). v / 2 ^ (7 - j % 8) % 2) e))

none_of : (t : ℕ → Bool) (k n : ℕ) → ((j : ℕ) → k ≤ j → j < k + n → t j ≡ false) → some_from t k n ≡ false
none_of t k zero h = refl
none_of t k (suc n) h = rw (h k (omega arith) (omega arith)) (none_of t (suc k) n (λ j l m. h j (omega arith) (omega arith)))

-- a byte is not touched where the four bytes of its word and of the half word after it are read as they were laid
pub untouched_where : (ys xs : List ℕ) (i : ℕ) → ((b : ℕ) → 2 * half_of i ≤ b → b < 2 * half_of i + 4 → get_or xs b 0 ≡ get_or ys b 0) → touched ys xs i ≡ false
unfolding touched
untouched_where ys xs i same =
    let own = 16 * half_of i in
    rw (
      none_of (changed ys xs) own 16 (λ j l m. unchanged ys xs j (same (j / 8) (omega arith) (omega arith))),
      unchanged ys xs (own + 16) (same ((own + 16) / 8) (omega arith) (omega arith)),
    )
    (unchanged ys xs (own + 28) (same ((own + 28) / 8) (omega arith) (omega arith)))

pub untouched : (ys : List ℕ) (i : ℕ) → touched ys ys i ≡ false
untouched ys i = untouched_where ys ys i (λ b l m. refl)

-- ---- every half word of a permitted stream is 16 bits

codes_small : T (every (λ (k h : ℕ). ltb h 65536) sync_table)
unfolding sync_table
codes_small = tt

code_small : (s n : ℕ) (c : Bool) → State s → n < 8 → code_for s n c < 65536
code_small s n c hs hn = ltb→lt (code_for s n c) 65536 (sync_rule (λ (k h : ℕ). ltb h 65536) codes_small s n c hs hn)

taken_small : {s b e : ℕ} → Taken s b e → e / 16 < 65536
taken_small {s} {b} {e} t =
    let h : e < 1048576 = rw t.entry_is (entry_below t.table_no_lem b t.column) in
    omega arith

stream_small : (s l : ℕ) (is : List Item) (cs : List Bool) → T (all_proper is) → State s → T (permitted s l is cs)
    → (k : ℕ) → k < length (stream s is cs) → get_or (stream s is cs) k 0 < 65536
unfolding permitted stream all_proper
stream_small s l [] cs hp hs p k h = absurd (not-suc-le-zero h)
stream_small s l (i ∷ is) [] hp hs p k h = absurd p
stream_small s l (sync n ∷ is) (c ∷ cs) hp hs p zero h = code_small s n c hs (ltb→lt n 8 (and_left (proper (sync n)) (all_proper is) hp))
stream_small s l (sync n ∷ is) (c ∷ cs) hp hs p (suc zero) h = lit< tt
stream_small s l (sync n ∷ is) (c ∷ cs) hp hs p (suc (suc k)) h =
    stream_small 1 (last_for s (sync n) c) is cs (and_right (proper (sync n)) (all_proper is) hp) (record { low = omega arith; high = omega arith }) p k (le_of_suc-le-suc (le_of_suc-le-suc h))
stream_small s l (byte b ∷ is) (c ∷ cs) hp hs p zero h =
    taken_small (taken s l b c (ltb→lt b 256 (and_left (proper (byte b)) (all_proper is) hp)) hs (and_left (allowed s l (byte b) c) (permitted (next_for s (byte b) c) (last_for s (byte b) c) is cs) p))
stream_small s l (byte b ∷ is) (c ∷ cs) hp hs p (suc k) h =
    stream_small (next_for s (byte b) c) (last_for s (byte b) c) is cs (and_right (proper (byte b)) (all_proper is) hp)
    (taken_next (taken s l b c (ltb→lt b 256 (and_left (proper (byte b)) (all_proper is) hp)) hs (and_left (allowed s l (byte b) c) (permitted (next_for s (byte b) c) (last_for s (byte b) c) is cs) p)))
    (and_right (allowed s l (byte b) c) (permitted (next_for s (byte b) c) (last_for s (byte b) c) is cs) p) k (le_of_suc-le-suc h)

pub stream-bytes : (s l : ℕ) (is : List Item) (cs : List Bool) → T (all_proper is) → State s → T (permitted s l is cs) → Bytes (packed (stream s is cs))
stream-bytes s l is cs hp hs p = packed-bytes (stream s is cs) (stream_small s l is cs hp hs p)
