-- ZERO RUNS (document 01): the runs of ZEROs of a permitted stream that starts with a SYNC Code are 2 to 10, or the thirteen of a SYNC Code (zero_runs).
-- Assumes nothing.
use mathlib.Core.Path.{◌≡◌, refl, sym, subst}
use mathlib.Core.Bool.{Bool, true, false, cond, ◌&&◌, ◌||◌}
use mathlib.Core.List.{List, [], ◌∷◌, ◌++◌}
use Prim.Native.Nat.{ℕ, zero, suc, ◌+◌, ◌*◌, ◌-◌, ◌/◌, ◌%◌, ◌<◌, ◌≤◌}
use native.Mathlib.Nat.{zero-add, add-zero}
use native.Mathlib.Omega.{arith}
use borrow.Author.Tests.{eq-eqb, ltb-true}
use lib.Dec.{T, eqb, eqb→eq, ltb, leb, ltb→lt, leb→le, lit<}
use lib.ListN.{length, replicate}
use Rattle.lists.specs.Test.{below, every}
use Rattle.lists.proofs.Test.{and_left, and_right, and_both, below_at, or_left, or_right, implied}
use Rattle.annexg.specs.Read.{State, table_of, entry_of}
use Rattle.annexg.specs.ZeroRuns.{bits_of, lead, trail, inside, inner_from}
use Rattle.annexg.specs.Sync.{sync_table, sync_end, code_for}
use Rattle.annexg.specs.Tables.{main_table, sub_table}
use Rattle.annexg.proofs.Search.{length_main, length-sub, table_rule, column_is}
use Rattle.annexg.proofs.Sync.{sync_rule, class_at}
use Rattle.channel.specs.Bits.{bits_all, sync_half, zero_run_fits}
use Rattle.channel.specs.Channel.{Item, sync, byte, entry_for, next_for, last_for, join_zeros, swaps, allowed, permitted, stream, proper, all_proper}
use Rattle.channel.proofs.Reading.{next_state}

-- a ONE at bit e after r ZEROs; `m e` says that thirteen ZEROs may end there
fine : (ℕ → Bool) → ℕ → ℕ → Bool
fine m e r = inside 2 10 r || (eqb r 13 && m e)

-- every zero run of the bits that a ONE ends, the first bit being bit p, after r ZEROs
walk : (ℕ → Bool) → ℕ → ℕ → List ℕ → Bool
walk m p r [] = true
walk m p r (zero ∷ bs) = walk m (suc p) (suc r) bs
walk m p r (suc x ∷ bs) = fine m p r && walk m (suc p) 0 bs

-- the ZEROs passed since the last ONE, after the bits
after : ℕ → List ℕ → ℕ
after r [] = r
after r (zero ∷ bs) = after (suc r) bs
after r (suc x ∷ bs) = after 0 bs

walk_zeros : (m : ℕ → Bool) (n p r : ℕ) (bs : List ℕ) → T (walk m p r (replicate n 0 ++ bs)) → T (walk m (p + n) (r + n) bs)
unfolding walk
walk_zeros m zero p r bs t = rw (add-zero, add-zero) t
walk_zeros m (suc n) p r bs t =
    let e : suc p + n ≡ p + suc n = omega arith in
    let f : suc r + n ≡ r + suc n = omega arith in
    subst (λ (x : ℕ). T (walk m x (r + suc n) bs)) e (subst (λ (x : ℕ). T (walk m (suc p + n) x bs)) f (walk_zeros m n (suc p) (suc r) bs t))

-- what a walk says of a zero run
walked : (m : ℕ → Bool) (before rest : List ℕ) (n p r : ℕ) → T (walk m p r (before ++ 1 ∷ (replicate n 0 ++ 1 ∷ rest))) → T (fine m (p + length before + suc n) n)
unfolding walk
walked m [] rest n p r t =
    let w = walk_zeros m n (suc p) 0 (1 ∷ rest) (and_right (fine m p r) (walk m (suc p) 0 (replicate n 0 ++ 1 ∷ rest)) t) in
    let f = and_left (fine m (suc p + n) (0 + n)) (walk m (suc (suc p + n)) 0 rest) w in
    let e : suc p + n ≡ p + 0 + suc n = omega arith in
    subst (λ (x : ℕ). T (fine m x n)) e (subst (λ (x : ℕ). T (fine m (suc p + n) x)) (zero-add n) f)
walked m (zero ∷ b) rest n p r t =
    let e : suc p + length b + suc n ≡ p + suc (length b) + suc n = omega arith in
    subst (λ (x : ℕ). T (fine m x n)) e (walked m b rest n (suc p) (suc r) t)
walked m (suc x ∷ b) rest n p r t =
    let e : suc p + length b + suc n ≡ p + suc (length b) + suc n = omega arith in
    subst (λ (x : ℕ). T (fine m x n)) e (walked m b rest n (suc p) 0 (and_right (fine m p r) (walk m (suc p) 0 (b ++ 1 ∷ (replicate n 0 ++ 1 ∷ rest))) t))

-- bits whose zero runs are all 2 to 10 before others
walk_append : (m : ℕ → Bool) (xs ys : List ℕ) (p r : ℕ) → T (inner_from r xs) → T (walk m (p + length xs) (after r xs) ys) → T (walk m p r (xs ++ ys))
unfolding walk after fine
walk_append m [] ys p r g t = rw (← add-zero p) t
walk_append m (zero ∷ xs) ys p r g t =
    let e : p + suc (length xs) ≡ suc p + length xs = omega arith in
    walk_append m xs ys (suc p) (suc r) g (subst (λ (x : ℕ). T (walk m x (after (suc r) xs) ys)) e t)
walk_append m (suc x ∷ xs) ys p r g t =
    let e : p + suc (length xs) ≡ suc p + length xs = omega arith in
    and_both (inside 2 10 r || (eqb r 13 && m p)) (walk m (suc p) 0 (xs ++ ys))
    (or_left (inside 2 10 r) (eqb r 13 && m p) (and_left (inside 2 10 r) (inner_from 0 xs) g))
    (walk_append m xs ys (suc p) 0 (and_right (inside 2 10 r) (inner_from 0 xs) g) (subst (λ (y : ℕ). T (walk m y (after 0 xs) ys)) e t))

-- the ZEROs at the end of a half before State s
pub ends : ℕ → ℕ → Bool
ends zero r = false
ends (suc zero) r = leb r 1
ends (suc (suc zero)) r = inside 2 5 r
ends (suc (suc (suc zero))) r = inside 2 5 r
ends (suc (suc (suc (suc zero)))) r = inside 6 9 r
ends (suc (suc (suc (suc (suc s))))) r = false

-- a half after r ZEROs: its zero runs are 2 to 10, and it ends in e ZEROs
goes : ℕ → ℕ → ℕ → Bool
goes r h e = inner_from r (bits_of 16 h) && eqb (after r (bits_of 16 h)) e

-- a word of the column of State s goes after r ZEROs, where they fit the State, or where the zero run across the join is 2 to 10
try : ℕ → ℕ → ℕ → Bool
try s w r = cond (ends s r || inside 2 10 (r + lead (bits_of 16 w))) (goes r w (trail w)) true

joins : ℕ → ℕ → Bool
joins k e = ends (e % 16) (trail (e / 16)) && below 10 (try (k % 4 + 1) (e / 16))

module _ (t b k : ℕ) (ht : t < 2) (hb : b * 4 < length (table_of t)) (hk : k < 4) where
  entry_joins : T (joins (b * 4 + k) (entry_of t b k))
  entry_joins =
      table_rule joins (unfold joins try goes ends after table_of main_table in tt) (unfold joins try goes ends after table_of sub_table in tt) t b k ht hb hk

  entry_ends : T (ends (entry_of t b k % 16) (trail (entry_of t b k / 16)))
  unfolding joins
  entry_ends =
      and_left (ends (entry_of t b k % 16) (trail (entry_of t b k / 16))) (below 10 (try ((b * 4 + k) % 4 + 1) (entry_of t b k / 16))) entry_joins

  entry_goes : (r : ℕ) → r < 10 → T (ends (k + 1) r || inside 2 10 (r + lead (bits_of 16 (entry_of t b k / 16))))
      → T (goes r (entry_of t b k / 16) (trail (entry_of t b k / 16)))
  unfolding joins try
  entry_goes r hr a =
      let w = entry_of t b k / 16 in
      let c = column_is b k hk in
      let u = and_right (ends (entry_of t b k % 16) (trail (entry_of t b k / 16))) (below 10 (try ((b * 4 + k) % 4 + 1) (entry_of t b k / 16))) entry_joins in
      implied (ends (k + 1) r || inside 2 10 (r + lead (bits_of 16 w))) (goes r w (trail w)) a
      (subst (λ (n : ℕ). T (try n w r)) c (below_at 10 (try ((b * 4 + k) % 4 + 1) w) u r hr))

-- the ZEROs before a State are below ten
inside-high : (low high r : ℕ) → T (inside low high r) → r ≤ high
inside-high low high r t = leb→le r high (and_right (leb low r) (leb r high) t)

ends_small : (s r : ℕ) → T (ends s r) → r < 10
unfolding ends
ends_small zero r t = absurd t
ends_small (suc zero) r t = omega (arith, leb→le r 1 t)
ends_small (suc (suc zero)) r t = omega (arith, inside-high 2 5 r t)
ends_small (suc (suc (suc zero))) r t = omega (arith, inside-high 2 5 r t)
ends_small (suc (suc (suc (suc zero)))) r t = omega (arith, inside-high 6 9 r t)
ends_small (suc (suc (suc (suc (suc s))))) r t = absurd t

-- the first half of a SYNC Code goes after what fits a State of its class, and ends in two ZEROs
try_code : ℕ → ℕ → ℕ → Bool
try_code c h r = cond (ends (c * 2 + 1) r || ends (c * 2 + 2) r) (goes r h 2) true

codes : ℕ → ℕ → Bool
codes k h = below 10 (try_code (k / 16) h)

codes_test : T (every codes sync_table)
unfolding codes try_code goes ends after sync_table
codes_test = tt

code_tries : (s n : ℕ) (c : Bool) → State s → n < 8 → (r : ℕ) → r < 10 → T (try_code ((s - 1) / 2) (code_for s n c) r)
unfolding codes
code_tries s n c hs hn r hr =
    below_at 10 (try_code ((s - 1) / 2) (code_for s n c))
    (subst (λ (m : ℕ). T (below 10 (try_code m (code_for s n c)))) (class_at s n c hs hn) (sync_rule codes codes_test s n c hs hn)) r hr

code_goes : (s n : ℕ) (c : Bool) (r : ℕ) → State s → n < 8 → T (ends s r) → T (goes r (code_for s n c) 2)
unfolding try_code
code_goes zero n c r hs hn e = absurd (omega arith)
code_goes (suc zero) n c r hs hn e =
    implied (ends 1 r || ends 2 r) (goes r (code_for 1 n c) 2) (or_left (ends 1 r) (ends 2 r) e) (code_tries 1 n c hs hn r (ends_small 1 r e))
code_goes (suc (suc zero)) n c r hs hn e =
    implied (ends 1 r || ends 2 r) (goes r (code_for 2 n c) 2) (or_right (ends 1 r) (ends 2 r) e) (code_tries 2 n c hs hn r (ends_small 2 r e))
code_goes (suc (suc (suc zero))) n c r hs hn e =
    implied (ends 3 r || ends 4 r) (goes r (code_for 3 n c) 2) (or_left (ends 3 r) (ends 4 r) e) (code_tries 3 n c hs hn r (ends_small 3 r e))
code_goes (suc (suc (suc (suc zero)))) n c r hs hn e =
    implied (ends 3 r || ends 4 r) (goes r (code_for 4 n c) 2) (or_right (ends 3 r) (ends 4 r) e) (code_tries 4 n c hs hn r (ends_small 4 r e))
code_goes (suc (suc (suc (suc (suc s))))) n c r hs hn e = absurd (omega arith)

-- an entry e after r ZEROs: its word goes, and ends as its next State wants
record Goes (r e : ℕ) : Type 0 where
  word : T (goes r (e / 16) (trail (e / 16)))
  end : T (ends (e % 16) (trail (e / 16)))

own_goes : (t s b r : ℕ) → t < 2 → b * 4 < length (table_of t) → State s → T (ends s r) → Goes r (entry_of t b (s - 1))
own_goes t s b r ht hb hs he =
    let k : s - 1 < 4 = omega arith in
    let c : s ≡ s - 1 + 1 = omega arith in
    record {
      word = entry_goes t b (s - 1) ht hb k r (ends_small s r he)
          (or_left (ends (s - 1 + 1) r) (inside 2 10 (r + lead (bits_of 16 (entry_of t b (s - 1) / 16)))) (subst (λ (n : ℕ). T (ends n r)) c he));
      end = entry_ends t b (s - 1) ht hb k;
    }

other_goes :
    (s l b : ℕ) (x : Bool) → ltb b 88 ≡ x → b < 256 → State s → T (ends s (trail l))
    → T (x || (swaps s && inside 2 10 (join_zeros l (cond x (entry_of 1 b (s - 1)) (entry_of 0 b (4 - s)) / 16))))
    → Goes (trail l) (cond x (entry_of 1 b (s - 1)) (entry_of 0 b (4 - s)))
unfolding join_zeros
other_goes s l b true e hb hs he p = own_goes 1 s b (trail l) (lit< tt) (omega (arith, length-sub, ltb-true b 88 e)) hs he
other_goes s l b false e hb hs he p =
    let k : 4 - s < 4 = omega arith in
    let w = entry_of 0 b (4 - s) / 16 in
    record {
      word = entry_goes 0 b (4 - s) (lit< tt) (omega (arith, length_main)) k (trail l) (ends_small s (trail l) he)
          (or_right (ends (4 - s + 1) (trail l)) (inside 2 10 (trail l + lead (bits_of 16 w))) (and_right (swaps s) (inside 2 10 (trail l + lead (bits_of 16 w))) p));
      end = entry_ends 0 b (4 - s) (lit< tt) (omega (arith, length_main)) k;
    }

taken-goes : (s l b : ℕ) (c : Bool) → b < 256 → State s → T (ends s (trail l)) → T (allowed s l (byte b) c) → Goes (trail l) (entry_for s b c)
taken-goes s l b false hb hs he p = own_goes 0 s b (trail l) (lit< tt) (omega (arith, length_main)) hs he
taken-goes s l b true hb hs he p = other_goes s l b (ltb b 88) refl hb hs he p

-- a half before other bits
walk_half : (m : ℕ → Bool) (p r h e : ℕ) (rest : List ℕ) → T (goes r h e) → T (walk m (p + 16) e rest) → T (walk m p r (bits_of 16 h ++ rest))
unfolding goes
walk_half m p r h e rest g t =
    let q = eqb→eq (after r (bits_of 16 h)) e (and_right (inner_from r (bits_of 16 h)) (eqb (after r (bits_of 16 h)) e) g) in
    walk_append m (bits_of 16 h) rest p r (and_left (inner_from r (bits_of 16 h)) (eqb (after r (bits_of 16 h)) e) g) (subst (λ (x : ℕ). T (walk m (p + 16) x rest)) (sym q) t)

-- the second half of a SYNC Code, with the end of its thirteen ZEROs at bit 11
walk_end : (m : ℕ → Bool) (p : ℕ) (rest : List ℕ) → T (m (p + 11)) → T (walk m (p + 16) 0 rest) → T (walk m p 2 (bits_of 16 sync_end ++ rest))
unfolding walk fine
walk_end m p rest a t =
    let e : p + 11 ≡ suc (suc (suc (suc (suc (suc (suc (suc (suc (suc (suc p)))))))))) = omega arith in
    let f : p + 16 ≡ suc (suc (suc (suc (suc (suc (suc (suc (suc (suc (suc (suc (suc (suc (suc (suc p))))))))))))))) = omega arith in
    and_both (m (suc (suc (suc (suc (suc (suc (suc (suc (suc (suc (suc p)))))))))))) (walk m (suc (suc (suc (suc (suc (suc (suc (suc (suc (suc (suc (suc (suc (suc (suc (suc p)))))))))))))))) 0 rest)
    (subst (λ (x : ℕ). T (m x)) e a) (subst (λ (x : ℕ). T (walk m x 0 rest)) f t)

-- a permitted stream, where thirteen may end at bit 27 from the start of each SYNC Code
walk_stream :
    (m : ℕ → Bool) (s l : ℕ) (is : List Item) (cs : List Bool) (p : ℕ) → T (all_proper is) → State s → T (ends s (trail l)) → T (permitted s l is cs)
    → ((k : ℕ) → T (sync_half is k) → T (m (p + 16 * k + 27)))
    → T (walk m p (trail l) (bits_all (stream s is cs)))
unfolding permitted stream all_proper bits_all sync_half
walk_stream m s l [] cs p hp hs he a g = unfold walk in tt
walk_stream m s l (i ∷ is) [] p hp hs he a g = absurd a
walk_stream m s l (sync n ∷ is) (c ∷ cs) p hp hs he a g =
    walk_half m p (trail l) (code_for s n c) 2 (bits_of 16 sync_end ++ bits_all (stream 1 is cs)) (code_goes s n c (trail l) hs (ltb→lt n 8 (and_left (proper (sync n)) (all_proper is) hp)) he)
    (walk_end m (p + 16) (bits_all (stream 1 is cs)) (subst (λ (x : ℕ). T (m x)) (omega arith) (g 0 tt))
    (walk_stream m 1 sync_end is cs (p + 16 + 16) (and_right (proper (sync n)) (all_proper is) hp) (record { low = omega arith; high = omega arith }) (unfold ends in tt) a
    (λ k h. subst (λ (x : ℕ). T (m x)) (omega arith) (g (suc (suc k)) h))))
walk_stream m s l (byte b ∷ is) (c ∷ cs) p hp hs he a g =
    let a₁ = and_left (allowed s l (byte b) c) (permitted (next_for s (byte b) c) (last_for s (byte b) c) is cs) a in
    let a₂ = and_right (allowed s l (byte b) c) (permitted (next_for s (byte b) c) (last_for s (byte b) c) is cs) a in
    let hp₁ = and_left (proper (byte b)) (all_proper is) hp in
    let hp₂ = and_right (proper (byte b)) (all_proper is) hp in
    let t = taken-goes s l b c (ltb→lt b 256 hp₁) hs he a₁ in
    walk_half m p (trail l) (entry_for s b c / 16) (trail (entry_for s b c / 16)) (bits_all (stream (next_for s (byte b) c) is cs)) t.word
    (walk_stream m (next_for s (byte b) c) (last_for s (byte b) c) is cs (p + 16) hp₂ (next_state s l (byte b) c hp₁ hs a₁) t.end a₂
    (λ k h. subst (λ (x : ℕ). T (m x)) (omega arith) (g (suc k) h)))

-- thirteen ZEROs may end at bit e
thirteen : List Item → ℕ → Bool
thirteen is e = eqb (e % 16) 11 && sync_half is (e / 16 - 1)

thirteen_at : (is : List Item) (k : ℕ) → T (sync_half is k) → T (thirteen is (0 + 16 * k + 27))
unfolding thirteen
thirteen_at is k h =
    let e : (0 + 16 * k + 27) % 16 ≡ 11 = omega arith in
    let f : k ≡ (0 + 16 * k + 27) / 16 - 1 = omega arith in
    and_both (eqb ((0 + 16 * k + 27) % 16) 11) (sync_half is ((0 + 16 * k + 27) / 16 - 1)) (subst T (sym (eq-eqb ((0 + 16 * k + 27) % 16) 11 e)) tt) (subst (λ (x : ℕ). T (sync_half is x)) f h)

fine_fits : (is : List Item) (i n : ℕ) (x : Bool) → T (x || (eqb n 13 && thirteen is (0 + i + suc n))) → T (x || (eqb n 13 && (eqb (i % 16) 13 && sync_half is (i / 16))))
unfolding thirteen
fine_fits is i n true t = tt
fine_fits is i n false t =
    let e = 0 + i + suc n in
    let h = and_left (eqb n 13) (eqb (e % 16) 11 && sync_half is (e / 16 - 1)) t in
    let g = and_right (eqb n 13) (eqb (e % 16) 11 && sync_half is (e / 16 - 1)) t in
    let n13 : n ≡ 13 = eqb→eq n 13 h in
    let e11 : e % 16 ≡ 11 = eqb→eq (e % 16) 11 (and_left (eqb (e % 16) 11) (sync_half is (e / 16 - 1)) g) in
    let i13 : i % 16 ≡ 13 = omega arith in
    let k : e / 16 - 1 ≡ i / 16 = omega arith in
    and_both (eqb n 13) (eqb (i % 16) 13 && sync_half is (i / 16)) h
    (and_both (eqb (i % 16) 13) (sync_half is (i / 16)) (subst T (sym (eq-eqb (i % 16) 13 i13)) tt)
    (subst (λ (x : ℕ). T (sync_half is x)) k (and_right (eqb (e % 16) 11) (sync_half is (e / 16 - 1)) g)))

-- a half that may stand before State s
before : ℕ → ℕ
before zero = 1
before (suc zero) = 1
before (suc (suc zero)) = 4
before (suc (suc (suc zero))) = 4
before (suc (suc (suc (suc s)))) = 64

before_ends : (s : ℕ) → State s → T (ends s (trail (before s)))
unfolding before ends
before_ends zero h = absurd (omega arith)
before_ends (suc zero) h = tt
before_ends (suc (suc zero)) h = tt
before_ends (suc (suc (suc zero))) h = tt
before_ends (suc (suc (suc (suc zero)))) h = tt
before_ends (suc (suc (suc (suc (suc s))))) h = absurd (omega arith)

-- before a SYNC Code no half counts
any_before : (s l l' n : ℕ) (is : List Item) (cs : List Bool) → T (permitted s l (sync n ∷ is) cs) → T (permitted s l' (sync n ∷ is) cs)
unfolding permitted
any_before s l l' n is [] t = absurd t
any_before s l l' n is (c ∷ cs) t = t

-- ZERO RUNS: the zero runs of a permitted stream that starts with a SYNC Code
pub zero_runs :
    (s l n : ℕ) (is : List Item) (cs : List Bool) → T (all_proper (sync n ∷ is)) → State s → T (permitted s l (sync n ∷ is) cs)
    → (head tail : List ℕ) (k : ℕ) → bits_all (stream s (sync n ∷ is) cs) ≡ head ++ 1 ∷ (replicate k 0 ++ 1 ∷ tail)
    → T (zero_run_fits (sync n ∷ is) (length head) k)
unfolding fine
zero_runs s l n is cs hp hs p head tail k e =
    fine_fits (sync n ∷ is) (length head) k (inside 2 10 k)
    (walked (thirteen (sync n ∷ is)) head tail k 0 (trail (before s))
    (subst (λ (x : List ℕ). T (walk (thirteen (sync n ∷ is)) 0 (trail (before s)) x)) e
    (walk_stream (thirteen (sync n ∷ is)) s (before s) (sync n ∷ is) cs 0 hp hs (before_ends s hs) (any_before s l (before s) n is cs p) (thirteen_at (sync n ∷ is)))))
