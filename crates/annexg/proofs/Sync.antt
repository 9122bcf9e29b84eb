-- Laws of the SYNC Codes. By one test over table 4 each: code-class and code_agrees (bits 15 and 3), codes_once and codes_differ (all 32 are different),
-- sync-zero_runs (figure G.2). By their definition: code_is-sync (the test of two half words), end_zero_runs (the second half word).
-- Assumes nothing.
use mathlib.Core.Path.{◌≡◌, refl, ap₂, subst, ◌∙◌}
use mathlib.Core.Bool.{Bool, true, false, not, cond, ◌&&◌, ◌||◌}
use mathlib.Core.Logic.{◌⊎◌, inl, inr}
use Prim.Native.Nat.{ℕ, zero, suc, ◌+◌, ◌*◌, ◌-◌, ◌/◌, ◌<◌}
use native.Mathlib.Omega.{arith}
use lib.Dec.{T, eqb, eqb→eq}
use lib.ListN.{length, get_or}
use borrow.Author.Tests.{eq-eqb}
use Rattle.lists.specs.Count.{bit}
use Rattle.lists.specs.Test.{below, every}
use Rattle.lists.proofs.Count.{bit_le}
use Rattle.lists.proofs.Test.{and_left, and_right, or_left, or_right, truth, truth_of, below_at, every-at, implied}
use Rattle.annexg.specs.Read.{State, both_zero, agrees}
use Rattle.annexg.specs.ZeroRuns.{bits_of, lead, trail, inner}
use Rattle.annexg.specs.Sync.{sync_table, sync_end, code_for, is_sync, sync_zero_runs}

pub length-sync : length sync_table ≡ 32
unfolding sync_table
length-sync = refl

-- a rule of table 4, tested by computation, at the code of a State, by its class
pub sync_rule : (f : ℕ → ℕ → Bool) → T (every f sync_table) → (s n : ℕ) (c : Bool) → State s → n < 8 → T (f ((s - 1) / 2 * 16 + n * 2 + bit c) (code_for s n c))
sync_rule f t s n c hs hn = every-at f sync_table t ((s - 1) / 2 * 16 + n * 2 + bit c) (omega (arith, bit_le c, length-sync))

-- the class of a code, by its index
pub class_at : (s n : ℕ) (c : Bool) → State s → n < 8 → ((s - 1) / 2 * 16 + n * 2 + bit c) / 16 ≡ (s - 1) / 2
class_at s n c hs hn = omega (arith, bit_le c)

-- ---- bits 15 and 3 of the first half word tell the class

kinds : ℕ → ℕ → Bool
kinds k h = cond (eqb (k / 16) 0) (both_zero h) (not (both_zero h))

kind : (s n : ℕ) (c : Bool) → State s → n < 8 → T (cond (eqb ((s - 1) / 2) 0) (both_zero (code_for s n c)) (not (both_zero (code_for s n c))))
unfolding kinds
kind s n c hs hn =
    subst (λ (m : ℕ). T (cond (eqb m 0) (both_zero (code_for s n c)) (not (both_zero (code_for s n c))))) (class_at s n c hs hn)
    (sync_rule kinds (unfold kinds both_zero sync_table in tt) s n c hs hn)

-- so the code of a State agrees with that State as a next State
pub code_agrees : (s n : ℕ) (c : Bool) → State s → n < 8 → T (agrees s (both_zero (code_for s n c)))
code_agrees zero n c hs hn = absurd (omega arith)
code_agrees (suc zero) n c hs hn = tt
code_agrees (suc (suc zero)) n c hs hn = kind 2 n c hs hn
code_agrees (suc (suc (suc zero))) n c hs hn = kind 3 n c hs hn
code_agrees (suc (suc (suc (suc zero)))) n c hs hn = tt
code_agrees (suc (suc (suc (suc (suc s))))) n c hs hn = absurd (omega arith)

-- ---- all 32 are different

only_at : ℕ → ℕ → Bool
only_at k h = below 32 (λ j. cond (eqb (get_or sync_table j 0) h) (eqb j k) true)

pub codes_once : (j k : ℕ) → j < 32 → k < 32 → get_or sync_table j 0 ≡ get_or sync_table k 0 → j ≡ k
unfolding only_at
codes_once j k hj hk e =
    let h = get_or sync_table k 0 in
    let test = every-at only_at sync_table (unfold only_at sync_table in tt) k (omega (arith, length-sync)) in
    eqb→eq j k
    (implied (eqb (get_or sync_table j 0) h) (eqb j k) (truth_of (eqb (get_or sync_table j 0) h) (eq-eqb (get_or sync_table j 0) h e))
    (below_at 32 (λ i. cond (eqb (get_or sync_table i 0) h) (eqb i k) true) test j hj))

bit-same : (c d : Bool) → bit c ≡ bit d → c ≡ d
bit-same true true e = refl
bit-same true false e = absurd (omega arith)
bit-same false true e = absurd (omega arith)
bit-same false false e = refl

-- a first half word tells class, number and choice
pub codes_differ :
    (s s' n n' : ℕ) (c c' : Bool) → State s → State s' → n < 8 → n' < 8 → code_for s n c ≡ code_for s' n' c'
    → ((s - 1) / 2 ≡ (s' - 1) / 2) × ((n ≡ n') × (c ≡ c'))
codes_differ s s' n n' c c' hs hs' hn hn' e =
    let k = codes_once ((s - 1) / 2 * 16 + n * 2 + bit c) ((s' - 1) / 2 * 16 + n' * 2 + bit c') (omega (arith, bit_le c)) (omega (arith, bit_le c')) e in
    (omega (arith, bit_le c, bit_le c'), (omega (arith, bit_le c, bit_le c'), bit-same c c' (omega (arith, bit_le c, bit_le c'))))

-- ---- the test of two half words

-- States 1 and 2 have one class of codes, States 3 and 4 the other
code_1_or_3 : (s n : ℕ) (c : Bool) → State s → (code_for s n c ≡ code_for 1 n c) ⊎ (code_for s n c ≡ code_for 3 n c)
code_1_or_3 zero n c h = absurd (omega (arith, h.low))
code_1_or_3 (suc zero) n c h = inl refl
code_1_or_3 (suc (suc zero)) n c h = inl refl
code_1_or_3 (suc (suc (suc zero))) n c h = inr refl
code_1_or_3 (suc (suc (suc (suc zero)))) n c h = inr refl
code_1_or_3 (suc (suc (suc (suc (suc s))))) n c h = absurd (omega (arith, h.high))

-- a code of SYn in whatever State, Primary or Secondary, passes it
pub code_is-sync : (n a b s : ℕ) (c : Bool) → State s → a ≡ code_for s n c → b ≡ sync_end → is_sync n a b ≡ true
unfolding is_sync
code_is-sync n a b s c h e f = ap₂ ◌&&◌ (truth four (one_of c (code_1_or_3 s n c h))) (eq-eqb b sync_end f)
  where
    hit : ℕ → Bool
    hit x = eqb a x

    four : Bool
    four = hit (code_for 1 n false) || (hit (code_for 1 n true) || (hit (code_for 3 n false) || hit (code_for 3 n true)))

    same : (x : ℕ) → code_for s n c ≡ x → T (hit x)
    same x q = truth_of (hit x) (eq-eqb a x (e ∙ q))

    one_of : (d : Bool) → (code_for s n c ≡ code_for 1 n d) ⊎ (code_for s n c ≡ code_for 3 n d) → T four
    one_of false (inl q) = or_left (hit (code_for 1 n false)) _ (same (code_for 1 n false) q)
    one_of true (inl q) = or_right (hit (code_for 1 n false)) _ (or_left (hit (code_for 1 n true)) _ (same (code_for 1 n true) q))
    one_of false (inr q) =
        or_right (hit (code_for 1 n false)) _ (or_right (hit (code_for 1 n true)) _ (or_left (hit (code_for 3 n false)) _ (same (code_for 3 n false) q)))
    one_of true (inr q) =
        or_right (hit (code_for 1 n false)) _ (or_right (hit (code_for 1 n true)) _ (or_right (hit (code_for 3 n false)) _ (same (code_for 3 n true) q)))

-- ---- their zero runs

class_runs : ℕ → ℕ → Bool
class_runs k h = sync_zero_runs (k / 16 * 2 + 1) h && sync_zero_runs (k / 16 * 2 + 2) h

class_zero_runs : (s n : ℕ) (c : Bool) → State s → n < 8 → T (sync_zero_runs ((s - 1) / 2 * 2 + 1) (code_for s n c) && sync_zero_runs ((s - 1) / 2 * 2 + 2) (code_for s n c))
unfolding class_runs
class_zero_runs s n c hs hn =
    subst (λ (m : ℕ). T (sync_zero_runs (m * 2 + 1) (code_for s n c) && sync_zero_runs (m * 2 + 2) (code_for s n c))) (class_at s n c hs hn)
    (sync_rule class_runs (unfold class_runs sync_zero_runs both_zero sync_table in tt) s n c hs hn)

-- a SYNC Code in each State of its class starts as figure G.2 wants, has inner zero runs of 2 to 10 and ends its first half word in two ZEROs
pub sync-zero_runs : (s n : ℕ) (c : Bool) → State s → n < 8 → T (sync_zero_runs s (code_for s n c))
sync-zero_runs zero n c hs hn = absurd (omega arith)
sync-zero_runs (suc zero) n c hs hn = and_left (sync_zero_runs 1 (code_for 1 n c)) (sync_zero_runs 2 (code_for 1 n c)) (class_zero_runs 1 n c hs hn)
sync-zero_runs (suc (suc zero)) n c hs hn = and_right (sync_zero_runs 1 (code_for 2 n c)) (sync_zero_runs 2 (code_for 2 n c)) (class_zero_runs 2 n c hs hn)
sync-zero_runs (suc (suc (suc zero))) n c hs hn = and_left (sync_zero_runs 3 (code_for 3 n c)) (sync_zero_runs 4 (code_for 3 n c)) (class_zero_runs 3 n c hs hn)
sync-zero_runs (suc (suc (suc (suc zero)))) n c hs hn = and_right (sync_zero_runs 3 (code_for 4 n c)) (sync_zero_runs 4 (code_for 4 n c)) (class_zero_runs 4 n c hs hn)
sync-zero_runs (suc (suc (suc (suc (suc s))))) n c hs hn = absurd (omega arith)

-- the second half word opens with eleven ZEROs, and ends in a ONE
pub end_zero_runs : (lead (bits_of 16 sync_end) ≡ 11) × (T (inner (bits_of 16 sync_end)) × (trail sync_end ≡ 0))
end_zero_runs = (refl, (tt, refl))
