-- The test of all zero runs of a stream says exactly that each of them is one that a block may have (holds_zero_runs, zero_runs_hold_lem), and a permitted stream
-- of a run passes it (run_zero_runs_hold).
-- Assumes nothing.
use mathlib.Core.Path.{◌≡◌, refl, sym, ap, subst}
use mathlib.Core.Bool.{Bool}
use mathlib.Core.List.{List, [], ◌∷◌, ◌++◌}
use Prim.Native.Nat.{ℕ, zero, suc, ◌+◌, ◌-◌, ◌<◌}
use native.Mathlib.Nat.{zero-add}
use native.Mathlib.Omega.{arith}
use lib.Dec.{T}
use lib.ListN.{length, replicate}
use Rattle.std.specs.Prelude.{Option, Some, None}
use Rattle.lists.proofs.Test.{and_left, and_right, and_both}
use Rattle.channel.specs.Bits.{bits_bytes, block_zero_run_fits, one_fits, zero_runs_from, zero_runs_hold}
use Rattle.channel.specs.Block.{Blocks, permitted_run, run_stream}
use Rattle.channel.proofs.RunZeroRuns.{run_zero_runs}

-- a zero run that fits, at places and lengths that are the same
same-zero_run_fits : {i j k n : ℕ} → i ≡ j → k ≡ n → T (block_zero_run_fits i k) → T (block_zero_run_fits j n)
same-zero_run_fits {i} {j} {k} {n} e f t = subst (λ (x : ℕ). T (block_zero_run_fits j x)) f (subst (λ (x : ℕ). T (block_zero_run_fits x k)) e t)

moved_zero_run_fits : (k : ℕ) {i j : ℕ} → i ≡ j → T (block_zero_run_fits i k) → T (block_zero_run_fits j k)
moved_zero_run_fits k e t = subst (λ (x : ℕ). T (block_zero_run_fits x k)) e t

-- ---- what passes has only such zero runs

past_zeros : (last : Option ℕ) (n p : ℕ) (bs : List ℕ) → T (zero_runs_from last p (replicate n 0 ++ bs)) → T (zero_runs_from last (p + n) bs)
unfolding zero_runs_from
past_zeros last zero p bs t = let e : p + 0 ≡ p = omega arith in rw e t
past_zeros last (suc n) p bs t = let e : p + suc n ≡ suc p + n = omega arith in rw e (past_zeros last n (suc p) bs t)

zero_run_at :
    (last : Option ℕ) (head tail : List ℕ) (k p : ℕ) → T (zero_runs_from last p (head ++ 1 ∷ (replicate k 0 ++ 1 ∷ tail))) → T (block_zero_run_fits (p + length head) k)
unfolding zero_runs_from
zero_run_at last [] tail k p t =
    let u = and_right (one_fits last p) (zero_runs_from (Some p) (suc p) (replicate k 0 ++ 1 ∷ tail)) t in
    let v = past_zeros (Some p) k (suc p) (1 ∷ tail) u in
    let w = and_left (block_zero_run_fits p (suc p + k - suc p)) (zero_runs_from (Some (suc p + k)) (suc (suc p + k)) tail) v in
    let e : p ≡ p + 0 = omega arith in
    let f : suc p + k - suc p ≡ k = omega arith in
    same-zero_run_fits e f w
zero_run_at last (zero ∷ head) tail k p t =
    let e : suc p + length head ≡ p + suc (length head) = omega arith in
    moved_zero_run_fits k e (zero_run_at last head tail k (suc p) t)
zero_run_at last (suc x ∷ head) tail k p t =
    let e : suc p + length head ≡ p + suc (length head) = omega arith in
    moved_zero_run_fits k e
    (zero_run_at (Some p) head tail k (suc p) (and_right (one_fits last p) (zero_runs_from (Some p) (suc p) (head ++ 1 ∷ (replicate k 0 ++ 1 ∷ tail))) t))

pub holds_zero_runs :
    (xs : List ℕ) → T (zero_runs_hold xs) → (head tail : List ℕ) (k : ℕ) → bits_bytes xs ≡ head ++ 1 ∷ (replicate k 0 ++ 1 ∷ tail) → T (block_zero_run_fits (length head) k)
holds_zero_runs xs t head tail k e =
    moved_zero_run_fits k (zero-add (length head)) (zero_run_at None head tail k 0 (subst (λ (l : List ℕ). T (zero_runs_from None 0 l)) e t))

-- ---- and what has only such zero runs passes

-- every element is 0 or 1
Digits : List ℕ → Type 0
Digits [] = Unit {0}
Digits (b ∷ bs) = (b < 2) × Digits bs

-- each zero run between two ONEs of the bits fits, where the first of them is bit p
AllFit : ℕ → List ℕ → Type 0
AllFit p bs = (head tail : List ℕ) (k : ℕ) → bs ≡ head ++ 1 ∷ (replicate k 0 ++ 1 ∷ tail) → T (block_zero_run_fits (p + length head) k)

zero_runs_tail : (p b : ℕ) (bs : List ℕ) → AllFit p (b ∷ bs) → AllFit (suc p) bs
unfolding AllFit
zero_runs_tail p b bs h head tail k e =
    let m : p + suc (length head) ≡ suc p + length head = omega arith in
    moved_zero_run_fits k m (h (b ∷ head) tail k (ap (λ (l : List ℕ). b ∷ l) e))

-- the next ONE of the bits from bit p on, if there is one, may stand after the last before it
Open : Option ℕ → ℕ → List ℕ → Type 0
Open last p bs = (tail : List ℕ) (k : ℕ) → bs ≡ replicate k 0 ++ 1 ∷ tail → T (one_fits last (p + k))

opened : (p : ℕ) (bs : List ℕ) → AllFit p (1 ∷ bs) → Open (Some p) (suc p) bs
unfolding AllFit Open
opened p bs h tail k e =
    let m : p + 0 ≡ p = omega arith in
    let f : k ≡ suc p + k - suc p = omega arith in
    same-zero_run_fits m f (h [] tail k (ap (λ (l : List ℕ). 1 ∷ l) e))

all_hold : (bs : List ℕ) (last : Option ℕ) (p : ℕ) → Digits bs → Open last p bs → AllFit p bs → T (zero_runs_from last p bs)
unfolding zero_runs_from Digits Open
all_hold [] last p d o h = tt
all_hold (zero ∷ bs) last p d o h =
    all_hold bs last (suc p) d.1
    (λ tail k e. let m : p + suc k ≡ suc p + k = omega arith in subst (λ (x : ℕ). T (one_fits last x)) m (o tail (suc k) (ap (λ (l : List ℕ). 0 ∷ l) e)))
    (zero_runs_tail p 0 bs h)
all_hold (suc zero ∷ bs) last p d o h =
    let m : p + 0 ≡ p = omega arith in
    and_both (one_fits last p) (zero_runs_from (Some p) (suc p) bs) (subst (λ (x : ℕ). T (one_fits last x)) m (o bs 0 refl))
    (all_hold bs (Some p) (suc p) d.1 (opened p bs h) (zero_runs_tail p 1 bs h))
all_hold (suc (suc x) ∷ bs) last p d o h = absurd (omega (arith, d.0))

digits : (xs : List ℕ) → Digits (bits_bytes xs)
unfolding bits_bytes Digits
digits [] = tt
digits (x ∷ xs) = (omega arith, (omega arith, (omega arith, (omega arith, (omega arith, (omega arith, (omega arith, (omega arith, digits xs))))))))

pub zero_runs_hold_lem :
    (xs : List ℕ) → ((head tail : List ℕ) (k : ℕ) → bits_bytes xs ≡ head ++ 1 ∷ (replicate k 0 ++ 1 ∷ tail) → T (block_zero_run_fits (length head) k)) → T (zero_runs_hold xs)
unfolding AllFit Open
zero_runs_hold_lem xs h =
    all_hold (bits_bytes xs) None 0 (digits xs) (λ tail k e. tt) (λ head tail k e. moved_zero_run_fits k (sym (zero-add (length head))) (h head tail k e))

-- a permitted stream of a run passes
pub run_zero_runs_hold : (run : List (List ℕ)) (cs : List Bool) → Blocks run → T (permitted_run run cs) → T (zero_runs_hold (run_stream run cs))
run_zero_runs_hold run cs h p = zero_runs_hold_lem (run_stream run cs) (run_zero_runs run cs h p)
