-- Figure G.2 holds at each entry of both tables: one test over them, and the rule at each entry.
-- Assumes nothing.
use mathlib.Core.Path.{subst}
use mathlib.Core.Bool.{Bool}
use mathlib.Core.Logic.{dite}
use Prim.Native.Nat.{ℕ, zero, suc, ◌+◌, ◌*◌, ◌/◌, ◌%◌, ◌<◌}
use native.Mathlib.Decide.{dec_lt}
use native.Mathlib.Omega.{arith}
use lib.Dec.{T, ltb, ltb→lt, lit<}
use lib.ListN.{length, get_or, get_or-eq_default}
use Rattle.lists.specs.Test.{every}
use Rattle.lists.proofs.Test.{every-at}
use Rattle.annexg.specs.Read.{table_of, entry_of, word_of, next_of, both_zero}
use Rattle.annexg.specs.ZeroRuns.{zero_runs_fit}
use Rattle.annexg.specs.Tables.{main_table, sub_table}
use Rattle.annexg.proofs.Search.{table_rule, column_is}

ruled : ℕ → ℕ → Bool
ruled k e = zero_runs_fit (k % 4 + 1) (e / 16) (e % 16)

-- the entry for byte b in the column of State s + 1 obeys figure G.2
pub figure : (t b s : ℕ) → t < 2 → b * 4 < length (table_of t) → s < 4 → T (zero_runs_fit (s + 1) (word_of t b s) (next_of t b s))
unfolding ruled
figure t b s ht hb hs =
    subst (λ (n : ℕ). T (zero_runs_fit n (word_of t b s) (next_of t b s))) (column_is b s hs)
    (table_rule ruled (unfold ruled zero_runs_fit both_zero table_of main_table in tt) (unfold ruled zero_runs_fit both_zero table_of sub_table in tt) t b s ht hb hs)

-- each entry is five hexadecimal digits, and past the tables' ends there is 0
small : ℕ → ℕ → Bool
small k e = ltb e 1048576

small_tables : (t : ℕ) → T (every small (table_of t))
unfolding table_of main_table sub_table small
small_tables zero = tt
small_tables (suc t) = tt

pub table_below : (t k : ℕ) → get_or (table_of t) k 0 < 1048576
unfolding small
table_below t k =
    dite (dec_lt k (length (table_of t))) (λ h. ltb→lt (get_or (table_of t) k 0) 1048576 (every-at small (table_of t) (small_tables t) k h))
    (λ h. rw (get_or-eq_default (table_of t) 0 {n = k} (omega (arith, h))) (lit< tt))

pub entry_below : (t b s : ℕ) → entry_of t b s < 1048576
entry_below t b s = table_below t (b * 4 + s)
