-- `wordindex::put_table` meets its contract: the entries before k have taken their slots. Assumes nothing.
use mathlib.Core.Path.{◌≡◌}
use mathlib.Core.List.{List}
use Prim.Native.Nat.{ℕ, ◌<◌, ◌≤◌}
use native.Mathlib.Omega.{arith}
use lib.ListN.{length, get_or}
use Rattle.annexg.specs.Read.{table_of}
use Rattle.annexg.proofs.Figure.{table_below}
use Rattle.wordindex.proofs.Index.{table_long}
use Rattle.wordindex.proofs.IndexSteps.{none_put, more_put, all_put}
use Rattle.wordindex.proofs.put_table.Goals as goal

-- the table es as it is lent
short : (t : ℕ) (es : List ℕ) → (t < 2) × (es ≡ table_of t) → length es ≤ 1024
short t es lent = rw lent.1 (table_long t lent.0)

below : (t : ℕ) (es : List ℕ) → (t < 2) × (es ≡ table_of t) → (k : ℕ) → get_or es k 0 < 1048576
below t es lent k = rw lent.1 (table_below t k)

pub loop-k-init : goal.loop-k-init
loop-k-init c = none_put _ _

pub overflow_mul-number : goal.overflow_mul-number
overflow_mul-number c = omega (arith, c.requires.table_bound)

pub overflow_cast-number : goal.overflow_cast-number
overflow_cast-number c = omega (arith, short c.args.table c.args.entries.now (c.requires.table_bound, c.requires.entries_value))

pub overflow_add-number : goal.overflow_add-number
overflow_add-number c = omega (arith, c.requires.table_bound, short c.args.table c.args.entries.now (c.requires.table_bound, c.requires.entries_value))

pub overflow_cast-number-in-loop-k : goal.overflow_cast-number-in-loop-k
overflow_cast-number-in-loop-k c =
    omega (arith, c.requires.table_bound, short c.args.table c.args.entries.now (c.requires.table_bound, c.requires.entries_value))

pub put_entry-requires : goal.put_entry-requires
put_entry-requires c = below c.args.table c.args.entries.now (c.requires.table_bound, c.requires.entries_value) c.loop-k.k

pub loop-k-preserved : goal.loop-k-preserved
loop-k-preserved c =
    let a = c.args in
    more_put a.table a.entries.now a.index.now _ _ c.loop-k.k c.requires.entries_value c.loop-k.invariant c.put_entry.ensures

pub returns : goal.returns
returns c =
    let a = c.args in
    all_put a.table a.entries.now a.index.now _ c.loop-k.k c.requires.entries_value (omega arith) c.loop-k.invariant
