-- `marks_fit` meets its contract: the marks before the next all fit, or one does not. Assumes nothing.
use mathlib.Core.Path.{◌≡◌}
use lib.Dec.{leb}
use lib.ListN.{take}
use Rattle.std.specs.List.{list_all}
use Rattle.repairer.proofs.marks_fit.Given as goal

abbrev pub invariant-loop-mark : goal.invariant-loop-mark
invariant-loop-mark l = l.fit ≡ list_all (λ m. leb m 1) (take l.mark-index l.erasures)
