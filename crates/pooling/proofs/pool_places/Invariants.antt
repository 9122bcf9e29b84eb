-- `pool_places` meets its contract: the places before i are pooled, and those from i on as they were. Assumes nothing.
use Rattle.lists.proofs.Fill.{Upto}
use Rattle.pooling.specs.Pool.{with_marks}
use Rattle.pooling.proofs.Places.{byte, erasure}
use Rattle.pooling.proofs.pool_places.Given as goal

abbrev pub invariant-loop-i : goal.invariant-loop-i
invariant-loop-i l = record {
  bytes : Upto (byte (with_marks l.initial.bytes l.initial.erasures) (with_marks l.second l.marks)) l.initial.bytes l.bytes l.i;
  erasures : Upto (erasure (with_marks l.initial.bytes l.initial.erasures) (with_marks l.second l.marks)) l.initial.erasures l.erasures l.i;
}
