-- `reader::read_bytes` meets its contract. The loop keeps the bytes read so far, their marks and the count of unknown words among them. Assumes nothing.
use mathlib.Core.Path.{◌≡◌}
use Rattle.lists.specs.Count.{bit, count_from}
use Rattle.lists.proofs.Fill.{Upto}
use Rattle.channel.specs.Block.{read_at, unknown_at}
use Rattle.reader.proofs.read_bytes.Given as goal

abbrev pub invariant-loop-i : goal.invariant-loop-i
invariant-loop-i l = Upto (read_at l.stream) l.initial.out l.out l.i
    × Upto (λ j. bit (unknown_at l.stream j)) l.initial.erasures l.erasures l.i
    × (l.unknown ≡ count_from (unknown_at l.stream) 0 l.i)
