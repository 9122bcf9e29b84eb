-- `read_sectors` meets its contract. Assumes nothing.
use mathlib.Core.Path.{◌≡◌}
use Prim.Native.Nat.{◌+◌, ◌-◌, ◌*◌, ◌≤◌}
use Rattle.lists.proofs.Fill.{Upto}
use Rattle.channel.specs.Block.{read_at}
use Rattle.layout.specs.Lengths.{sector_size}
use Rattle.reader.specs.Sector.{unknown_tally, sync_tally}
use Rattle.blockreader.specs.BlockReader.{sector_sum}
use Rattle.blockreader.proofs.SectorLoop.{mark_at}
use Rattle.blockreader.proofs.read_sectors.Given as goal

abbrev pub invariant-loop-k : goal.invariant-loop-k
invariant-loop-k l = record {
  bytes : Upto (read_at l.stream) l.initial.block l.block (sector_size * l.k);
  marks : Upto (mark_at l.stream) l.initial.erasures l.erasures (sector_size * l.k);
  unknown_bound : l.sums.unknown ≤ sector_size * l.k;
  sync_bound : l.sums.sync ≤ 26 * l.k;
  unknown : l.sums.unknown + sector_sum unknown_tally l.stream l.k (16 - l.k) ≡ sector_sum unknown_tally l.stream 0 16;
  sync : l.sums.sync + sector_sum sync_tally l.stream l.k (16 - l.k) ≡ sector_sum sync_tally l.stream 0 16;
}
