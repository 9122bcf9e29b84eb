-- `read_sectors` meets its contract. Assumes nothing.
use mathlib.Core.Path.{◌≡◌, ap, ◌∙◌}
use mathlib.Core.List.{List}
use Prim.Native.Nat.{ℕ, ◌+◌, ◌-◌, ◌*◌, ◌<◌}
use native.Mathlib.Omega.{arith}
use lib.ListN.{length, get_or, take, drop}
use Rattle.std.proofs.Common.{rules}
use Rattle.lists.proofs.Fill.{upto_none}
use Rattle.channel.specs.Block.{read_at}
use Rattle.layout.specs.Lengths.{sector_size, sector_stream, sector_read, stream_size, block_size}
use Rattle.layout.specs.Sectors.{sector_part}
use Rattle.reader.specs.declared.SectorTally.{SectorTally}
use Rattle.reader.specs.Sector.{unknown_tally, sync_tally}
use Rattle.blockreader.proofs.SectorLoop.{mark_at, part_is, part_sized, upto_put, sector_bytes, sector_length, sector_erasures, erasures-length, sector_tallies, tally_is, unknown_le, sync-le, sum_next, sum_end, sectors_all, erasures_all}
use Rattle.blockreader.proofs.read_sectors.Goals as goal

pub loop-k-init : goal.loop-k-init
loop-k-init c = record {
  bytes = upto_none _ _;
  marks = upto_none _ _;
  unknown_bound = omega arith;
  sync_bound = omega arith;
  unknown = omega arith;
  sync = omega arith;
}

-- no part is refused
pub unwrap-tally-requires : goal.unwrap-tally-requires
unwrap-tally-requires c =
    let xs = c.args.stream.now in
    let k = c.loop-k.k in
    let hk : k < 16 = omega arith in
    let whole : length xs ≡ stream_size = omega arith in
    let ob = part_sized c.loop-k.block k hk (omega arith) in
    let oe = part_sized c.loop-k.erasures k hk (omega arith) in
    rw (sector_tallies xs _ k hk whole (part_is xs k) _ _ _ ob oe c.read_sector_with-read.ensures.value) (search rules)

pub loop-k-preserved : goal.loop-k-preserved
loop-k-preserved c =
    let xs = c.args.stream.now in
    let k = c.loop-k.k in
    let d : List ℕ = take (sector_stream * k + sector_read - sector_stream * k) (drop (sector_stream * k) xs) in
    let from = sector_size * k in
    let size = from + sector_size - from in
    let b : List ℕ → List ℕ = λ ys. take size (drop from ys) in
    let hk : k < 16 = omega arith in
    let e2 : size ≡ sector_size = omega arith in
    let x : sector_size * (k + 1) ≡ from + sector_size = omega arith in
    let whole : length xs ≡ stream_size = omega arith in
    let lb : length c.loop-k.block ≡ block_size = omega arith in
    let le : length c.loop-k.erasures ≡ block_size = omega arith in
    let e = part_is xs k in
    let ob = part_sized c.loop-k.block k hk lb in
    let oe = part_sized c.loop-k.erasures k hk le in
    let read = c.read_sector_with-read in
    let t = tally_is xs d k hk whole e _ _ _ _ ob oe read.ensures.value c.unwrap-tally.ensures in
    let u = ap (λ (s : SectorTally). s.unknown) t in
    let s = ap (λ (s : SectorTally). s.sync) t in
    record {
      bytes = upto_put (read_at xs) c.args.block.now c.loop-k.block read.new.out from sector_size size (sector_size * (k + 1)) e2 x (omega (arith, lb))
          (ap length read.ensures.out_after ∙ sector_length xs d k hk whole e (b c.loop-k.block) _ ob oe)
          (λ i h. ap (λ (z : List ℕ). get_or z i 0) read.ensures.out_after ∙ sector_bytes xs d k hk whole e (b c.loop-k.block) _ ob oe i h) c.loop-k.invariant.bytes;
      marks = upto_put (mark_at xs) c.args.erasures.now c.loop-k.erasures read.new.erasures from sector_size size (sector_size * (k + 1)) e2 x (omega (arith, le))
          (ap length read.ensures.erasures_after ∙ erasures-length xs d k hk whole e _ (b c.loop-k.erasures) ob oe)
          (λ i h. ap (λ (z : List ℕ). get_or z i 0) read.ensures.erasures_after ∙ sector_erasures xs d k hk whole e _ (b c.loop-k.erasures) ob oe i h) c.loop-k.invariant.marks;
      unknown_bound = omega (arith, u, unknown_le (sector_part xs k), c.loop-k.invariant.unknown_bound);
      sync_bound = omega (arith, s, sync-le (sector_part xs k), c.loop-k.invariant.sync_bound);
      unknown = omega (arith, u, sum_next unknown_tally xs k hk, c.loop-k.invariant.unknown);
      sync = omega (arith, s, sum_next sync_tally xs k hk, c.loop-k.invariant.sync);
    }

pub overflow_add-sums : goal.overflow_add-sums
overflow_add-sums c =
    let xs = c.args.stream.now in
    let k = c.loop-k.k in
    let hk : k < 16 = omega arith in
    let whole : length xs ≡ stream_size = omega arith in
    let ob = part_sized c.loop-k.block k hk (omega arith) in
    let oe = part_sized c.loop-k.erasures k hk (omega arith) in
    let t = tally_is xs _ k hk whole (part_is xs k) _ _ _ _ ob oe c.read_sector_with-read.ensures.value c.unwrap-tally.ensures in
    let u = ap (λ (s : SectorTally). s.unknown) t in
    omega (arith, u, unknown_le (sector_part xs k), c.loop-k.invariant.unknown_bound)

pub overflow_add-sums-in-loop-k : goal.overflow_add-sums-in-loop-k
overflow_add-sums-in-loop-k c =
    let xs = c.args.stream.now in
    let k = c.loop-k.k in
    let hk : k < 16 = omega arith in
    let whole : length xs ≡ stream_size = omega arith in
    let ob = part_sized c.loop-k.block k hk (omega arith) in
    let oe = part_sized c.loop-k.erasures k hk (omega arith) in
    let t = tally_is xs _ k hk whole (part_is xs k) _ _ _ _ ob oe c.read_sector_with-read.ensures.value c.unwrap-tally.ensures in
    let s = ap (λ (s : SectorTally). s.sync) t in
    omega (arith, s, sync-le (sector_part xs k), c.loop-k.invariant.sync_bound)

pub returns : goal.returns
returns c =
    let xs = c.args.stream.now in
    let k = c.loop-k.k in
    let e : sector_size * k ≡ block_size = omega arith in
    record {
      block_after = sectors_all xs c.args.block.now c.loop-k.block (omega arith) (rw e at c.loop-k.invariant.bytes);
      erasures_after = erasures_all xs c.args.erasures.now c.loop-k.erasures (omega arith) (rw e at c.loop-k.invariant.marks);
      unknown = omega (arith, sum_end unknown_tally xs k (omega arith), c.loop-k.invariant.unknown);
      sync = omega (arith, sum_end sync_tally xs k (omega arith), c.loop-k.invariant.sync);
    }
