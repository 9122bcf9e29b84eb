-- `writer::write::write_each` meets its contract.
-- Assumes nothing.
use mathlib.Core.Path.{◌≡◌, refl, ap, ◌∙◌}
use mathlib.Core.List.{List}
use Prim.Native.Nat.{ℕ, ◌+◌, ◌-◌, ◌*◌}
use lib.ListN.{take, drop}
use Rattle.layout.specs.Lengths.{sector_size, sector_stream}
use Rattle.writer.proofs.Answered.{unwrapped}
use Rattle.writer.proofs.Each.{written_none, written_more, written_length}
use native.Mathlib.Omega.{arith}
use Rattle.writer.proofs.write.write_each.Goals as goal

pub loop-k-init : goal.loop-k-init
loop-k-init c = (omega arith, written_none _ _ _, c.requires.out_len)

pub loop-k-preserved : goal.loop-k-preserved
loop-k-preserved c =
    let bs = c.args.block.now in
    let old = c.args.out.now in
    let from = sector_size * c.loop-k.k in
    let at = sector_stream * c.loop-k.k in
    let b : List ℕ = take (from + sector_size - from) (drop from bs) in
    let o : List ℕ = take (at + sector_stream - at) (drop at c.loop-k.out) in
    let m : from + sector_size - from ≡ sector_size = omega arith in
    let eb : b ≡ take sector_size (drop from bs) = ap (λ (x : ℕ). take x (drop from bs)) m in
    let more =
    written_more c.args.current bs old c.loop-k.k c.loop-k.w c.loop-k.out (omega arith) c.requires.out_len c.loop-k.invariant.1 c.write_sector.new.out b o c.unwrap_or-w.result
    (at + sector_stream - at) (omega arith) (omega arith) eb refl (c.unwrap_or-w.ensures ∙ unwrapped c.loop-k.w c.write_sector.result ∙ c.write_sector.ensures.next) c.write_sector.ensures.out_after c.write_sector.auto.out in
    (omega arith, more, written_length c.args.current bs old (c.loop-k.k + 1) _ _ (omega arith) c.requires.out_len more)
