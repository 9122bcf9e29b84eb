-- `reader::read_bytes` meets its contract. The loop keeps the bytes read so far, their marks and the count of unknown words among them. Assumes nothing.
use mathlib.Core.Path.{◌≡◌, sym, ap, ap₂, ◌∙◌}
use Prim.Native.Nat.{ℕ, ◌+◌, ◌*◌, ◌/◌}
use native.Mathlib.Omega.{arith}
use Rattle.std.specs.Prelude.{Option}
use Rattle.lists.specs.Count.{bit, count_from}
use Rattle.lists.proofs.Count.{bit_le, count-le, count_snoc}
use Rattle.lists.proofs.Fill.{upto_more, upto_all}
use Rattle.annexg.specs.Read.{read_word}
use Rattle.layout.specs.Lengths.{sector_size, frame_bytes}
use Rattle.layout.specs.Sectors.{half_of}
use Rattle.octets.specs.Halves.{half_at}
use Rattle.channel.specs.Block.{reading_byte, is_unknown, read_at, unknown_at}
use Rattle.channel.proofs.ReadingMark.{mark_digit}
use Rattle.reader.specs.Sector.{unknown_tally}
use Rattle.reader.proofs.read_bytes.Goals as goal

pub overflow_add-unknown : goal.overflow_add-unknown
overflow_add-unknown c =
    let xs = c.args.stream.now in
    omega (
      arith,
      c.loop-i.invariant.2,
      count-le (unknown_at xs) 0 c.loop-i.i,
      mark_digit _ _ c.is_none-in-loop-i.ensures,
      bit_le (is_unknown c.read-read.result),
    )

pub loop-i-preserved : goal.loop-i-preserved
unfolding read_at unknown_at
loop-i-preserved c =
    let xs = c.args.stream.now in
    let i = c.loop-i.i in
    let place : i + 2 * (i / frame_bytes) + 2 ≡ half_of i = omega arith in
    let word = c.half_at-word.ensures ∙ ap (half_at xs) place in
    let following = c.half_at-following.ensures ∙ ap (λ (n : ℕ). half_at xs (n + 1)) place in
    let read = c.read-read.ensures ∙ ap₂ read_word word following in
    let byte = c.unwrap_or.ensures ∙ ap reading_byte read in
    let mark = c.from.ensures ∙ mark_digit _ _ c.is_none.ensures ∙ ap (λ (r : Option ℕ). bit (is_unknown r)) read in
    let counted = c.from-unknown.ensures ∙ mark_digit _ _ c.is_none-in-loop-i.ensures ∙ ap (λ (r : Option ℕ). bit (is_unknown r)) read in (
      upto_more _ _ _ _ _ (omega arith) byte c.loop-i.invariant.0,
      upto_more _ _ _ _ _ (omega arith) mark c.loop-i.invariant.1,
      ap₂ ◌+◌ c.loop-i.invariant.2 counted ∙ sym (count_snoc (unknown_at xs) i),
    )

pub returns : goal.returns
unfolding unknown_tally
returns c =
    let xs = c.args.stream.now in
    let all : c.loop-i.i ≡ sector_size = omega arith in
    record {
      value = c.loop-i.invariant.2 ∙ ap (count_from (unknown_at xs) 0) all;
      out_after = upto_all (read_at xs) c.args.out.now c.loop-i.out sector_size (omega arith) (rw all at c.loop-i.invariant.0);
      erasures_after = upto_all (λ i. bit (unknown_at xs i)) c.args.erasures.now c.loop-i.erasures sector_size (omega arith) (rw all at c.loop-i.invariant.1);
    }
