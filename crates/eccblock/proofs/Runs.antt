-- Blocks of a run: accepted_any (each is accepted alone too), run_length_fits (the first numbers grow by 16 a block, so that a run has at most 16,777,216 sectors),
-- zero_after_the_highest≡10 (the sum does not wrap).
-- Assumes nothing.
use mathlib.Core.Path.{◌≡◌, refl, sym, ◌∙◌}
use mathlib.Core.List.{List, [], ◌∷◌}
use Prim.Native.Nat.{ℕ, ◌+◌, ◌*◌, ◌≤◌}
use native.Mathlib.Omega.{arith}
use borrow.Author.Tests.{eqb-true}
use lib.ListN.{length}
use Rattle.std.specs.Prelude.{Option, None, Some}
use Rattle.layout.specs.Lengths.{main_size, block_size, last_first, run_sectors}
use Rattle.eccblock.specs.Encode.{encode_refusal, Accepted}
use Rattle.eccblock.specs.Run.{BlockInput, AcceptedRun}
use Rattle.eccblock.proofs.Refusals.{accepted_facts, by_judgement}

-- a block that is accepted after another is accepted with none before it
pub accepted_any : {previous : Option ℕ} {main : List ℕ} {first info : ℕ} → Accepted previous main first info → Accepted None main first info
accepted_any {previous} {main} {first} {info} ok =
    let f = accepted_facts main first info ok in
    record {
      bytes = ok.bytes;
      byte = ok.byte;
      taken = sym (by_judgement None (length main) block_size first info f.whole refl f.sixteen f.small) ∙ rw f.permitted;
    }

-- the numbers up to the end of the block with first number p, and those of the blocks after it, are sector numbers
after_fits : (p : ℕ) (is : List BlockInput) → p ≤ last_first → AcceptedRun (Some p) is → p + 16 + 16 * length is ≤ run_sectors
unfolding AcceptedRun
after_fits p [] h ok = omega arith
after_fits p (i ∷ is) h (ok, oks) =
    let f = accepted_facts i.main i.first i.info ok in
    omega (arith, eqb-true i.first (p + 16) f.following, after_fits i.first is f.small oks)

-- a run has no more sectors than there are sector numbers
pub run_length_fits : (is : List BlockInput) → AcceptedRun None is → 16 * length is ≤ run_sectors
unfolding AcceptedRun
run_length_fits [] ok = omega arith
run_length_fits (i ∷ is) (ok, oks) = omega (arith, after_fits i.first is (accepted_facts i.main i.first i.info ok).small oks)

-- 4,294,967,280 plus 16 is 2^32, and not 0
pub zero_after_the_highest≡10 : encode_refusal (Some 4294967280) main_size block_size 0 0 ≡ 10
unfolding encode_refusal
zero_after_the_highest≡10 = refl
