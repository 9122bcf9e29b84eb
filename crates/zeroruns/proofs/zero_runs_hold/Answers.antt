-- `zeroruns::zero_runs_hold` meets its contract. What is left of the test after j bits is the test of the bits from j on.
-- Assumes nothing.
use mathlib.Core.Path.{◌≡◌, sym, ap, ◌∙◌}
use native.Mathlib.Omega.{arith}
use borrow.Author.Tests.{le-leb}
use lib.ListN.{length, drop}
use Prim.Native.Nat.{ℕ, ◌+◌, ◌-◌}
use mathlib.Core.Bool.{true, false}
use mathlib.Core.List.{List}
use Rattle.std.specs.Prelude.{Some}
use Rattle.channel.specs.Bits.{bits_bytes, zero_runs_from}
use Rattle.layout.specs.Lengths.{stream_size}
use Rattle.zeroruns.proofs.Scanning.{scan_zero, scan_counted, scan_end}
use Rattle.zeroruns.proofs.zero_runs_hold.Goals as goal
use Rattle.zeroruns.proofs.zero_runs_hold.Goals.{then-bit_at+else-not-zero_run_fits, else-bit_at}

-- the bits from bit j on, where the last ONE stands at bit i or, which is the same, at bit k
moved : (xs : List ℕ) (i j k : ℕ) → i ≡ k → zero_runs_from (Some i) j (drop j (bits_bytes xs)) ≡ zero_runs_from (Some k) j (drop j (bits_bytes xs))
moved xs i j k e = ap (λ (m : ℕ). zero_runs_from (Some m) j (drop j (bits_bytes xs))) e

pub loop-j-init : goal.loop-j-init
loop-j-init c =
    let first = c.in-Some.first in (omega arith, c.in-Some.ensures.rest ∙ moved c.args.stream.now first (first + 1) (first + 1 - 0 - 1) (omega arith))

pub returns-then-not-zero_run_fits : goal.returns-then-not-zero_run_fits
returns-then-not-zero_run_fits c =
    let run = scan_counted _ c.loop-j.zeros c.loop-j.j false (omega arith) c.loop-j.invariant.0 (sym (c.if-bit_at.ensures)) (c.if-not-zero_run_fits.ensures) in
    rw (le-leb (length c.args.stream.now) stream_size (omega arith)) (sym (c.loop-j.invariant.1 ∙ run))

-- a ONE that may stand, and a ZERO
pub loop-j-preserved : goal.loop-j-preserved
loop-j-preserved c =
    let xs = c.args.stream.now in
    let j = c.loop-j.j in
    let zeros = c.loop-j.zeros in
    elim c.if-bit_at.branch [
      | then-bit_at+else-not-zero_run_fits w ↦
          let run = scan_counted xs zeros j true (omega arith) c.loop-j.invariant.0 (sym (w.if-bit_at.ensures)) (w.if-not-zero_run_fits.ensures) in
          rw w.zeros-is (omega arith, c.loop-j.invariant.1 ∙ run ∙ moved xs j (j + 1) (j + 1 - 0 - 1) (omega arith))
      | else-bit_at w ↦
          let zero = scan_zero xs (Some (j - zeros - 1)) j (omega arith) (sym (w.if-bit_at.ensures)) in
          rw w.zeros-is (omega arith, c.loop-j.invariant.1 ∙ zero ∙ moved xs (j - zeros - 1) (j + 1) (j + 1 - (zeros + 1) - 1) (omega (arith, c.loop-j.invariant.0)))
    ]

pub returns : goal.returns
returns c =
    let e = sym (scan_end _ _ c.loop-j.j (omega arith)) ∙ sym c.loop-j.invariant.1 in
    rw (le-leb (length c.args.stream.now) stream_size (omega arith)) e
