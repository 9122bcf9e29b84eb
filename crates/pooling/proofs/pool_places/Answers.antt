-- `pool_places` meets its contract: the places before i are pooled, and those from i on as they were. Assumes nothing.
use mathlib.Core.Path.{◌≡◌, refl, sym, ap, ap₂, subst, ◌∙◌}
use Prim.Native.Nat.{ℕ}
use native.Mathlib.Omega.{arith}
use lib.ListN.{length, get_or}
use Rattle.std.specs.Prelude.{Option, is_some}
use Rattle.std.specs.Option.{unwrap_or}
use Rattle.lists.proofs.Fill.{Upto, upto_none, upto_more, upto_all}
use Rattle.pooling.specs.Pool.{with_marks, pooled}
use Rattle.pooling.specs.Inner.{known, both_know}
use Rattle.pooling.proofs.Places.{byte, erasure, byte_known, mark_known}
use Rattle.pooling.proofs.pool_places.Goals as goal

pub loop-i-init : goal.loop-i-init
loop-i-init c = record { bytes = upto_none _ _; erasures = upto_none _ _ }

pub loop-i-preserved : goal.loop-i-preserved
loop-i-preserved c =
    let xs = c.args.bytes.now in
    let ms = c.args.erasures.now in
    let ys = c.args.second.now in
    let ns = c.args.marks.now in
    let i = c.loop-i.i in
    let held = c.loop-i.invariant in
    let place : c.both_know-place.result ≡ both_know (known (get_or xs i 0) (get_or ms i 0)) (known (get_or ys i 0) (get_or ns i 0)) =
    c.both_know-place.ensures ∙ ap₂ both_know (c.known.ensures ∙ ap₂ known (held.bytes.left i (omega arith)) (held.erasures.left i (omega arith))) c.known-in-loop-i.ensures in
    record {
      bytes = upto_more (byte (with_marks xs ms) (with_marks ys ns)) xs c.loop-i.bytes i _ (omega (arith, held.bytes.same, c.told-bytes))
          (c.unwrap_or.ensures ∙ ap (λ (o : Option ℕ). unwrap_or o 0) place ∙ byte_known (get_or xs i 0) (get_or ms i 0) (get_or ys i 0) (get_or ns i 0)) held.bytes;
      erasures = upto_more (erasure (with_marks xs ms) (with_marks ys ns)) ms c.loop-i.erasures i _ (omega (arith, held.erasures.same, c.told-erasures))
          (mark_known (get_or xs i 0) (get_or ms i 0) (get_or ys i 0) (get_or ns i 0) c.is_none.result c.from.result (sym (ap (λ (o : Option ℕ). is_some o) place) ∙ c.is_none.ensures)
          c.from.ensures) held.erasures;
    }

pub returns : goal.returns
unfolding pooled
returns c =
    let xs = c.args.bytes.now in
    let ms = c.args.erasures.now in
    let a = with_marks xs ms in
    let b = with_marks c.args.second.now c.args.marks.now in
    let all : c.loop-i.i ≡ length xs = omega (arith, c.told-bytes) in
    record {
      bytes_after = upto_all (byte a b) xs c.loop-i.bytes (length xs) refl (subst (Upto (byte a b) xs c.loop-i.bytes) all c.loop-i.invariant.bytes);
      erasures_after = upto_all (erasure a b) ms c.loop-i.erasures (length xs) (c.told-erasures ∙ sym c.told-bytes) (subst (Upto (erasure a b) ms c.loop-i.erasures) all c.loop-i.invariant.erasures);
    }
