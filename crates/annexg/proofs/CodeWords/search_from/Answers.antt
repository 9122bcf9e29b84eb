-- `annexg::CodeWords::search_from` meets its contract. The search is followed entry by entry: what is left of it from each place on is `read_from`.
-- Assumes nothing.
use mathlib.Core.Path.{◌≡◌, sym, ap, ◌∙◌}
use mathlib.Core.Bool.{true, false}
use Prim.Native.Nat.{ℕ, suc, ◌+◌, ◌*◌, ◌≤◌, ◌<◌}
use native.Mathlib.Omega.{arith}
use borrow.Author.Rules.{rules}
use lib.ListN.{length, get_or}
use Rattle.annexg.specs.Read.{table_of, fits_of}
use Rattle.annexg.specs.Inner.{read_from}
use Rattle.std.specs.Prelude.{Some}
use Rattle.annexg.proofs.Search.{from_unfit, from_fit, from_end, from_past}
use Rattle.annexg.proofs.CodeWords.search_from.Goals as goal

pub loop-t-init : goal.loop-t-init
loop-t-init c = let a = c.args in
    (omega arith, ap (read_from a.word a.zero a.table) (omega arith))

pub loop-b-init : goal.loop-b-init
loop-b-init c = c.loop-t.invariant

pub loop-s-init : goal.loop-s-init
loop-s-init c = (omega arith, c.loop-b.invariant.1)

pub loop-s-preserved : goal.loop-s-preserved
loop-s-preserved c = let a = c.args in
    let t = c.loop-t.t in
    let two : t < 2 = omega (arith, c.loop-t-test.true) in
    let k = c.loop-b.b * 4 + c.loop-s.s in
    let inside : k < length (table_of t) = omega (arith, c.bytes_of-n.ensures.result_value) in
    let unfit : fits_of a.word a.zero (get_or (table_of t) k 0) ≡ false =
    ap (fits_of a.word a.zero) (sym c.entry-e.ensures) ∙ sym c.fits.ensures ∙ c.if-fits.false
    in
    (search rules, c.loop-s.invariant.1 ∙ from_unfit a.word a.zero t k two inside unfit ∙ ap (read_from a.word a.zero t) (omega arith))

pub loop-b-preserved : goal.loop-b-preserved
loop-b-preserved c = let a = c.args in
    (omega arith, c.loop-s.invariant.1 ∙ ap (read_from a.word a.zero c.loop-t.t) (omega arith))

pub loop-t-preserved : goal.loop-t-preserved
loop-t-preserved c = let a = c.args in
    let t = c.loop-t.t in
    let two : t < 2 = omega (arith, c.loop-t-test.true) in
    let next : suc t ≡ t + 1 = omega arith in
    let past : length (table_of t) ≤ c.loop-b.b * 4 + c.loop-b.column = omega (arith, c.bytes_of-n.ensures.result_value) in
    (omega arith, c.loop-b.invariant.1 ∙ from_end a.word a.zero t _ two past ∙ ap (λ (n : ℕ). read_from a.word a.zero n 0) next)

pub returns-then-fits : goal.returns-then-fits
returns-then-fits c = let a = c.args in
    let t = c.loop-t.t in
    let two : t < 2 = omega (arith, c.loop-t-test.true) in
    let k = c.loop-b.b * 4 + c.loop-s.s in
    let inside : k < length (table_of t) = omega (arith, c.bytes_of-n.ensures.result_value) in
    let fit : fits_of a.word a.zero (get_or (table_of t) k 0) ≡ true =
    ap (fits_of a.word a.zero) (sym c.entry-e.ensures) ∙ sym c.fits.ensures ∙ c.if-fits.true
    in
    sym (c.loop-s.invariant.1 ∙ from_fit a.word a.zero t k two inside fit ∙ ap Some (omega arith))

pub returns-after-loop-t : goal.returns-after-loop-t
returns-after-loop-t c = let a = c.args in
    let past : 2 ≤ c.loop-t.t = omega (arith, c.loop-t-test.false) in
    sym (c.loop-t.invariant.1 ∙ from_past a.word a.zero c.loop-t.t _ past)
