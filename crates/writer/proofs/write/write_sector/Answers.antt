-- `writer::write::write_sector` meets its contract: it is refused, or the sector is laid.
-- Assumes nothing.
use mathlib.Core.Path.{refl, sym, ap, subst, ◌∙◌}
use mathlib.Core.List.{List}
use Prim.Native.Nat.{ℕ, max}
use native.Mathlib.Omega.{arith}
use Rattle.layout.specs.Lengths.{sector_frames}
use Rattle.levels.specs.declared.Running.{Running}
use Rattle.octets.specs.Halves.{packed}
use Rattle.streams.specs.Frames.{sector_of}
use Rattle.streams.specs.Peak.{peak_of}
use Rattle.writer.specs.Inner.{SectorBegins}
use Rattle.writer.proofs.Answered.{refused, kept, numbered}
use Rattle.writer.proofs.Sound.{from_length, to_length, sector_by_state, sector_opens, sector_begins, sector_refused, sector_done, sector_small, near}
use Rattle.writer.proofs.write.write_sector.Goals as goal

pub returns-in_default : goal.returns-in_default
returns-in_default c =
    let a = c.args in
    let number = from_length a.current _ _ c.in_default.ensures.cases in
    let left = sector_refused a.current a.bytes.now a.out.now 1 number (λ z. omega arith) in
    record { number = number; next = left.0; out_after = left.1 }

pub returns-in_default-as_mut_array : goal.returns-in_default-as_mut_array
returns-in_default-as_mut_array c =
    let a = c.args in
    let number = to_length a.current _ _ c.in_default-as_mut_array.ensures.cases in
    let left = sector_refused a.current a.bytes.now a.out.now 1 number (λ z. omega arith) in
    record { number = number; next = left.0; out_after = left.1 }

pub returns-in_err-takes : goal.returns-in_err-takes
returns-in_err-takes c =
    let a = c.args in
    let number =
    c.in_err-takes.ensures ∙ sector_by_state a.current _ _ c.in-Some.ensures.cases.long c.in-Some-as_mut_array.ensures.cases.long in
    let left = sector_refused a.current a.bytes.now a.out.now _ number (refused _) in
    record {
      number = numbered _ _ c.from_residual.ensures.1 ∙ number;
      next = kept a.current _ c.from_residual.ensures.0 ∙ left.0;
      out_after = c.in-Some-as_mut_array.ensures.cases.same ∙ left.1;
    }

pub running-requires : goal.running-requires
running-requires c =
    let free = c.in_ok-takes.ensures ∙ sector_by_state c.args.current _ _ refl refl in
    near c.args.current (sector_opens c.args.current _ _ (sym free)).opened.is

pub sector-reached-requires : goal.sector-reached-requires
sector-reached-requires c =
    let free = c.in_ok-takes.ensures ∙ sector_by_state c.args.current _ _ refl refl in
    subst SectorBegins (sym c.running.ensures) (sector_begins c.args.current _ _ (sector_opens c.args.current _ _ (sym free)))

pub overflow_add-current : goal.overflow_add-current
overflow_add-current c =
    let free = c.in_ok-takes.ensures ∙ sector_by_state c.args.current _ _ refl refl in
    omega (arith, (sector_opens c.args.current _ _ (sym free)).opened.more)

pub of-requires : goal.of-requires
of-requires c =
    let a = c.args in
    let free = c.in_ok-takes.ensures ∙ sector_by_state a.current _ _ refl refl in
    let from = ap (λ (z : Running). (sector_of z c.in-Some.bytes.now).running) c.running.ensures in
    sector_small a.current c.in-Some.bytes.now _ (sector_opens a.current _ _ (sym free)).opened.is (c.sector-reached.ensures.running ∙ from)

pub returns : goal.returns
returns c =
    let a = c.args in
    let r = c.running.result in
    let number =
    c.in_ok-takes.ensures ∙ sector_by_state a.current _ _ c.in-Some.ensures.cases.long c.in-Some-as_mut_array.ensures.cases.long in
    let same = c.in-Some.ensures.cases.same in
    let laid =
    sector_done a.current a.bytes.now a.out.now _ number refl _ c.running.ensures _ _ _ (
      c.sector-reached.ensures.running ∙ ap (λ (x : List ℕ). (sector_of r x).running) same,
      (
        c.sector-reached.ensures.peak ∙ ap (λ (x : List ℕ). max a.current.peak (peak_of r (sector_of r x).halves sector_frames)) same,
        c.sector-reached.ensures.laid ∙ ap (λ (x : List ℕ). packed (sector_of r x).halves) same,
      ),
    ) in
    record { number = number; next = c.of.ensures ∙ laid.0; out_after = laid.1 }
