-- `writer::write_sectors` meets its contract: it is refused, or the sixteen sectors are laid.
-- Assumes nothing.
use mathlib.Core.Path.{refl, sym, ◌∙◌}
use native.Mathlib.Omega.{arith}
use Rattle.lists.proofs.Bytes.{bytes_of}
use Rattle.writer.proofs.Answered.{refused, kept}
use Rattle.writer.proofs.Runs.{sectors_stay, sectors_done}
use Rattle.writer.proofs.Sound.{sectors_open}
use Rattle.writer.proofs.write_sectors.Goals as goal

pub returns-in_err-sectors_refusal-clause-next : goal.returns-in_err-sectors_refusal-clause-next
returns-in_err-sectors_refusal-clause-next c =
    kept c.args.current c.from_residual.result c.from_residual.ensures.0
    ∙ (sectors_stay c.args.current c.args.block.now c.args.out.now _ (c.in_err-sectors_refusal.ensures) (refused _)).0

pub returns-in_err-sectors_refusal-clause-out_after : goal.returns-in_err-sectors_refusal-clause-out_after
returns-in_err-sectors_refusal-clause-out_after c =
    (sectors_stay c.args.current c.args.block.now c.args.out.now _ (c.in_err-sectors_refusal.ensures) (refused _)).1

pub write_each-requires : goal.write_each-requires
write_each-requires c =
    let opens = sectors_open c.args.current _ _ (sym (c.in_ok-sectors_refusal.ensures)) in
    record { block_len = opens.from_is; out_len = opens.to_is }

pub returns-clause-next : goal.returns-clause-next
returns-clause-next c =
    let bytes = bytes_of c.args.block.now (λ i h. omega (arith, c.type_inv.block i)) in
    c.write_each.ensures.value ∙ (sectors_done c.args.current c.args.block.now c.args.out.now _ (c.in_ok-sectors_refusal.ensures) refl bytes).0

pub returns-clause-out_after : goal.returns-clause-out_after
returns-clause-out_after c =
    let bytes = bytes_of c.args.block.now (λ i h. omega (arith, c.type_inv.block i)) in
    c.write_each.ensures.out_after ∙ (sectors_done c.args.current c.args.block.now c.args.out.now _ (c.in_ok-sectors_refusal.ensures) refl bytes).1
