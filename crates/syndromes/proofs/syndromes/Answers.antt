-- `syndromes::syndromes` meets its contract. Assumes nothing.
use Rattle.syndromes.proofs.Left.{syndromes_none}
use Rattle.syndromes.proofs.syndromes.Goals as goal

pub returns-then-is_zero : goal.returns-then-is_zero
returns-then-is_zero g c = syndromes_none g.row.P c.args.left c.requires c.is_zero.result c.is_zero.ensures c.if-is_zero.true
