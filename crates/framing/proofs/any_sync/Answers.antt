-- `framing::any_sync` meets its contract.
use Rattle.std.proofs.Common.{rules, tests, refl}
use Rattle.std.proofs.lemmas.Iterator.{YieldsList-from_range}
use Rattle.std.proofs.lemmas.Iterator.Search.{any_from_yields_List}
use Rattle.annexg.specs.Sync.{is_sync}
use Rattle.framing.proofs.any_sync.Goals as goal

pub returns : goal.returns
returns c = any_from_yields_List (λ n. is_sync n c.args.first c.args.second) _ _ _ c.any.ensures.ran (YieldsList-from_range 0 8 8 refl refl) (λ x b q k. search (rules, tests))
