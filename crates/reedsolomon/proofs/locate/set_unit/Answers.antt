-- `locate::set_unit` meets its contract. Assumes nothing.
use mathlib.Core.Path.{◌≡◌, refl, sym, ap, ◌∙◌}
use mathlib.Core.Logic.{dite}
use mathlib.Core.List.{List}
use Prim.Native.Nat.{ℕ}
use native.Mathlib.Decide.{ℕ_discrete}
use native.Mathlib.Omega.{arith}
use lib.Dec.{eqb}
use lib.ListN.{length, get_or, set, length-set, replicate}
use lib.Seq.{get_or-set_same, get_or-set_other}
use borrow.Author.Tests.{eq-eqb, ne_eqb}
use Rattle.std.proofs.lemmas.List.{get_or-replicate}
use Rattle.lists.specs.Count.{bit}
use Rattle.lists.proofs.Fill.{is-tabulate}
use Rattle.reedsolomon.proofs.locate.set_unit.Goals as goal

pub returns : goal.returns
returns c =
    let n : ℕ = length c.args.candidate.now in
    let k : ℕ = c.args.k in
    let zeros : c.fill.new.self ≡ replicate n 0 = c.fill.ensures.after (λ y e. e) in
    let size : length c.fill.new.self ≡ n = c.fill.ensures.len in
    is-tabulate (λ j. bit (eqb j k)) (set c.fill.new.self k 1) n (length-set c.fill.new.self k 1 ∙ size)
    (λ j l. dite (ℕ_discrete j k)
    (λ q. rw q (get_or-set_same c.fill.new.self k 1 0 (omega arith) ∙ sym (ap bit (eq-eqb k k refl))))
    (λ q. get_or-set_other c.fill.new.self k j 1 0 q ∙ ap (λ (xs : List ℕ). get_or xs j 0) zeros ∙ get_or-replicate n j 0 0 l ∙ sym (ap bit (ne_eqb j k q))))
