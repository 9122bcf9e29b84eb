-- `annexg::SyncCodes::is_sync` meets its contract: the first half word is one of the four codes, and the second is told apart from it. Assumes nothing.
use mathlib.Core.Path.{◌≡◌, sym, ap, ap₂, ◌∙◌}
use mathlib.Core.Bool.{Bool, false, or-false, ◌&&◌, ◌||◌}
use mathlib.Core.Logic.{dite}
use Prim.Native.Nat.{ℕ}
use native.Mathlib.Decide.{ℕ_discrete}
use borrow.Author.Tests.{ne_eqb}
use lib.Dec.{eqb}
use Rattle.annexg.specs.Sync.{is_sync}
use Rattle.annexg.proofs.SyncCodes.is_sync.Goals as goal

turned : (a b : ℕ) → eqb a b ≡ eqb b a
turned a b = dite (ℕ_discrete a b) (λ e. rw e) (λ d. rw (ne_eqb a b d, ne_eqb b a (λ e. d (sym e))))

-- a half word x is a code that was handed out exactly where it is the code due
hit : {a p : ℕ} (x : ℕ) → a ≡ p → eqb a x ≡ eqb x p
hit {a} {p} x e = turned a x ∙ ap (eqb x) e

one_of :
    {a b c d p q r s : ℕ} (x : ℕ) → a ≡ p → b ≡ q → c ≡ r → d ≡ s
    → (eqb a x || (eqb b x || (eqb c x || (eqb d x || false)))) ≡ (eqb x p || (eqb x q || (eqb x r || eqb x s)))
one_of x e f g h = ap₂ ◌||◌ (hit x e) (ap₂ ◌||◌ (hit x f) (ap₂ ◌||◌ (hit x g) (or-false _ ∙ hit x h)))

pub returns-then-contains : goal.returns-then-contains
unfolding is_sync
returns-then-contains c =
    let found = one_of c.args.first c.code.ensures c.code-2.ensures c.code-3.ensures c.code-4.ensures in
    sym (ap (λ (b : Bool). b && eqb c.args.second 0x0011) (sym found ∙ sym c.contains.ensures.value ∙ c.if-contains.true))

pub returns-else-contains : goal.returns-else-contains
unfolding is_sync
returns-else-contains c =
    let found = one_of c.args.first c.code.ensures c.code-2.ensures c.code-3.ensures c.code-4.ensures in
    c.if-contains.false ∙ sym (ap (λ (b : Bool). b && eqb c.args.second 0x0011) (sym found ∙ sym c.contains.ensures.value ∙ c.if-contains.false))
