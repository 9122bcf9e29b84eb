-- The end of a stream after a Code Word and after a SYNC Code, from what the code found; and an entry of annex G is a word of 16 bits and a State.
-- Assumes nothing.
use mathlib.Core.Path.{◌≡◌, refl, ap, ◌∙◌}
use mathlib.Core.Bool.{Bool, true, false, cond}
use mathlib.Core.List.{[], ◌∷◌}
use Prim.Native.Nat.{ℕ, ◌-◌, ◌/◌, ◌%◌, ◌<◌}
use lib.Dec.{ltb}
use Rattle.annexg.specs.Read.{entry_of}
use Rattle.annexg.specs.Sync.{sync_end, code_for}
use Rattle.annexg.proofs.Figure.{entry_below}
use Rattle.channel.specs.Channel.{sync, byte, entry_for}
use Rattle.levels.specs.Level.{running_after}
use Rattle.levels.specs.declared.Running.{Running}
use Rattle.laying.specs.Inner.{side_after}
use Rattle.laying.specs.declared.Side.{Side}

same_side :
    {p q : Running} {v w : ℕ} → p ≡ q → v ≡ w
    → ◌≡◌ {A = Side} (record { running = p; tail = v }) (record { running = q; tail = w })
same_side p q = λ i. record { running = p i; tail = q i }

-- the code found the entry e
pub word_side :
    (r : Running) (b e : ℕ) (c : Bool) (q : Running) → e ≡ entry_for r.state b c
    → q ≡ running_after r (e % 16) (e / 16 ∷ []) → record { running = q; tail = e / 16 } ≡ side_after r (byte b) c
word_side r b e c q ee qe =
    same_side (qe ∙ ap (λ (z : ℕ). running_after r (z % 16) (z / 16 ∷ [])) ee) (ap (λ (z : ℕ). z / 16) ee)

-- the code found the first half word h
pub sync_side :
    (r : Running) (n h : ℕ) (c : Bool) (q : Running) → h ≡ code_for r.state n c
    → q ≡ running_after r 1 (h ∷ sync_end ∷ []) → record { running = q; tail = sync_end } ≡ side_after r (sync n) c
sync_side r n h c q he qe = same_side (qe ∙ ap (λ (z : ℕ). running_after r 1 (z ∷ sync_end ∷ [])) he) refl

-- the Code Word of an entry has 16 bits
pub entry_small : (s b : ℕ) (c : Bool) → entry_for s b c < 1048576
entry_small s b false = entry_below 0 b (s - 1)
entry_small s b true = by (ltb b 88)
  where
    by : (x : Bool) → cond x (entry_of 1 b (s - 1)) (entry_of 0 b (4 - s)) < 1048576
    by true = entry_below 1 b (s - 1)
    by false = entry_below 0 b (4 - s)
