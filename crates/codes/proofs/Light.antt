-- The light repair, over length, number of roots and number of wrong bytes: it says 'Repaired' exactly where a code word is within t bytes (near_repaired,
-- repaired_near), and 'Heavier' exactly where none is (none-heavier, heavier-none). Where it repairs, the word is what the general repair gives: that within more
-- bytes (light_general), and that with marks of which none is set (light_unmarked, light_corrected).
-- Assumes nothing.
use mathlib.Core.Path.{◌≡◌, refl, sym, ap, ◌∙◌}
use mathlib.Core.Bool.{Bool, false, false≢true, cond}
use mathlib.Core.List.{List}
use Prim.Native.Nat.{ℕ, ◌+◌, ◌<◌, ◌≤◌}
use native.Mathlib.Omega.{arith}
use lib.ListN.{length}
use Rattle.lists.specs.Bytes.{Bytes}
use Rattle.lists.proofs.Test.{truth}
use Rattle.codes.specs.Word.{is_code}
use Rattle.codes.specs.Nearest.{is_near, nearest}
use Rattle.codes.specs.Erasures.{is_erased, nearest_erased, outcome_erased}
use Rattle.codes.specs.Light.{light_outcome}
use Rattle.codes.specs.declared.LightOutcome.{LightOutcome}
use Rattle.codes.specs.declared.LightOutcome.TheVariants.{Repaired, Heavier}
use Rattle.codes.specs.declared.Outcome.TheVariants.{Corrected}
use Rattle.codes.proofs.Words.{test_of_code}
use Rattle.codes.proofs.Erasures.{nearest-unmarked, outcome_unmarked}
use Rattle.codes.proofs.Nearest.{Chosen, chosen, kept, first_chosen, Near, test_near, near_test, nearest_near, outcome_corrected}

-- b is what the light repair gives for w, and o what it says of it
abbrev pub LightRepaired : ℕ → ℕ → List ℕ → List ℕ → LightOutcome → Type 0
LightRepaired p t w b o = (b ≡ nearest p t w) × (o ≡ light_outcome p t w)

repaired≢heavier : Repaired ≡ Heavier → ⊥
repaired≢heavier e = let z : ◌≡◌ {A = ℕ} 0 1 = cc in omega arith

module _ (p t : ℕ) (w : List ℕ) (hw : Bytes w) where
  said : Bool → LightOutcome
  said near = cond near Repaired Heavier

  -- a code word is near
  pub near_repaired : (c : List ℕ) → Near p t w c → light_outcome p t w ≡ Repaired
  unfolding nearest light_outcome said
  near_repaired c n = go (first_chosen (is_near p t w) w)
    where
      go : {d : List ℕ} → Chosen (is_near p t w) w d → said (is_near p t w d) ≡ Repaired
      go (chosen {c = d} k l h) = ap said (truth (is_near p t w d) h)
      go (kept f) = absurd (false≢true (sym (f c n.bytes (sym n.len)) ∙ near_test p t w hw c n))

  pub repaired_near : light_outcome p t w ≡ Repaired → Near p t w (nearest p t w)
  unfolding nearest light_outcome said
  repaired_near e = go (first_chosen (is_near p t w) w) e
    where
      go : {d : List ℕ} → Chosen (is_near p t w) w d → said (is_near p t w d) ≡ Repaired → Near p t w d
      go (chosen {c = d} k l h) e = test_near p t w hw d k l h
      go (kept f) e = absurd (repaired≢heavier (sym e ∙ ap said (f w hw refl)))

  -- none is
  pub none-heavier : ((c : List ℕ) → Near p t w c → ⊥) → LightRepaired p t w w Heavier
  unfolding nearest light_outcome said
  none-heavier lone = go (first_chosen (is_near p t w) w)
    where
      go : {d : List ℕ} → Chosen (is_near p t w) w d → (w ≡ d) × (Heavier ≡ said (is_near p t w d))
      go (chosen {c = d} k l h) = absurd (lone d (test_near p t w hw d k l h))
      go (kept f) = (refl, sym (ap said (f w hw refl)))

  pub heavier-none : light_outcome p t w ≡ Heavier → (c : List ℕ) → Near p t w c → ⊥
  heavier-none e c n = repaired≢heavier (sym (near_repaired c n) ∙ e)

  -- within t bytes is within s
  pub light_general : (s : ℕ) → t ≤ s → s + s ≤ p → length w ≤ 255 → light_outcome p t w ≡ Repaired → nearest p s w ≡ nearest p t w
  light_general s more room short e =
      let n = repaired_near e in
      nearest_near p s w hw short room (nearest p t w) (record { bytes = n.bytes; len = n.len; code = n.code; close = omega (arith, n.close, more) })

-- s wrong bytes are put right by the general repair, and nothing is marked
module _ (t s : ℕ) (more : t ≤ s) (m w : List ℕ) (hw : Bytes w) (short : length w ≤ 255) (unmarked : (i : ℕ) → i < length w → is_erased m i ≡ false)
    (e : light_outcome (s + s) t w ≡ Repaired) where
  same-nearest : nearest (s + s) s w ≡ nearest (s + s) t w
  same-nearest = light_general (s + s) t w hw s more (omega arith) short e

  pub light_unmarked : nearest_erased (s + s) m w ≡ nearest (s + s) t w
  light_unmarked = nearest-unmarked s m w unmarked ∙ same-nearest

  -- a word that was no code word has become one
  pub light_corrected : is_code (s + s) w ≡ false → outcome_erased (s + s) m w ≡ Corrected
  light_corrected nc =
      outcome_unmarked s m w unmarked hw
      ∙ outcome_corrected (s + s) s w hw nc
      (ap (is_code (s + s)) same-nearest ∙ truth (is_code (s + s) (nearest (s + s) t w)) (test_of_code (s + s) (nearest (s + s) t w) (repaired_near (s + s) t w hw e).code))
