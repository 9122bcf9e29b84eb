-- The step over a byte: the test of a swap case by case, and the code's step is the rule's.
-- Assumes nothing.
use mathlib.Core.Path.{◌≡◌, refl, sym, ap, ap₂, subst, ◌∙◌}
use mathlib.Core.Bool.{Bool, true, false, cond, ◌&&◌, ◌||◌}
use mathlib.Core.List.{List}
use mathlib.Core.Logic.{◌⊎◌, inl, inr}
use Prim.Native.Nat.{ℕ, ◌+◌, ◌<◌, ◌≤◌}
use native.Mathlib.Omega.{arith}
use borrow.Author.Tests.{le-leb, lt-leb, ne_eqb}
use lib.Dec.{eqb, ltb, leb}
use lib.ListN.{take}
use lib.Seq.{take-take}
use Rattle.annexg.specs.Read.{word_of}
use Rattle.annexg.specs.ZeroRuns.{inside}
use Rattle.channel.specs.Channel.{byte, swaps, join_zeros}
use Rattle.laying.specs.declared.Side.{Side}
use Rattle.levels.specs.Level.{magnitude}
use Rattle.levels.specs.declared.Running.{Running}
use Rattle.streams.specs.Streams.{Stream, Two, lay, one_lower, lower, stream_of, swap_possible, swap_made, copied, kept, step}
use Rattle.streams.proofs.Laid.{swap_lower}
use Rattle.frames.specs.Inner.{Shows, plan_of, plan_for, even_two, Evened}
use Rattle.frames.specs.declared.Pair.{Pair}
use Rattle.frames.specs.declared.Plan.{Plan}
use Rattle.frames.proofs.Words.{Worded}

-- ---- the test of a swap

module _ (s l b : ℕ) where
  cases :
      (x y z w : Bool) → leb 88 b ≡ x → swaps s ≡ y → inside 2 10 (join_zeros l (word_of 0 b 0)) ≡ z
      → inside 2 10 (join_zeros l (word_of 0 b 3)) ≡ w → swap_possible s l b ≡ x && (y && (z && w))
  unfolding swap_possible
  cases x y z w p q r t = ap₂ ◌&&◌ p (ap₂ ◌&&◌ q (ap₂ ◌&&◌ r t))

  pub swap_small : b < 88 → false ≡ swap_possible s l b
  swap_small h = sym (cases false (swaps s) _ _ (lt-leb 88 b h) refl refl refl)

  pub swap_state : 88 ≤ b → swaps s ≡ false → false ≡ swap_possible s l b
  swap_state h e = sym (cases true false _ _ (le-leb 88 b h) e refl refl)

  module _ (h : 88 ≤ b) (e : swaps s ≡ true) (v : ℕ) (f : v ≡ word_of 0 b 0) where
    joined_first : (z : Bool) → inside 2 10 (join_zeros l v) ≡ z → inside 2 10 (join_zeros l (word_of 0 b 0)) ≡ z
    joined_first z g = ap (λ (x : ℕ). inside 2 10 (join_zeros l x)) (sym f) ∙ g

    pub swap_first : inside 2 10 (join_zeros l v) ≡ false → false ≡ swap_possible s l b
    swap_first g = sym (cases true true false _ (le-leb 88 b h) e (joined_first false g) refl)

    pub swap_second :
        inside 2 10 (join_zeros l v) ≡ true → (w : ℕ) → w ≡ word_of 0 b 3
        → inside 2 10 (join_zeros l w) ≡ swap_possible s l b
    swap_second g w k =
        let second = ap (λ (x : ℕ). inside 2 10 (join_zeros l x)) (sym k) in
        sym (cases true true true (inside 2 10 (join_zeros l w)) (le-leb 88 b h) e (joined_first true g) second)

-- the States in which a swap can be made
pub swaps_in : {s : ℕ} → ((s ≡ 1 → ⊥) × s ≡ 4) ⊎ (s ≡ 1) → swaps s ≡ true
swaps_in (inl e) = rw e.1 refl
swaps_in (inr e) = rw e refl

pub swaps_out : {s : ℕ} → (s ≡ 1 → ⊥) × (s ≡ 4 → ⊥) → swaps s ≡ false
swaps_out {s} h = ap₂ ◌||◌ (ne_eqb s 1 h.0) (ne_eqb s 4 h.1)

-- ---- the step as the code makes it

-- what byte b does by the rule
ruled : Two → ℕ → Plan
ruled t b = plan_of (one_lower t) (lower t).running.state b (swap_made t b)

-- byte b laid in two streams that are even, by a plan
abbrev both : Two → ℕ → Plan → Two
both t b g = record { one = lay t.one (byte b) g.one; two = lay t.two (byte b) g.two }

-- the same as the code makes it: both streams even, then a word in each
planned : Two → ℕ → Plan → Two
planned t b g = both (even_two g.copy g.first t) b g

step_planned : (t : Two) (b : ℕ) → step t b ≡ planned t b (ruled t b)
unfolding step planned ruled lower
step_planned t b = by (ltb b 88) (swap_made t b)
  where
    m : Stream
    m = stream_of (one_lower t) t

    s : ℕ
    s = m.running.state

    by :
        (x y : Bool)
        → ◌≡◌ {A = Two} (cond x (copied m b false true) (cond y (copied m b (eqb s 4) (eqb s 1)) (kept t b)))
        (record {
          one = lay (even_two (x || y) (one_lower t) t).one (byte b) (cond x false (y && eqb s 4));
          two = lay (even_two (x || y) (one_lower t) t).two (byte b) (x || (y && eqb s 1));
        })
    by true true = refl
    by true false = refl
    by false true = refl
    by false false = refl

-- the plan that the code makes by the ends of two streams is the rule's
module _ {p : Pair} {x y : List ℕ} {n : ℕ} {t : Two} (s : Shows p x y n t) where
  first_lower : leb (magnitude p.one.running.dsv) (magnitude p.two.running.dsv) ≡ one_lower t
  first_lower =
      ap₂ (λ (u v : Running). leb (magnitude u.dsv) (magnitude v.dsv)) s.one.running s.two.running

  low-running : (f : Bool) → (cond f p.one p.two).running ≡ (stream_of f t).running
  low-running true = s.one.running
  low-running false = s.two.running

  low-last : (f : Bool) → (cond f p.one p.two).tail ≡ (stream_of f t).last
  low-last true = s.one.last
  low-last false = s.two.last

  plan_ruled : (b : ℕ) → plan_for p b ≡ ruled t b
  unfolding plan_for ruled lower
  plan_ruled b =
      let side : Bool → Side = λ f. cond f p.one p.two in
      let plan : Bool → Running → ℕ → Plan = λ f r l. plan_of f r.state b (swap_possible r.state l b) in
      ap (λ (f : Bool). plan f (side f).running (side f).tail) first_lower
      ∙ ap₂ (plan (one_lower t)) (low-running (one_lower t)) (low-last (one_lower t))
      ∙ ap (plan_of (one_lower t) (stream_of (one_lower t) t).running.state b) (sym (swap_lower t b))

-- what the code has when it returns: by the plan g both streams were made even (p₁, x₁, y₁), then each got its word (q₁, x₂ and q₂, y₂)
pub record Found (p : Pair) (x y : List ℕ) (at b : ℕ) (g : Plan) (p₁ : Pair) (x₁ y₁ : List ℕ)
    (q₁ q₂ : Side) (x₂ y₂ : List ℕ) : Type 0 where
  pub plan : g ≡ plan_for p b
  pub evened : Evened g.copy g.first p x y at p₁ x₁ y₁
  pub one : Worded p₁.one b g.one at x₁ x₂ q₁
  pub two : Worded p₁.two b g.two at y₁ y₂ q₂

module _ {p : Pair} {x y : List ℕ} {at b : ℕ} {g : Plan} {p₁ : Pair} {x₁ y₁ : List ℕ} {q₁ q₂ : Side} {x₂ y₂ : List ℕ}
    (f : Found p x y at b g p₁ x₁ y₁ q₁ q₂ x₂ y₂) (t : Two) (s : Shows p x y at t) where
  step_ruled : planned t b g ≡ step t b
  step_ruled = ap (planned t b) (f.plan ∙ plan_ruled s b) ∙ sym (step_planned t b)

  -- a word leaves what stands before it
  shared_before : (u v : List ℕ) → take at v ≡ take at u → take p₁.shared v ≡ take p₁.shared u
  shared_before u v e =
      let early = f.evened.ready.early in
      sym (take-take p₁.shared at v early) ∙ ap (take p₁.shared) e ∙ take-take p₁.shared at u early

  pub step_shown : Shows (record { one = q₁; two = q₂; shared = p₁.shared }) x₂ y₂ (at + 2) (step t b)
  step_shown =
      let even = f.evened.shows t s in
      subst (λ (z : Two). Shows (record { one = q₁; two = q₂; shared = p₁.shared }) x₂ y₂ (at + 2) z) step_ruled
      (unfold planned in
      record {
        one = f.one.grown _ even.one;
        two = f.two.grown _ even.two;
        agree = shared_before x₁ x₂ f.one.before ∙ even.agree ∙ sym (shared_before y₁ y₂ f.two.before);
        early = omega (arith, even.early);
      })
