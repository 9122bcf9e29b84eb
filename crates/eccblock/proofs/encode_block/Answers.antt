-- `eccblock::encode_block` meets its contract, case by case. Assumes nothing.
use mathlib.Core.Path.{refl, sym, ap, ◌∙◌}
use mathlib.Core.List.{List}
use Prim.Native.Nat.{ℕ}
use native.Mathlib.Omega.{arith}
use Rattle.eccblock.specs.Block.{block}
use Rattle.eccblock.proofs.Refusals.{main_length, buffer_length, not_sixteen, number_over, by_judgement, prohibited, not-following, following, refused, taken}
use Rattle.eccblock.proofs.encode_block.Goals as goal
use Rattle.eccblock.proofs.encode_block.Goals.{then-first-ne0-via-then-first-ne0, then-first-ne0-via-else-first-ne0+then-first-gt-LAST_FIRST}

pub returns-in_default : goal.returns-in_default
returns-in_default c =
    let w = refused _ _ _ _ _ (main_length _ _ _ _ _ c.in_default.ensures.cases) (λ z. omega (arith, z)) refl in
    record { result_value = w.number; out_after = w.buffer }

pub returns-in_default-as_mut_array : goal.returns-in_default-as_mut_array
returns-in_default-as_mut_array c =
    let w = refused _ _ _ _ _ (buffer_length _ _ _ _ _ c.in-Some.ensures.cases.long c.in_default-as_mut_array.ensures.cases) (λ z. omega (arith, z)) refl in
    record { result_value = w.number; out_after = w.buffer }

pub returns-then-first-ne0 : goal.returns-then-first-ne0
returns-then-first-ne0 c =
    let whole = c.in-Some.ensures.cases.long in
    let size = c.in-Some-as_mut_array.ensures.cases.long in
    let same = c.in-Some-as_mut_array.ensures.cases.same in
    elim c.then-first-ne0.branch [
      | then-first-ne0-via-then-first-ne0 t ↦
          let w = refused _ _ _ _ _ (not_sixteen _ _ _ _ _ whole size t.if-first-ne0.true) (λ z. omega (arith, z)) (t.out-is ∙ same) in
          record { result_value = w.number; out_after = w.buffer }
      | then-first-ne0-via-else-first-ne0+then-first-gt-LAST_FIRST t ↦
          let w = refused _ _ _ _ _ (number_over _ _ _ _ _ whole size t.if-first-ne0.false t.if-first-gt-LAST_FIRST.true) (λ z. omega (arith, z)) (t.out-is ∙ same) in
          record { result_value = w.number; out_after = w.buffer }
    ]

pub returns-then-info-ne0 : goal.returns-then-info-ne0
returns-then-info-ne0 c =
    let array = c.in-Some-as_mut_array.ensures.cases in
    let judged = by_judgement c.args.previous _ _ c.args.first c.args.info c.in-Some.ensures.cases.long array.long c.if-first-ne0.false c.if-first-gt-LAST_FIRST.false in
    let w = refused _ _ _ _ _ (prohibited c.args.previous c.args.first c.args.info c.if-info-ne0.true ∙ judged) (λ z. omega (arith, z)) array.same in
    record { result_value = w.number; out_after = w.buffer }

pub returns-then-not-follows_on : goal.returns-then-not-follows_on
returns-then-not-follows_on c =
    let array = c.in-Some-as_mut_array.ensures.cases in
    let judged = by_judgement c.args.previous _ _ c.args.first c.args.info c.in-Some.ensures.cases.long array.long c.if-first-ne0.false c.if-first-gt-LAST_FIRST.false in
    let w = refused _ _ _ _ _ (not-following c.args.previous c.args.first c.args.info c.if-info-ne0.false (sym c.follows_on.ensures ∙ c.if-not-follows_on.true) ∙ judged) (λ z. omega (arith, z)) array.same in
    record { result_value = w.number; out_after = w.buffer }

pub returns : goal.returns
returns c =
    let judged = by_judgement c.args.previous _ _ c.args.first c.args.info c.in-Some.ensures.cases.long c.in-Some-as_mut_array.ensures.cases.long c.if-first-ne0.false c.if-first-gt-LAST_FIRST.false in
    let made = c.fill_block.ensures ∙ ap (λ (m : List ℕ). block m c.args.first c.args.info) c.in-Some.ensures.cases.same in
    let w = taken _ _ _ _ _ (following c.args.previous c.args.first c.args.info c.if-info-ne0.false (sym c.follows_on.ensures ∙ c.if-not-follows_on.false) ∙ judged) made in
    record { result_value = w.number; out_after = w.buffer }
