-- `row::correct_row_from` meets its contract: the marks decide, and then the syndromes; where nothing is marked and the light repair repairs, that is it. Assumes
-- nothing.
use mathlib.Core.Path.{◌≡◌, refl, sym, ap, ◌∙◌}
use Prim.Native.Nat.{ℕ, ◌-◌, ◌/◌}
use mathlib.Core.List.{List}
use mathlib.Core.Logic.{inl}
use native.Mathlib.Omega.{arith}
use lib.ListN.{length}
use borrow.Author.Rules.{rules}
use Rattle.layout.specs.Lengths.{row_size}
use Rattle.codes.specs.Erasures.{erasure_count}
use Rattle.reedsolomon.proofs.Repair.{word_bytes, row_shape, word_overfull, word_clean, word_light}
use Rattle.reedsolomon.proofs.row.correct_row_from.Goals as goal

-- the marks, counted over the row's 182 bytes
counted : (m : List ℕ) (f : ℕ) → length m ≡ row_size → f ≡ erasure_count m (length m) → f ≡ erasure_count m row_size
counted m f size e = e ∙ ap (erasure_count m) size

pub returns-then-marked-gt10 : goal.returns-then-marked-gt10
returns-then-marked-gt10 c =
    let all = word_overfull row_shape c.args.row.bytes (search rules) (word_bytes c.args.row.bytes (λ i. search rules)) _ c.requires.0 _ (counted c.args.erasures.now c.count_erasures-marked.result c.requires.0 c.count_erasures-marked.ensures) c.if-marked-gt10.true in
    record { bytes_value = all.0; outcome_value = all.1 }

pub returns-then-all_zero : goal.returns-then-all_zero
returns-then-all_zero c =
    let all = word_clean row_shape c.args.row.bytes (search rules) (word_bytes c.args.row.bytes (λ i. search rules)) _ c.requires.0 _ (counted c.args.erasures.now c.count_erasures-marked.result c.requires.0 c.count_erasures-marked.ensures) (omega arith)
    _ c.requires.1 _ c.all_zero.ensures c.if-all_zero.true in
    record { bytes_value = all.0; outcome_value = all.1 }

pub returns-in-Repaired : goal.returns-in-Repaired
returns-in-Repaired c =
    let all = word_light 5 row_shape c.args.row.bytes (search rules) (word_bytes c.args.row.bytes (λ i. search rules)) _ _ (counted c.args.erasures.now c.count_erasures-marked.result c.requires.0 c.count_erasures-marked.ensures) c.if-marked-eq0.true
    2 (omega arith) _ _ (c.correct_light_row_from-light.ensures.bytes_value, c.correct_light_row_from-light.ensures.outcome_value) c.in-Repaired.is
    _ c.requires.1 (sym c.all_zero.ensures ∙ c.if-all_zero.false) in
    record { bytes_value = all.0; outcome_value = all.1 }

pub correct_located-requires : goal.correct_located-requires
correct_located-requires c =
    let count = counted c.args.erasures.now c.count_erasures-marked.result c.requires.0 c.count_erasures-marked.ensures in (
      omega arith,
      (
        omega arith,
        (
          omega arith,
          (
            omega arith,
            (inl (refl, refl), (c.requires.0, (omega (arith, count), (ap (λ (f : ℕ). (10 - f) / 2) count, (c.requires.1, sym c.all_zero.ensures ∙ c.if-all_zero.false))))),
          ),
        ),
      ),
    )
