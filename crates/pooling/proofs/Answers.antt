-- The answers of the call that pools, case by case, with what is left in the two buffers of the first reading (length_refused, mark_refused, pooled_both). The number
-- follows from the answer (pool_number_lem).
-- Assumes nothing.
use mathlib.Core.Path.{◌≡◌, refl, sym, ap, ◌∙◌}
use mathlib.Core.Bool.{Bool, true, false, cond, ◌&&◌}
use mathlib.Core.List.{List}
use mathlib.Core.Logic.{◌≢◌}
use Prim.Native.Nat.{ℕ}
use borrow.Author.Tests.{eq-eqb, ne_eqb}
use lib.Dec.{eqb, eqb→eq}
use lib.ListN.{length}
use Rattle.std.specs.Prelude.{Result, Ok, Err, ⊤}
use Rattle.refusals.specs.declared.Refusal.{Refusal}
use Rattle.refusals.specs.declared.Refusal.TheVariants.{Length, Mark}
use Rattle.refusals.specs.Refusal.{answer_number}
use Rattle.lists.proofs.Test.{and_left, and_right, truth, truth_of}
use Rattle.layout.specs.Lengths.{block_size}
use Rattle.repairer.specs.Answer.{marks_fit}
use Rattle.pooling.specs.Pool.{MarkedBytes, pooled}
use Rattle.pooling.specs.Answer.{pool_sized, pool_marks_fit, pool_answer, pool_after, pool_refusal}

abbrev pub done : Result ⊤ Refusal
done = Ok tt

pub pool_number_lem : (a b : MarkedBytes) → answer_number (pool_answer a b) ≡ pool_refusal a b
unfolding pool_answer pool_refusal
pool_number_lem a b = go (pool_sized a b) (pool_marks_fit a b)
  where
    go : (s m : Bool) → answer_number (cond s (cond m done (Err Mark)) (Err Length)) ≡ cond s (cond m 0 11) 1
    go true true = refl
    go true false = refl
    go false m = refl

-- what the contract asks of an answer and of the two buffers
pub record Meets (a b : MarkedBytes) (r : Result ⊤ Refusal) (xs ms : List ℕ) : Type 0 where
  pub value : r ≡ pool_answer a b
  pub number : answer_number r ≡ pool_refusal a b
  pub bytes : xs ≡ (pool_after a b).bytes
  pub erasures : ms ≡ (pool_after a b).erasures

-- two tests one after the other, as the code has them: s tells the first, p, and t the second, q

pub first_fails : (s p q : Bool) → s ≡ p → s ≡ false → s ≡ (p && q)
first_fails s p q e f = f ∙ ap (λ (t : Bool). t && q) (sym f ∙ e)

pub second_tells : (s t p q : Bool) → s ≡ p → s ≡ true → t ≡ q → t ≡ (p && q)
second_tells s t p q e f g = g ∙ ap (λ (u : Bool). u && q) (sym f ∙ e)

module _ (a b : MarkedBytes) where
  -- each of the four buffers has the length of a block
  sizes : pool_sized a b ≡ true → (length a.bytes ≡ block_size) × (length a.erasures ≡ block_size) × (length b.bytes ≡ block_size) × (length b.erasures ≡ block_size)
  unfolding pool_sized
  sizes t =
      let x : Bool = eqb (length a.bytes) block_size in
      let m : Bool = eqb (length a.erasures) block_size in
      let y : Bool = eqb (length b.bytes) block_size in
      let n : Bool = eqb (length b.erasures) block_size in
      let h = truth_of ((x && m) && (y && n)) t in
      let first = and_left (x && m) (y && n) h in
      let second = and_right (x && m) (y && n) h in (
        eqb→eq (length a.bytes) block_size (and_left x m first),
        eqb→eq (length a.erasures) block_size (and_right x m first),
        eqb→eq (length b.bytes) block_size (and_left y n second),
        eqb→eq (length b.erasures) block_size (and_right y n second),
      )

  marks_fit_lem : pool_marks_fit a b ≡ true → (marks_fit a.erasures ≡ true) × (marks_fit b.erasures ≡ true)
  unfolding pool_marks_fit
  marks_fit_lem t =
      let h = truth_of (marks_fit a.erasures && marks_fit b.erasures) t in (
        truth (marks_fit a.erasures) (and_left (marks_fit a.erasures) (marks_fit b.erasures) h),
        truth (marks_fit b.erasures) (and_right (marks_fit a.erasures) (marks_fit b.erasures) h),
      )

  -- what is known where s says that the lengths are as stated, and m that the marks fit
  module _ (s : Bool) (es : s ≡ pool_sized a b) (y : s ≡ true) (m : Bool) (em : m ≡ pool_marks_fit a b) (t : m ≡ true) where
    pub places_fit :
        ((length a.bytes ≡ block_size) × (length a.erasures ≡ block_size) × (length b.bytes ≡ block_size) × (length b.erasures ≡ block_size))
        × ((marks_fit a.erasures ≡ true) × (marks_fit b.erasures ≡ true))
    places_fit = (sizes (sym es ∙ y), marks_fit_lem (sym em ∙ t))

  pub meets : (r : Result ⊤ Refusal) (w : MarkedBytes) (xs ms : List ℕ) → r ≡ pool_answer a b → w ≡ pool_after a b → xs ≡ w.bytes → ms ≡ w.erasures → Meets a b r xs ms
  meets r w xs ms e f p q = record {
    value = e;
    number = ap answer_number e ∙ pool_number_lem a b;
    bytes = p ∙ ap (λ (v : MarkedBytes). v.bytes) f;
    erasures = q ∙ ap (λ (v : MarkedBytes). v.erasures) f;
  }

  -- ---- a buffer has another length

  pub length_refused : pool_sized a b ≡ false → Meets a b (Err Length) a.bytes a.erasures
  unfolding pool_answer pool_after
  length_refused z = meets (Err Length) a a.bytes a.erasures (rw z) (rw z) refl refl

  pub bytes_unfit : length a.bytes ≢ block_size → pool_sized a b ≡ false
  unfolding pool_sized
  bytes_unfit n = rw (ne_eqb (length a.bytes) block_size n)

  module _ (fx : length a.bytes ≡ block_size) where
    pub erasures_unfit : length a.erasures ≢ block_size → pool_sized a b ≡ false
    unfolding pool_sized
    erasures_unfit n = rw (eq-eqb (length a.bytes) block_size fx, ne_eqb (length a.erasures) block_size n)

    module _ (fm : length a.erasures ≡ block_size) where
      pub second_unfit : length b.bytes ≢ block_size → pool_sized a b ≡ false
      unfolding pool_sized
      second_unfit n = rw (eq-eqb (length a.bytes) block_size fx, eq-eqb (length a.erasures) block_size fm, ne_eqb (length b.bytes) block_size n)

      module _ (fy : length b.bytes ≡ block_size) where
        pub marks_unfit : length b.erasures ≢ block_size → pool_sized a b ≡ false
        unfolding pool_sized
        marks_unfit n =
            rw (eq-eqb (length a.bytes) block_size fx, eq-eqb (length a.erasures) block_size fm, eq-eqb (length b.bytes) block_size fy, ne_eqb (length b.erasures) block_size n)

        -- ---- the lengths are as stated

        module _ (fn : length b.erasures ≡ block_size) where
          fit : pool_sized a b ≡ true
          unfolding pool_sized
          fit =
              rw (
                eq-eqb (length a.bytes) block_size fx,
                eq-eqb (length a.erasures) block_size fm,
                eq-eqb (length b.bytes) block_size fy,
                eq-eqb (length b.erasures) block_size fn,
              )

          pub mark_refused : (marks_fit a.erasures && marks_fit b.erasures) ≡ false → Meets a b (Err Mark) a.bytes a.erasures
          unfolding pool_answer pool_after pool_marks_fit
          mark_refused z = meets (Err Mark) a a.bytes a.erasures (rw (fit, z)) (rw (fit, z)) refl refl

          pub pooled_both :
              (marks_fit a.erasures && marks_fit b.erasures) ≡ true → (xs ms : List ℕ) → xs ≡ (pooled a b).bytes → ms ≡ (pooled a b).erasures → Meets a b done xs ms
          unfolding pool_answer pool_after pool_marks_fit
          pooled_both z xs ms p q = meets done (pooled a b) xs ms (rw (fit, z)) (rw (fit, z)) p q
