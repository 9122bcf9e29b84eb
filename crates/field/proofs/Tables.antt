-- Products and inverses by logarithms.
-- Assumes nothing.
use mathlib.Core.Path.{◌≡◌, sym, ap, ap₂, ◌∙◌}
use mathlib.Core.Bool.{Bool, ◌&&◌}
use mathlib.Core.List.{List}
use mathlib.Core.Logic.{dite}
use Prim.Native.Nat.{ℕ, zero, suc, ◌+◌, ◌-◌, ◌<◌}
use native.Mathlib.Decide.{dec_lt}
use native.Mathlib.Omega.{arith}
use lib.Dec.{T, eqb, ltb, eqb→eq, ltb→lt}
use lib.ListN.{length, get_or}
use lib.Seq.{ext_get_or}
use Rattle.lists.specs.Test.{below}
use Rattle.lists.proofs.Test.{and_left, and_right, below_at}
use Rattle.field.specs.Field.{add, double, mul_bits, mul, pow, inverse}
use Rattle.field.specs.Inner.{LogTable}
use Rattle.field.proofs.Powers.{pow-zero, pow-suc, pow-add, alpha, alpha_lt, alpha_order, powers_differ}
use Rattle.field.proofs.Inverse.{inverse-is}

module _ (t : List ℕ) (h : LogTable t) where
  -- i is the logarithm of a, which is not 0
  pub log-lt : (a i : ℕ) → (a ≡ 0 → ⊥) → a < 256 → i ≡ get_or t a 0 → i < 255
  log-lt a i na ha e = omega (arith, h.log_small a (omega (arith, na)) ha)

  pub product_log :
      (a b i j : ℕ) → (a ≡ 0 → ⊥) → a < 256 → (b ≡ 0 → ⊥) → b < 256 → i ≡ get_or t a 0 → j ≡ get_or t b 0 → get_or t (256 + (i + j)) 0 ≡ mul a b
  product_log a b i j na ha nb hb e f =
      h.exp (i + j) (omega (arith, log-lt a i na ha e, log-lt b j nb hb f)) ∙ pow-add 2 alpha i j
      ∙ ap₂ mul (ap (pow 2) e ∙ h.log a (omega (arith, na)) ha) (ap (pow 2) f ∙ h.log b (omega (arith, nb)) hb)

  pub inverse-log : (a i : ℕ) → (a ≡ 0 → ⊥) → a < 256 → i ≡ get_or t a 0 → get_or t (256 + (255 - i)) 0 ≡ inverse a
  inverse-log a i na ha e =
      let l : i < 255 = log-lt a i na ha e in
      h.exp (255 - i) (omega arith)
      ∙ sym (inverse-is a (pow 2 (255 - i)) ha (alpha_lt (255 - i))
      (ap (λ (x : ℕ). mul x (pow 2 (255 - i))) (sym (ap (pow 2) e ∙ h.log a (omega (arith, na)) ha)) ∙ sym (pow-add 2 alpha i (255 - i))
      ∙ ap (pow 2) (omega arith) ∙ alpha_order))

-- ---- the rule fixes each of the 768 entries

pub same_logarithm : (i j : ℕ) → i < 255 → j < 255 → pow 2 i ≡ pow 2 j → i ≡ j
same_logarithm i j hi hj e =
    dite (dec_lt i j) (λ l. absurd (powers_differ i j l hj e))
    (λ m. dite (dec_lt j i) (λ l. absurd (powers_differ j i l hi (sym e))) (λ n. omega (arith, m, n)))

module _ (t u : List ℕ) (h : LogTable t) (k : LogTable u) where
  same_entry : (i : ℕ) → i < 768 → get_or t i 0 ≡ get_or u i 0
  same_entry zero l = h.log-zero ∙ sym k.log-zero
  same_entry (suc a) l = dite (dec_lt (suc a) 256) same_log same-exp
    where
      same_log : suc a < 256 → get_or t (suc a) 0 ≡ get_or u (suc a) 0
      same_log b =
          same_logarithm (get_or t (suc a) 0) (get_or u (suc a) 0) (h.log_small (suc a) (omega arith) b) (k.log_small (suc a) (omega arith) b)
          (h.log (suc a) (omega arith) b ∙ sym (k.log (suc a) (omega arith) b))

      same-exp : (suc a < 256 → ⊥) → get_or t (suc a) 0 ≡ get_or u (suc a) 0
      same-exp b =
          let i : ℕ = suc a - 256 in
          let e : suc a ≡ 256 + i = omega (arith, b) in
          let m : i < 512 = omega arith in
          rw e (h.exp i m ∙ sym (k.exp i m))

  pub log_table_unique : length t ≡ 768 → length u ≡ 768 → t ≡ u
  log_table_unique e f = ext_get_or 0 t u (e ∙ sym f) (λ i l. same_entry i (omega arith))

-- ---- the table's rule, from two tests over its entries

-- entry a + 1 is the index, from entry 256 on, of the element a + 1
unfoldable pub log_right : List ℕ → ℕ → Bool
log_right t a = ltb (get_or t (suc a) 0) 255 && eqb (get_or t (256 + get_or t (suc a) 0) 0) (suc a)

-- each power is x times the one before it
unfoldable pub exp_right : List ℕ → ℕ → Bool
exp_right t i = eqb (get_or t (256 + suc i) 0) (double (get_or t (256 + i) 0))

pub record Right (t : List ℕ) : Type 0 where
  pub none : get_or t 0 0 ≡ 0
  pub first : get_or t 256 0 ≡ 1
  pub logs : T (below 255 (log_right t))
  pub exps : T (below 511 (exp_right t))

doubles : T (below 256 (λ x. eqb (mul 2 x) (double x)))
unfolding add double mul_bits mul
doubles = tt

double-mul : (x : ℕ) → x < 256 → mul 2 x ≡ double x
double-mul x h = eqb→eq (mul 2 x) (double x) (below_at 256 (λ x. eqb (mul 2 x) (double x)) doubles x h)

module _ (t : List ℕ) (r : Right t) where
  exps_at : (i : ℕ) → i < 512 → get_or t (256 + i) 0 ≡ pow 2 i
  unfolding exp_right
  exps_at zero h = r.first ∙ sym (pow-zero 2)
  exps_at (suc i) h =
      eqb→eq (get_or t (256 + suc i) 0) (double (get_or t (256 + i) 0)) (below_at 511 (exp_right t) r.exps i (omega arith))
      ∙ ap double (exps_at i (omega arith)) ∙ sym (double-mul (pow 2 i) (alpha_lt i)) ∙ sym (pow-suc 2 alpha i)

  logs_at : (a : ℕ) → 0 < a → a < 256 → (get_or t a 0 < 255) × (pow 2 (get_or t a 0) ≡ a)
  unfolding log_right
  logs_at zero p h = absurd (omega arith)
  logs_at (suc a) p h =
      let x : ℕ = get_or t (suc a) 0 in
      let q : T (ltb x 255 && eqb (get_or t (256 + x) 0) (suc a)) = below_at 255 (log_right t) r.logs a (omega arith) in
      let l : x < 255 = ltb→lt x 255 (and_left (ltb x 255) (eqb (get_or t (256 + x) 0) (suc a)) q) in
      (l, sym (exps_at x (omega arith)) ∙ eqb→eq (get_or t (256 + x) 0) (suc a) (and_right (ltb x 255) (eqb (get_or t (256 + x) 0) (suc a)) q))

  pub right_table : LogTable t
  right_table = record { log-zero = r.none; log_small = λ a p h. (logs_at a p h).0; log = λ a p h. (logs_at a p h).1; exp = exps_at }
