-- A buffer whose front is filled piece by piece and whose rest is kept: `all` is to be laid over the front of `old`, and n of its entries are laid in `new` (Laid). At
-- the start (laid_none), with one piece more (laid_more), at the end (laid_all).
-- Assumes nothing.
use mathlib.Core.Path.{◌≡◌, refl, sym, ap, ap₂, ◌∙◌}
use mathlib.Core.List.{List, [], ◌++◌, append_assoc}
use Prim.Native.Nat.{ℕ, ◌+◌, ◌≤◌}
use native.Mathlib.Omega.{arith}
use lib.ListN.{length, take, drop, length-append, length-drop}
use lib.Seq.{length-take-le, take_all, take_at, drop_at, drop-drop, take-add, drop-append-add}

-- `rest` is what is left to lay, and there is room for it
pub record Laid (all old new rest : List ℕ) (n : ℕ) : Type 0 where
  pub is : new ≡ take n all ++ drop n old
  pub left : drop n all ≡ rest
  pub within : n ≤ length all
  pub room : length all ≤ length old

pub laid_none : (all old : List ℕ) → length all ≤ length old → Laid all old old all 0
laid_none all old h = record { is = refl; left = refl; within = omega arith; room = h }

module _ {all old new rest : List ℕ} {n : ℕ} (l : Laid all old new rest n) where
  front : length (take n all) ≡ n
  front = length-take-le n all l.within

  pub laid_length : length new ≡ length old
  laid_length = ap length l.is ∙ length-append (take n all) (drop n old) ∙ omega (arith, front, length-drop n old, l.within, l.room)

  -- how much is left
  pub laid_left : n + length rest ≡ length all
  laid_left = omega (arith, ap length (sym l.left), length-drop n all, l.within)

  pub laid_all : rest ≡ [] → new ≡ all ++ drop (length all) old
  laid_all e =
      let whole : n ≡ length all = omega (arith, laid_left, ap length e) in
      l.is ∙ ap₂ ◌++◌ (take_all n all (omega (arith, whole))) (ap (λ (k : ℕ). drop k old) whole)

-- a piece v, put over what stood in its place
pub laid_more :
    {all old new rest : List ℕ} {n : ℕ} (v : List ℕ) → Laid all old new (v ++ rest) n
    → Laid all old (take n new ++ (v ++ drop (n + length v) new)) rest (n + length v)
laid_more {all} {old} {new} {rest} {n} v l = record {
  is = ap₂ ◌++◌ head_is (ap (λ (x : List ℕ). v ++ x) tail_is) ∙ sym (append_assoc (take n all) v (drop (n + length v) old)) ∙ ap (λ (x : List ℕ). x ++ drop (n + length v) old) (sym laid_is);
  left = sym (drop-drop (length v) n all) ∙ ap (drop (length v)) l.left ∙ drop_at v rest (length v) refl;
  within = omega (arith, laid_left l, length-append v rest);
  room = l.room;
}
  where
    head_is : take n new ≡ take n all
    head_is = ap (take n) l.is ∙ take_at (take n all) (drop n old) n (front l)

    tail_is : drop (n + length v) new ≡ drop (n + length v) old
    tail_is =
        ap (drop (n + length v)) l.is ∙ ap (λ (k : ℕ). drop (k + length v) (take n all ++ drop n old)) (sym (front l))
        ∙ drop-append-add (take n all) (drop n old) (length v) ∙ drop-drop (length v) n old

    laid_is : take (n + length v) all ≡ take n all ++ v
    laid_is = take-add n (length v) all ∙ ap (λ (x : List ℕ). take n all ++ x) (ap (take (length v)) l.left ∙ take_at v rest (length v) refl)
