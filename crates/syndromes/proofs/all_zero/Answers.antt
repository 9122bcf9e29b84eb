-- `syndromes::all_zero` meets its contract: the test of all entries is that of the entries below each number. Assumes nothing.
use Rattle.std.proofs.Common.{rules, ◌≡◌, refl, sym, ap, ◌∙◌, ℕ, zero, suc, ◌≤◌, arith, add-one, Bool, ◌&&◌, ◌==◌, List, length, get_or, take}
use Rattle.std.proofs.Math.Bool.{and_comm}
use Rattle.std.proofs.lemmas.Iterator.{YieldsList-from_slice}
use Rattle.std.proofs.lemmas.Iterator.Search.{all_from_yields_List}
use Rattle.std.proofs.lemmas.List.Folds.{list_all_more}
use Rattle.std.specs.List.{list_all}
use borrow.Author.Tests.{tests}
use lib.Seq.{take_all}
use Rattle.lists.specs.Test.{below}
use Rattle.codes.specs.Word.{all_zero}
use Rattle.syndromes.proofs.all_zero.Goals as goal

first : (p : ℕ → Bool) (s : List ℕ) (n : ℕ) → n ≤ length s → list_all p (take n s) ≡ below n (λ i. p (get_or s i 0))
first p s zero l = refl
first p s (suc n) l =
    ap (λ (k : ℕ). list_all p (take k s)) (sym (add-one n)) ∙ list_all_more p s n 0 (omega arith) ∙ ap (λ (b : Bool). b && p (get_or s n 0)) (first p s n (omega arith))
    ∙ and_comm (below n (λ i. p (get_or s i 0))) (p (get_or s n 0))

pub returns : goal.returns
unfolding all_zero
returns c =
    let s = c.args.syndromes.now in
    all_from_yields_List (λ x. x == 0) _ _ _ c.all.ensures.ran (YieldsList-from_slice s cc) (λ x b q k. search (rules, tests))
    ∙ ap (list_all (λ x. x == 0)) (sym (take_all (length s) s (omega arith))) ∙ first (λ x. x == 0) s (length s) (omega arith)
