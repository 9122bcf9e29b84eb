-- Reading in document 01's words, both ways: a word is read as byte b exactly where it stands for b, and is unknown exactly where it stands for none.
-- Assumes nothing.
use mathlib.Core.Path.{◌≡◌, refl, sym, ap, subst, ◌∙◌}
use mathlib.Core.Bool.{Bool, true, false, cond, ◌&&◌}
use mathlib.Core.List.{List, [], ◌∷◌}
use mathlib.Core.Logic.{◌⊎◌, inl, inr}
use Prim.Native.Nat.{ℕ, suc, ◌+◌, ◌*◌, ◌/◌, ◌%◌, ◌<◌, ◌≤◌, suc-le-suc, zero-le}
use native.Mathlib.Omega.{arith}
use lib.Dec.{T, eqb, eqb→eq, lit<}
use lib.ListN.{length, get_or}
use Rattle.lists.proofs.Test.{and_left, and_right, truth, truth_of}
use Rattle.annexg.specs.Read.{table_of, entry_of, next_of, both_zero, agrees, fits_of, first_fit, read_given, read_word, StandsFor}
use Rattle.annexg.proofs.Search.{each_table, length_main, length-sub}
use Rattle.annexg.proofs.Unique.{reads_back}
use Rattle.std.specs.Prelude.{Option, Some, None}

-- a word that stands for a byte is read as that byte
pub stands_read : {w f b : ℕ} → StandsFor w f b → read_word w f ≡ Some b
stands_read {w} {f} {b} s =
    rw (← s.word_is)
    (reads_back s.table_no_lem b s.column f s.table_small s.row_small s.column_small
    (truth (agrees (next_of s.table_no_lem b s.column) (both_zero f)) s.next_agrees))

byte-same : {a b : ℕ} → Some a ≡ Some b → a ≡ b
byte-same e = cc

-- an entry of a list fits, where the first of the list is entry i of its table, and its byte is b
record Found (w : ℕ) (z : Bool) (l : List ℕ) (i b : ℕ) : Type 0 where
  index : ℕ
  small : index < length l
  fit : T (fits_of w z (get_or l index 0))
  byte-is : (i + index) / 4 ≡ b

-- what the search finds in a list, or after it
found_in : (w : ℕ) (z : Bool) (l : List ℕ) (i : ℕ) (d : Option ℕ) (b : ℕ) → first_fit w z l i d ≡ Some b → Found w z l i b ⊎ (d ≡ Some b)
unfolding first_fit
found_in w z [] i d b e = inr e
found_in w z (x ∷ l) i d b e = here (fits_of w z x) refl e (λ g. found_in w z l (suc i) d b g)
  where
    later : Found w z l (suc i) b ⊎ (d ≡ Some b) → Found w z (x ∷ l) i b ⊎ (d ≡ Some b)
    later (inl r) =
        let m : i + suc r.index ≡ suc i + r.index = omega arith in
        inl (record { index = suc r.index; small = suc-le-suc r.small; fit = r.fit; byte-is = ap (λ (n : ℕ). n / 4) m ∙ r.byte-is })
    later (inr r) = inr r

    here : (q : Bool) → fits_of w z x ≡ q → cond q (Some (i / 4)) (first_fit w z l (suc i) d) ≡ Some b
        → (first_fit w z l (suc i) d ≡ Some b → Found w z l (suc i) b ⊎ (d ≡ Some b)) → Found w z (x ∷ l) i b ⊎ (d ≡ Some b)
    here true p g more =
        let m : i + 0 ≡ i = omega arith in
        inl (record { index = 0; small = suc-le-suc zero-le; fit = truth_of (fits_of w z x) p; byte-is = ap (λ (n : ℕ). n / 4) m ∙ byte-same g })
    here false p g more = later (more g)

found_stands : (w f t b : ℕ) → t < 2 → Found w (both_zero f) (table_of t) 0 b → StandsFor w f b
unfolding fits_of
found_stands w f t b ht r =
    let k = r.index in
    let m : k ≡ b * 4 + k % 4 = omega (arith, r.byte-is) in
    let e = entry_of t b (k % 4) in
    let fit : T (eqb (e / 16) w && agrees (e % 16) (both_zero f)) =
    subst (λ (n : ℕ). T (eqb (get_or (table_of t) n 0 / 16) w && agrees (get_or (table_of t) n 0 % 16) (both_zero f))) m r.fit in
    record {
      table_no_lem = t;
      column = k % 4;
      table_small = ht;
      row_small = omega (arith, r.small);
      column_small = omega arith;
      word_is = eqb→eq (e / 16) w (and_left (eqb (e / 16) w) (agrees (e % 16) (both_zero f)) fit);
      next_agrees = and_right (eqb (e / 16) w) (agrees (e % 16) (both_zero f)) fit;
    }

-- a word that is read as a byte stands for it
pub read_stands : (w f b : ℕ) → read_word w f ≡ Some b → StandsFor w f b
unfolding read_given
read_stands w f b e = main (found_in w (both_zero f) (table_of 0) 0 (first_fit w (both_zero f) (table_of 1) 0 None) b e)
  where
    sub : Found w (both_zero f) (table_of 1) 0 b ⊎ (None ≡ Some b) → StandsFor w f b
    sub (inl r) = found_stands w f 1 b (lit< tt) r
    sub (inr r) = let z : ◌≡◌ {A = ℕ} 0 1 = cc in absurd (omega arith)

    main : Found w (both_zero f) (table_of 0) 0 b ⊎ (first_fit w (both_zero f) (table_of 1) 0 None ≡ Some b) → StandsFor w f b
    main (inl r) = found_stands w f 0 b (lit< tt) r
    main (inr r) = sub (found_in w (both_zero f) (table_of 1) 0 None b r)

-- a word is read as no byte over 255
pub byte_small : (w f b : ℕ) → read_word w f ≡ Some b → b < 256
byte_small w f b e =
    let s = read_stands w f b e in
    let long = each_table (λ (t : ℕ). length (table_of t) ≤ 1024) (omega (arith, length_main)) (omega (arith, length-sub)) s.table_no_lem s.table_small in
    omega (arith, s.row_small, long)

-- an unknown word stands for no byte
pub unknown_none : (w f : ℕ) → read_word w f ≡ None → (b : ℕ) → StandsFor w f b → ⊥
unknown_none w f e b s = let r = stands_read s in let z : ◌≡◌ {A = ℕ} 0 1 = cc in omega arith

-- a word that stands for no byte is unknown
pub none_unknown : (w f : ℕ) → ((b : ℕ) → StandsFor w f b → ⊥) → read_word w f ≡ None
none_unknown w f h = answer (read_word w f) refl
  where
    answer : (r : Option ℕ) → read_word w f ≡ r → r ≡ None
    answer (Some b) e = absurd (h b (read_stands w f b e))
    answer None e = refl

-- no word stands for two bytes
pub stands_once : {w f b c : ℕ} → StandsFor w f b → StandsFor w f c → b ≡ c
stands_once s t = byte-same (sym (stands_read s) ∙ stands_read t)
