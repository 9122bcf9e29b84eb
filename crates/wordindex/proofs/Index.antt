-- The index of the Code Words: for a word that stands for a byte its slot names an entry that fits, and so the search from there on finds what it finds from
-- the first (index_reads).
-- Assumes nothing.
use mathlib.Core.Path.{◌≡◌, refl, sym, ap, subst, ◌∙◌}
use mathlib.Core.Bool.{Bool, true, false, cond, ◌&&◌}
use mathlib.Core.List.{List, [], ◌∷◌}
use mathlib.Core.Logic.{dite}
use Prim.Native.Nat.{ℕ, zero, suc, ◌+◌, ◌*◌, ◌/◌, ◌%◌, ◌<◌, ◌≤◌}
use native.Mathlib.Decide.{ℕ_discrete}
use native.Mathlib.Omega.{arith}
use lib.Dec.{T, eqb, eqb→eq, lit<}
use lib.ListN.{length, get_or, set, replicate, length-set, length-replicate}
use lib.Seq.{get_or-set_same, get_or-set_other}
use borrow.Author.Tests.{eq-eqb}
use Rattle.lists.specs.Test.{every}
use Rattle.lists.proofs.Test.{and_left, and_right, truth, truth_of, every-at}
use Rattle.annexg.specs.Read.{table_of, agrees, fits_of, read_word, both_zero, StandsFor}
use Rattle.annexg.specs.Inner.{read_from}
use Rattle.annexg.specs.Tables.{main_table, sub_table}
use Rattle.std.specs.Prelude.{Option, Some, None}
use Rattle.annexg.proofs.Search.{each_table, in_table, length_main, length-sub}
use Rattle.annexg.proofs.Unique.{Tree, leaf, put, get, fit_from_given, unknown_from}
use Rattle.annexg.proofs.Stands.{read_stands}
use Rattle.wordindex.specs.Inner.{place_of, slot_of, entry_number, table_no, entry_no, put_one, put_entry, put_first, put_all, word_index}

-- ---- the slots

place_small : (w : ℕ) → place_of w < 4096
unfolding place_of
place_small w = omega arith

slot_small : (w : ℕ) (z : Bool) → slot_of w z < 8192
slot_small w true = omega (arith, place_small w)
slot_small w false = omega (arith, place_small w)

slots_differ : (v w : ℕ) (y z : Bool) → slot_of v y ≡ slot_of w z → (place_of v ≡ place_of w) × (y ≡ z)
slots_differ v w true true e = (omega arith, refl)
slots_differ v w true false e = absurd (omega arith)
slots_differ v w false true e = absurd (omega arith)
slots_differ v w false false e = (omega arith, refl)

-- ---- the entry with the number n has the word w, with a next State that agrees

record Named (z : Bool) (w n : ℕ) : Type 0 where
  inside : entry_no n < length (table_of (table_no n))
  fit : fits_of w z (get_or (table_of (table_no n)) (entry_no n) 0) ≡ true

table_two : (n : ℕ) → table_no n < 2
table_two n = omega arith

pub table_long : (t : ℕ) → t < 2 → length (table_of t) ≤ 1024
table_long t ht = each_table (λ (x : ℕ). length (table_of x) ≤ 1024) (omega (arith, length_main)) (omega (arith, length-sub)) t ht

named :
    (t k : ℕ) (z : Bool) → t < 2 → k < length (table_of t) → agrees (get_or (table_of t) k 0 % 16) z ≡ true
    → Named z (get_or (table_of t) k 0 / 16) (entry_number t k)
unfolding fits_of
named t k z ht hk a =
    let e = get_or (table_of t) k 0 in
    let small : k < 1024 = omega (arith, table_long t ht) in
    let table : table_no (entry_number t k) ≡ t = omega arith in
    let entry : entry_no (entry_number t k) ≡ k = omega arith in
    record { inside = rw (table, entry) hk; fit = rw (table, entry, eq-eqb (e / 16) (e / 16) refl) a }

-- ---- no two words of the tables have one place: a search tree holds the word of each place, and one test over both tables finds it there

places : List ℕ → Tree → Tree
places [] r = r
places (e ∷ es) r = places es (put (place_of (e / 16)) (e / 16) r)

tree : Tree
tree = places (table_of 1) (places (table_of 0) leaf)

-- the entry's word is the tree's at its place
placed : Tree → ℕ → ℕ → Bool
placed r k e = eqb (get (place_of (e / 16)) r) (e / 16)

all : Tree → Bool
all r = every (placed r) (table_of 0) && every (placed r) (table_of 1)

test : T (all tree)
unfolding all placed tree places place_of get put table_of main_table sub_table
test = tt

tested : (t : ℕ) → t < 2 → T (every (placed tree) (table_of t))
unfolding all
tested t h =
    let m = every (placed tree) (table_of 0) in
    let u = every (placed tree) (table_of 1) in
    each_table (λ (x : ℕ). T (every (placed tree) (table_of x))) (and_left m u test) (and_right m u test) t h

named_place : {z : Bool} {w n : ℕ} → Named z w n → get (place_of w) tree ≡ w
unfolding placed fits_of
named_place {z} {w} {n} r =
    let t = table_no n in
    let e = get_or (table_of t) (entry_no n) 0 in
    let same : e / 16 ≡ w = eqb→eq (e / 16) w (and_left (eqb (e / 16) w) (agrees (e % 16) z) (truth_of (eqb (e / 16) w && agrees (e % 16) z) r.fit)) in
    subst (λ (v : ℕ). get (place_of v) tree ≡ v) same
    (eqb→eq (get (place_of (e / 16)) tree) (e / 16) (every-at (placed tree) (table_of t) (tested t (table_two n)) (entry_no n) r.inside))

-- entries that take one slot have one word, and what names the one names the other
same_slot : {y z : Bool} {v w n o : ℕ} → Named y v n → Named z w o → slot_of v y ≡ slot_of w z → Named z w n
same_slot {y} {z} {v} {w} {n} r s e =
    let d = slots_differ v w y z e in
    let same : v ≡ w = sym (named_place r) ∙ ap (λ (p : ℕ). get p tree) d.0 ∙ named_place s in
    subst (λ (x : Bool). Named x w n) d.1 (subst (λ (x : ℕ). Named y x n) same r)

-- ---- what each entry keeps, the index keeps

-- a property of the slots that no entry breaks
Kept : (List ℕ → Type 0) → Type 0
Kept P = (z : Bool) (w n : ℕ) (xs : List ℕ) → Named z w n → P xs → P (set xs (slot_of w z) n)

choose : (P : List ℕ → Type 0) (c : Bool) (xs ys : List ℕ) → (c ≡ true → P xs) → P ys → P (cond c xs ys)
choose P true xs ys p q = p refl
choose P false xs ys p q = q

module _ (P : List ℕ → Type 0) (keep : Kept P) (t : ℕ) (ht : t < 2) where
  keep_one : (k : ℕ) (z : Bool) (xs : List ℕ) → k < length (table_of t) → P xs → P (put_one z (entry_number t k) (get_or (table_of t) k 0) xs)
  unfolding put_one Kept
  keep_one k z xs h p =
      let e = get_or (table_of t) k 0 in
      choose P (agrees (e % 16) z) (set xs (slot_of (e / 16) z) (entry_number t k)) xs (λ a. keep z (e / 16) (entry_number t k) xs (named t k z ht h a) p) p

  keep_entry : (k : ℕ) (xs : List ℕ) → k < length (table_of t) → P xs → P (put_entry (entry_number t k) (get_or (table_of t) k 0) xs)
  unfolding put_entry
  keep_entry k xs h p = keep_one k true _ h (keep_one k false xs h p)

  keep_first : (k : ℕ) (xs : List ℕ) → k ≤ length (table_of t) → P xs → P (put_first t k xs)
  unfolding put_first
  keep_first zero xs h p = p
  keep_first (suc k) xs h p = keep_entry k _ (omega arith) (keep_first k xs (omega arith) p)

  keep_all : (xs : List ℕ) → P xs → P (put_all t xs)
  unfolding put_all
  keep_all xs p = keep_first (length (table_of t)) xs (omega arith) p

-- ---- every word that stands for a byte has an entry that fits in its slot

record Has (z : Bool) (w : ℕ) (xs : List ℕ) : Type 0 where
  long : length xs ≡ 8192
  held : Named z w (get_or xs (slot_of w z) 0)

keep_has : {z : Bool} {w o : ℕ} → Named z w o → Kept (Has z w)
unfolding Kept
keep_has {z} {w} r y v n xs s h = record {
  long = length-set xs (slot_of v y) n ∙ h.long;
  held = dite (ℕ_discrete (slot_of w z) (slot_of v y))
      (λ q. rw (q, get_or-set_same xs (slot_of v y) n 0 (omega (arith, h.long, slot_small v y))) (same_slot s r (sym q)))
      (λ q. rw (get_or-set_other xs (slot_of v y) (slot_of w z) n 0 q) h.held);
}

Long : List ℕ → Type 0
Long xs = length xs ≡ 8192

keep_long : Kept Long
unfolding Kept Long
keep_long z w n xs r l = length-set xs (slot_of w z) n ∙ l

module _ (t : ℕ) (ht : t < 2) where
  bring_one :
      (k : ℕ) (z : Bool) (xs : List ℕ) → k < length (table_of t) → Long xs → agrees (get_or (table_of t) k 0 % 16) z ≡ true
      → Has z (get_or (table_of t) k 0 / 16) (put_one z (entry_number t k) (get_or (table_of t) k 0) xs)
  unfolding put_one Long
  bring_one k z xs h l a =
      let w = get_or (table_of t) k 0 / 16 in
      rw a (record {
        long = length-set xs (slot_of w z) (entry_number t k) ∙ l;
        held = rw (get_or-set_same xs (slot_of w z) (entry_number t k) 0 (omega (arith, l, slot_small w z))) (named t k z ht h a);
      })

  bring_entry :
      (k : ℕ) (z : Bool) (xs : List ℕ) → k < length (table_of t) → Long xs → agrees (get_or (table_of t) k 0 % 16) z ≡ true
      → Has z (get_or (table_of t) k 0 / 16) (put_entry (entry_number t k) (get_or (table_of t) k 0) xs)
  unfolding put_entry
  bring_entry k true xs h l a = bring_one k true _ h (keep_one Long keep_long t ht k false xs h l) a
  bring_entry k false xs h l a =
      keep_one (Has false (get_or (table_of t) k 0 / 16)) (keep_has (named t k false ht h a)) t ht k true _ h (bring_one k false xs h l a)

  bring_first :
      (k n : ℕ) (z : Bool) (xs : List ℕ) → k < n → n ≤ length (table_of t) → Long xs → agrees (get_or (table_of t) k 0 % 16) z ≡ true
      → Has z (get_or (table_of t) k 0 / 16) (put_first t n xs)
  unfolding put_first
  bring_first k zero z xs h m l a = absurd (omega arith)
  bring_first k (suc n) z xs h m l a =
      dite (ℕ_discrete k n)
      (λ q. subst (λ (i : ℕ). Has z (get_or (table_of t) k 0 / 16) (put_entry (entry_number t i) (get_or (table_of t) i 0) (put_first t n xs))) q
      (bring_entry k z _ (omega arith) (keep_first Long keep_long t ht n xs (omega arith) l) a))
      (λ q. keep_entry (Has z (get_or (table_of t) k 0 / 16)) (keep_has (named t k z ht (omega arith) a)) t ht n _ (omega arith)
      (bring_first k n z xs (omega (arith, q)) (omega arith) l a))

  bring_all : (k : ℕ) (z : Bool) (xs : List ℕ) → k < length (table_of t) → Long xs → agrees (get_or (table_of t) k 0 % 16) z ≡ true
      → Has z (get_or (table_of t) k 0 / 16) (put_all t xs)
  unfolding put_all
  bring_all k z xs h l a = bring_first k (length (table_of t)) z xs h (omega arith) l a

bring_index : (t k : ℕ) (z : Bool) → t < 2 → k < length (table_of t) → agrees (get_or (table_of t) k 0 % 16) z ≡ true
    → Has z (get_or (table_of t) k 0 / 16) word_index
unfolding word_index Long
bring_index zero k z ht h a =
    keep_all (Has z (get_or (table_of 0) k 0 / 16)) (keep_has (named 0 k z ht h a)) 1 (lit< tt) _
    (bring_all 0 ht k z (replicate 8192 0) h (length-replicate {A = ℕ} 8192 0) a)
bring_index (suc zero) k z ht h a = bring_all 1 ht k z _ h (keep_all Long keep_long 0 (lit< tt) (replicate 8192 0) (length-replicate {A = ℕ} 8192 0)) a
bring_index (suc (suc t)) k z ht h a = absurd (omega arith)

-- a word that stands for a byte has in its slot the number of an entry that fits: the search that begins there ends there
index_names : {w f b : ℕ} → StandsFor w f b → Named (both_zero f) w (get_or word_index (slot_of w (both_zero f)) 0)
index_names {w} {f} {b} s =
    let k = b * 4 + s.column in
    let e = get_or (table_of s.table_no_lem) k 0 in
    let h = bring_index s.table_no_lem k (both_zero f) s.table_small (in_table s.table_no_lem b s.column s.table_small s.row_small s.column_small)
    (truth (agrees (e % 16) (both_zero f)) s.next_agrees) in
    (rw s.word_is at h).held

-- the search from the entry that the index names finds what it finds from the first
pub index_reads :
    (w f : ℕ) → let n = get_or word_index (slot_of w (both_zero f)) 0 in read_from w (both_zero f) (table_no n) (entry_no n) ≡ read_word w f
index_reads w f = answer (read_word w f) refl
  where
    n : ℕ
    n = get_or word_index (slot_of w (both_zero f)) 0

    answer : (r : Option ℕ) → read_word w f ≡ r → read_from w (both_zero f) (table_no n) (entry_no n) ≡ read_word w f
    answer (Some b) e =
        let named = index_names (read_stands w f b e) in
        fit_from_given w (both_zero f) (table_no n) (entry_no n) (table_two n) named.inside named.fit
    answer None e = unknown_from w (both_zero f) e (table_no n) (entry_no n) ∙ sym e
