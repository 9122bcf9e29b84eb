-- The words of a block along an axis, one text for rows and columns.
--   word_length, word_bytes, word_byte_lem, repaired-size a word's length and its bytes, and the length of what the repair gives for it
--   left_syndromes, row_clean, column_clean           the syndromes of a word, from what is left of it by the generator; where they are all 0
--   in_word, at_byte, place_at, in_place                in which word the byte p of a block stands, and as which of its bytes
--   WordsUpto                                         the words before k are repaired, and everything else is as it was
--   words_none, word_same, words_more, words_all      its steps
-- Assumes nothing.
use mathlib.Core.Path.{◌≡◌, refl, sym, ap, subst, ◌∙◌, ◌≡⟨◌⟩◌, ◌∎}
use mathlib.Core.Bool.{Bool, true, false, cond}
use mathlib.Core.List.{List}
use mathlib.Core.Logic.{◌≢◌, dite}
use Prim.Native.Nat.{ℕ, ◌+◌, ◌/◌, ◌%◌, ◌<◌, ◌≤◌}
use native.Mathlib.Decide.{ℕ_discrete}
use native.Mathlib.Omega.{arith}
use borrow.Author.Tests.{ltb-true, ltb-false}
use lib.Dec.{ltb}
use lib.ListN.{length, get_or, take, replicate, length-replicate}
use lib.Seq.{ext_get_or}
use Rattle.lists.specs.Bytes.{Bytes}
use Rattle.lists.specs.Fill.{tabulate}
use Rattle.lists.proofs.Fill.{is-tabulate}
use Rattle.codes.specs.Word.{syndrome, all_zero}
use Rattle.codes.specs.Parity.{parity}
use Rattle.codes.specs.Nearest.{nearest, outcome_of}
use Rattle.codes.specs.Erasures.{erasure_count, nearest_erased, outcome_erased}
use Rattle.codes.specs.declared.Outcome.{Outcome}
use Rattle.codes.proofs.Nearest.{nearest-length}
use Rattle.codes.proofs.Erasures.{erased_length}
use Rattle.codes.specs.declared.Outcome.TheVariants.{Clean}
use Rattle.division.specs.Inner.{packed, remainder_of, unpacked}
use Rattle.division.specs.declared.register.Remainder.{Remainder}
use Rattle.octets.specs.Inner.{Stored}
use Rattle.layout.specs.Rows.{original_row, row_of, column_of}
use Rattle.layout.proofs.Order.{recording_original}
use Rattle.layout.proofs.Places.{row_length, row_bytes, row_byte, column_length, column_bytes, column_byte}
use Rattle.reedsolomon.proofs.Repair.{Shape, row_shape, column_shape, word_syndromes, word_clean, zeros-count, unmarked-repaired}
use Rattle.layout.specs.Lengths.{block_size, row_count, row_size, column_count, data_rows}
use Rattle.repairer.specs.Repair.{rows_repaired, columns_repaired}
use Rattle.repairer.specs.Inner.{Axis, Rows, Columns, roots_of, count_of, size_of, word_of, place_of, repaired_word, outcome_of_word, repaired_along, Divided}

-- ---- a word

-- of word k became r, and what the repair gives for it stands in its place. ms are the marks of the block's bytes
abbrev pub RepairedWord : Axis → List ℕ → List ℕ → ℕ → Outcome → List ℕ → Type 0
RepairedWord a ms xs k r new = (r ≡ outcome_of_word a ms xs k) × Stored (place_of a k) (repaired_word a ms xs k) xs new (size_of a)

-- along b, which is the axis a
pub repaired_along_lem : (a b : Axis) → a ≡ b → (ms xs : List ℕ) (k : ℕ) (r : Outcome) (new : List ℕ) → RepairedWord b ms xs k r new → RepairedWord a ms xs k r new
repaired_along_lem a b e ms xs k r new h = subst (λ (x : Axis). RepairedWord x ms xs k r new) (sym e) h

pub word_shape : (a : Axis) → Shape (size_of a) (roots_of a)
word_shape Rows = row_shape
word_shape Columns = column_shape

pub word_length : (a : Axis) (xs : List ℕ) (k : ℕ) → length xs ≡ block_size → k < count_of a → length (word_of a xs k) ≡ size_of a
word_length Rows xs k e h = row_length xs k e h
word_length Columns xs k e h = column_length xs k

pub word_bytes : (a : Axis) (xs : List ℕ) → ((i : ℕ) → get_or xs i 0 < 256) → (k : ℕ) → Bytes (word_of a xs k)
word_bytes Rows xs h k = row_bytes xs h k
word_bytes Columns xs h k = column_bytes xs h k

word_byte_lem : (a : Axis) (xs : List ℕ) (k i : ℕ) → i < size_of a → get_or (word_of a xs k) i 0 ≡ get_or xs (place_of a k i) 0
word_byte_lem Rows xs k i l = row_byte xs k i l
word_byte_lem Columns xs k i l = column_byte xs k i l

pub repaired-size :
    (a : Axis) (ms xs : List ℕ) (k : ℕ) → length xs ≡ block_size → ((i : ℕ) → get_or xs i 0 < 256) → k < count_of a → length (repaired_word a ms xs k) ≡ size_of a
repaired-size Rows ms xs k e small h = erased_length 10 (row_of ms k) (row_of xs k) (word_bytes Rows xs small k) ∙ word_length Rows xs k e h
repaired-size Columns ms xs k e small h = nearest-length 16 8 (column_of xs k) (word_bytes Columns xs small k) ∙ word_length Columns xs k e h

-- what becomes of a word goes by the word, and by the marks of its bytes
repaired-same : (a : Axis) (ms xs ys : List ℕ) (k : ℕ) → word_of a xs k ≡ word_of a ys k → repaired_word a ms xs k ≡ repaired_word a ms ys k
repaired-same Rows ms xs ys k e = ap (nearest_erased 10 (row_of ms k)) e
repaired-same Columns ms xs ys k e = ap (nearest 16 8) e

pub outcome_same : (a : Axis) (ms xs ys : List ℕ) (k : ℕ) → word_of a xs k ≡ word_of a ys k → outcome_of_word a ms xs k ≡ outcome_of_word a ms ys k
outcome_same Rows ms xs ys k e = ap (outcome_erased 10 (row_of ms k)) e
outcome_same Columns ms xs ys k e = ap (outcome_of 16 8) e

-- there are no more words than rows
pub count_most : (a : Axis) → count_of a ≤ row_count
count_most Rows = omega arith
count_most Columns = omega arith

-- what is known of a word before its turn is known as long as the word is as it was
pub divided_same : (a : Axis) (xs ys : List ℕ) (regs : List Remainder) (k : ℕ) → word_of a ys k ≡ word_of a xs k → Divided a xs regs k → Divided a ys regs k
divided_same Rows xs ys regs k e d = tt
divided_same Columns xs ys regs k e d = record { register = λ r. d.register r ∙ ap (λ (w : List ℕ). packed (parity 16 (take data_rows w))) (sym e) }

module _ (a : Axis) (xs : List ℕ) (k : ℕ) (e : length xs ≡ block_size) (small : (i : ℕ) → get_or xs i 0 < 256) (h : k < count_of a) where
  -- r is what is left of word k, and s the syndromes of that
  pub left_syndromes :
      (r : Remainder) (s : List ℕ) → r ≡ packed (remainder_of (roots_of a) (word_of a xs k)) → s ≡ tabulate (syndrome (take (roots_of a) (unpacked r))) (roots_of a)
      → s ≡ tabulate (syndrome (word_of a xs k)) (roots_of a)
  left_syndromes r s er es = word_syndromes (word_shape a) (word_of a xs k) (word_length a xs k e h) (word_bytes a xs small k) r s er es

-- a word that becomes itself stands in its place already
stays : (a : Axis) (ms xs : List ℕ) (k : ℕ) → word_of a xs k ≡ repaired_word a ms xs k → Stored (place_of a k) (repaired_word a ms xs k) xs xs (size_of a)
stays a ms xs k e = record { size = refl; done = λ i l. sym (word_byte_lem a xs k i l) ∙ ap (λ (v : List ℕ). get_or v i 0) e; left = λ q f. refl }

-- the syndromes of word k are all 0, and b says so: it is a code word, and stays
module _ (ms xs : List ℕ) (k : ℕ) (e : length xs ≡ block_size) (small : (i : ℕ) → get_or xs i 0 < 256) where
  -- a row, with f marks, at most ten
  pub row_clean :
      length ms ≡ block_size → k < row_count → (f : ℕ) → f ≡ erasure_count (row_of ms k) row_size → f ≤ 10
      → (s : List ℕ) → s ≡ tabulate (syndrome (row_of xs k)) 10 → (b : Bool) → b ≡ all_zero s → b ≡ true → RepairedWord Rows ms xs k Clean xs
  row_clean m h f ef fits s es b eb t =
      let r = word_clean row_shape (row_of xs k) (row_length xs k e h) (row_bytes xs small k) (row_of ms k) (row_length ms k m h) f ef fits s es b eb t in
      (r.1, stays Rows ms xs k r.0)

  pub column_clean :
      (s : List ℕ) → s ≡ tabulate (syndrome (column_of xs k)) 16 → (b : Bool) → b ≡ all_zero s → b ≡ true → RepairedWord Columns ms xs k Clean xs
  column_clean s es b eb t =
      let w : List ℕ = column_of xs k in
      let r =
      unmarked-repaired row_count 8 w w Clean (column_bytes xs small k)
      (word_clean column_shape w (column_length xs k) (column_bytes xs small k) (replicate row_count 0) (length-replicate {A = ℕ} row_count 0) 0 (zeros-count row_count) (omega arith) s es b eb t) in
      (r.1, stays Columns ms xs k r.0)

-- ---- where byte p of a block stands

abbrev pub in_word : Axis → ℕ → ℕ
in_word Rows p = p / row_size
in_word Columns p = p % row_size

abbrev pub at_byte : Axis → ℕ → ℕ
at_byte Rows p = p % row_size
at_byte Columns p = original_row (p / row_size)

place_at : (a : Axis) (p : ℕ) → p < block_size → (at_byte a p < size_of a) × (p ≡ place_of a (in_word a p) (at_byte a p))
place_at Rows p l = (omega arith, omega arith)
place_at Columns p l =
    let o = recording_original (p / row_size) (omega arith) in
    (o.0, omega (arith, o.1))

in_place : (a : Axis) (k i : ℕ) → k < count_of a → i < size_of a → in_word a (place_of a k i) ≡ k
in_place Rows k i h l = omega arith
in_place Columns k i h l = omega arith

-- ---- the repair, one word at a time

-- byte p after the repair of the word that it stands in
abbrev pub word_byte : Axis → List ℕ → List ℕ → ℕ → ℕ
word_byte a ms xs p = get_or (repaired_word a ms xs (in_word a p)) (at_byte a p) 0

pub record WordsUpto (a : Axis) (ms old xs : List ℕ) (k : ℕ) : Type 0 where
  pub size : length xs ≡ length old
  pub done : (p : ℕ) → p < block_size → in_word a p < k → get_or xs p 0 ≡ word_byte a ms old p
  pub left : (p : ℕ) → k ≤ in_word a p → get_or xs p 0 ≡ get_or old p 0

pub words_none : (a : Axis) (ms old : List ℕ) → WordsUpto a ms old old 0
words_none a ms old = record { size = refl; done = λ p l h. absurd (omega arith); left = λ p h. refl }

module _ (a : Axis) (ms old xs : List ℕ) (k : ℕ) (e : length old ≡ block_size) (h : k < count_of a) (u : WordsUpto a ms old xs k) where
  -- a word that has not had its turn is as it was
  pub word_same : word_of a xs k ≡ word_of a old k
  word_same =
      let n : length (word_of a xs k) ≡ size_of a = word_length a xs k (u.size ∙ e) h in
      ext_get_or 0 (word_of a xs k) (word_of a old k) (n ∙ sym (word_length a old k e h))
      (λ i l.
      let m : i < size_of a = omega (arith, n) in
      word_byte_lem a xs k i m ∙ u.left (place_of a k i) (omega (arith, in_place a k i h m)) ∙ sym (word_byte_lem a old k i m))

  module _ (new : List ℕ) (w : Stored (place_of a k) (repaired_word a ms xs k) xs new (size_of a)) where
    other : (p : ℕ) → in_word a p ≢ k → get_or new p 0 ≡ get_or xs p 0
    other p n = w.left p (λ i l q. n (ap (in_word a) q ∙ in_place a k i h l))

    here : (p : ℕ) → p < block_size → in_word a p ≡ k → get_or new p 0 ≡ word_byte a ms old p
    here p l q =
        let o = place_at a p l in
        get_or new p 0
        ≡⟨ ap (λ (x : ℕ). get_or new x 0) (o.1 ∙ ap (λ (x : ℕ). place_of a x (at_byte a p)) q) ⟩
        get_or new (place_of a k (at_byte a p)) 0
        ≡⟨ w.done (at_byte a p) o.0 ⟩
        get_or (repaired_word a ms xs k) (at_byte a p) 0
        ≡⟨ ap (λ (v : List ℕ). get_or v (at_byte a p) 0) (repaired-same a ms xs old k word_same ∙ ap (repaired_word a ms old) (sym q)) ⟩
        word_byte a ms old p ∎

    pub words_more : WordsUpto a ms old new (k + 1)
    words_more = record {
      size = w.size ∙ u.size;
      done = λ p l m. dite (ℕ_discrete (in_word a p) k) (λ q. here p l q) (λ n. other p n ∙ u.done p l (omega (arith, n)));
      left = λ p m. other p (λ q. omega (arith, q)) ∙ u.left p (omega arith);
    }

pub words_all : (a : Axis) (ms old xs : List ℕ) → length old ≡ block_size → WordsUpto a ms old xs (count_of a) → xs ≡ repaired_along a ms old
unfolding rows_repaired columns_repaired
words_all Rows ms old xs e u = is-tabulate (word_byte Rows ms old) xs block_size (u.size ∙ e) (λ p l. u.done p l (omega arith))
words_all Columns ms old xs e u =
    is-tabulate (λ p. cond (ltb (p % row_size) column_count) (word_byte Columns ms old p) (get_or old p 0)) xs block_size (u.size ∙ e) (λ p l. go p l (ltb (p % row_size) column_count) refl)
  where
    go : (p : ℕ) → p < block_size → (b : Bool) → ltb (p % row_size) column_count ≡ b → get_or xs p 0 ≡ cond (ltb (p % row_size) column_count) (word_byte Columns ms old p) (get_or old p 0)
    go p l true t = u.done p l (ltb-true (p % row_size) column_count t) ∙ rw t
    go p l false t = u.left p (ltb-false (p % row_size) column_count t) ∙ rw t
