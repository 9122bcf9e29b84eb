-- The refusals of the block maker, case by case, and what an accepted block is.
-- Assumes nothing.
use mathlib.Core.Path.{◌≡◌, refl, sym, ap, ◌∙◌}
use mathlib.Core.Bool.{Bool, true, false, ◌&&◌, cond}
use mathlib.Core.List.{List}
use mathlib.Core.Logic.{◌≢◌}
use Prim.Native.Nat.{ℕ, suc, ◌%◌, ◌<◌, ◌≤◌}
use native.Mathlib.Omega.{arith}
use borrow.Author.Tests.{eq-eqb, ne_eqb, eqb-true, le-leb, lt-leb, leb-true}
use lib.Bits.{bit_and}
use lib.Dec.{eqb, leb}
use lib.ListN.{length}
use Rattle.std.specs.Prelude.{Option}
use Rattle.layout.specs.Lengths.{main_size, block_size, last_first}
use Rattle.dataframe.specs.Frame.{is_permitted}
use Rattle.eccblock.specs.Block.{block}
use Rattle.eccblock.specs.Encode.{follows, encode_refusal, encoded_buffer, Accepted}

-- the number where neither 1 nor 2 applies
abbrev judged : Option ℕ → ℕ → ℕ → ℕ
judged previous first info = cond (is_permitted info) (cond (follows previous first) 0 10) 3

module _ (previous : Option ℕ) (n m first info : ℕ) where
  pub main_length : n ≢ main_size → 1 ≡ encode_refusal previous n m first info
  unfolding encode_refusal
  main_length h = rw (ne_eqb n main_size h)

  module _ (e : n ≡ main_size) where
    pub buffer_length : m ≢ block_size → 1 ≡ encode_refusal previous n m first info
    unfolding encode_refusal
    buffer_length h = rw (eq-eqb n main_size e, ne_eqb m block_size h)

    module _ (f : m ≡ block_size) where
      pub not_sixteen : first % 16 ≢ 0 → 2 ≡ encode_refusal previous n m first info
      unfolding encode_refusal
      not_sixteen h = rw (eq-eqb n main_size e, eq-eqb m block_size f, ne_eqb (first % 16) 0 h)

      module _ (g : first % 16 ≡ 0) where
        pub number_over : last_first < first → 2 ≡ encode_refusal previous n m first info
        unfolding encode_refusal
        number_over h = rw (eq-eqb n main_size e, eq-eqb m block_size f, eq-eqb (first % 16) 0 g, lt-leb first last_first h)

        module _ (l : first ≤ last_first) where
          pub by_judgement : judged previous first info ≡ encode_refusal previous n m first info
          unfolding encode_refusal
          by_judgement = rw (eq-eqb n main_size e, eq-eqb m block_size f, eq-eqb (first % 16) 0 g, le-leb first last_first l)

module _ (previous : Option ℕ) (first info : ℕ) where
  pub prohibited : bit_and info 0xD2 ≢ 0 → 3 ≡ judged previous first info
  prohibited h = rw (ne_eqb (bit_and info 0xD2) 0 h)

  module _ (p : bit_and info 0xD2 ≡ 0) where
    pub not-following : follows previous first ≡ false → 10 ≡ judged previous first info
    not-following h = rw (eq-eqb (bit_and info 0xD2) 0 p, h)

    pub following : follows previous first ≡ true → 0 ≡ judged previous first info
    following h = rw (eq-eqb (bit_and info 0xD2) 0 p, h)

-- ---- the answer and the buffer of a call

-- what the contract says of an answer with the number r, and of the buffer that it leaves
pub record Answered (previous : Option ℕ) (main : List ℕ) (first info : ℕ) (old : List ℕ) (r : ℕ) (now : List ℕ) : Type 0 where
  pub number : r ≡ encode_refusal previous (length main) (length old) first info
  pub buffer : now ≡ encoded_buffer previous main first info old

module _ (previous : Option ℕ) (main : List ℕ) (first info : ℕ) (old : List ℕ) where
  abbrev refusal : ℕ
  refusal = encode_refusal previous (length main) (length old) first info

  pub refused : {r : ℕ} {now : List ℕ} → r ≡ refusal → r ≢ 0 → now ≡ old → Answered previous main first info old r now
  unfolding encoded_buffer
  refused e h same = record { number = e; buffer = same ∙ rw (ne_eqb refusal 0 (λ z. h (e ∙ z))) }

  pub taken : {now : List ℕ} → 0 ≡ refusal → now ≡ block main first info → Answered previous main first info old 0 now
  unfolding encoded_buffer
  taken e made = record { number = e; buffer = made ∙ rw (eq-eqb refusal 0 (sym e)) }

-- ---- an accepted block

and_parts : (a b : Bool) → (a && b) ≡ true → (a ≡ true) × (b ≡ true)
and_parts true b e = (refl, e)
and_parts false b e = absurd (let z : ◌≡◌ {A = ℕ} 0 1 = ap (λ (t : Bool). cond t 1 0) e in omega arith)

not_refused : (b : Bool) (n m : ℕ) → cond b m (suc n) ≡ 0 → (b ≡ true) × (m ≡ 0)
not_refused true n m e = (refl, e)
not_refused false n m e = absurd (omega arith)

pub record Facts (previous : Option ℕ) (main : List ℕ) (first info : ℕ) : Type 0 where
  pub whole : length main ≡ main_size
  pub sixteen : first % 16 ≡ 0
  pub small : first ≤ last_first
  pub permitted : is_permitted info ≡ true
  pub following : follows previous first ≡ true

pub accepted_facts : {previous : Option ℕ} (main : List ℕ) (first info : ℕ) → Accepted previous main first info → Facts previous main first info
unfolding encode_refusal
accepted_facts {previous} main first info ok =
    let n = length main in
    let a = not_refused (eqb n main_size && eqb block_size block_size) 0 _ ok.taken in
    let b = not_refused (eqb (first % 16) 0 && leb first last_first) 1 _ a.1 in
    let c = not_refused (is_permitted info) 2 _ b.1 in
    let d = not_refused (follows previous first) 9 0 c.1 in
    let p = and_parts (eqb n main_size) (eqb block_size block_size) a.0 in
    let q = and_parts (eqb (first % 16) 0) (leb first last_first) b.0 in
    record {
      whole = eqb-true n main_size p.0;
      sixteen = eqb-true (first % 16) 0 q.0;
      small = leb-true first last_first q.1;
      permitted = c.0;
      following = d.0;
    }
