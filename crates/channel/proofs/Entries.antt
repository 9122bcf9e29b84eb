-- What computed tests over annex G and table 4 say of the half that a State takes.
-- Assumes nothing.
use mathlib.Core.Path.{◌≡◌, refl, subst}
use mathlib.Core.Bool.{Bool, true, false, cond, ◌&&◌, ◌||◌}
use Prim.Native.Nat.{ℕ, zero, suc, ◌+◌, ◌*◌, ◌-◌, ◌/◌, ◌%◌, ◌<◌}
use native.Mathlib.Omega.{arith}
use borrow.Author.Tests.{ltb-true}
use lib.Dec.{T, ltb, leb, leb→le, lit<}
use lib.ListN.{length}
use Rattle.lists.proofs.Test.{and_left, and_right}
use Rattle.annexg.specs.Read.{State, table_of, entry_of, both_zero, agrees}
use Rattle.annexg.specs.ZeroRuns.{inside}
use Rattle.annexg.specs.Tables.{main_table, sub_table}
use Rattle.annexg.proofs.Search.{length_main, length-sub, table_rule, column_is}
use Rattle.channel.specs.Channel.{byte, entry_for, swaps, allowed}

-- an entry's word has bits 15 and 3 by its State, and its next State is one
starts : ℕ → ℕ → Bool
starts k e = agrees (k % 4 + 1) (both_zero (e / 16)) && inside 1 4 (e % 16)

module _ (t b s : ℕ) (ht : t < 2) (hb : b * 4 < length (table_of t)) (hs : s < 4) where
  entry_starts : T (starts (b * 4 + s) (entry_of t b s))
  entry_starts = table_rule starts (unfold starts both_zero table_of main_table in tt) (unfold starts both_zero table_of sub_table in tt) t b s ht hb hs

  pub entry_agrees : T (agrees (s + 1) (both_zero (entry_of t b s / 16)))
  unfolding starts
  entry_agrees =
      subst (λ (n : ℕ). T (agrees n (both_zero (entry_of t b s / 16)))) (column_is b s hs)
      (and_left (agrees ((b * 4 + s) % 4 + 1) (both_zero (entry_of t b s / 16))) (inside 1 4 (entry_of t b s % 16)) entry_starts)

  pub entry_next : State (entry_of t b s % 16)
  unfolding starts
  entry_next =
      let n = entry_of t b s % 16 in
      let r = and_right (agrees ((b * 4 + s) % 4 + 1) (both_zero (entry_of t b s / 16))) (inside 1 4 n) entry_starts in
      record { low = leb→le 1 n (and_left (leb 1 n) (leb n 4) r); high = leb→le n 4 (and_right (leb 1 n) (leb n 4) r) }

-- what is known of an entry e that is taken for byte b in State s: it is one of b's, and its word's bits 15 and 3 agree with s
pub record Taken (s b e : ℕ) : Type 0 where
  pub table_no_lem : ℕ
  pub column : ℕ
  pub table_small : table_no_lem < 2
  pub row_small : b * 4 < length (table_of table_no_lem)
  pub column_small : column < 4
  pub entry_is : e ≡ entry_of table_no_lem b column
  pub fits : T (agrees s (both_zero (e / 16)))

own : (t s b : ℕ) → t < 2 → b * 4 < length (table_of t) → State s → Taken s b (entry_of t b (s - 1))
own t s b ht hb hs =
    let k : s - 1 < 4 = omega arith in
    let e : s - 1 + 1 ≡ s = omega arith in
    record {
      table_no_lem = t;
      column = s - 1;
      table_small = ht;
      row_small = hb;
      column_small = k;
      entry_is = refl;
      fits = subst (λ (n : ℕ). T (agrees n (both_zero (entry_of t b (s - 1) / 16)))) e (entry_agrees t b (s - 1) ht hb k);
    }

-- States 1 and 4 agree with all
pub swap_agrees : (s : ℕ) → State s → T (swaps s) → (q : Bool) → T (agrees s q)
swap_agrees zero hs h q = absurd h
swap_agrees (suc zero) hs h q = tt
swap_agrees (suc (suc zero)) hs h q = absurd h
swap_agrees (suc (suc (suc zero))) hs h q = absurd h
swap_agrees (suc (suc (suc (suc zero)))) hs h q = tt
swap_agrees (suc (suc (suc (suc (suc s))))) hs h q = absurd (omega arith)

row_main : (b : ℕ) → b < 256 → b * 4 < length (table_of 0)
row_main b h = omega (arith, length_main)

other :
    (s b : ℕ) (x j : Bool) → ltb b 88 ≡ x → b < 256 → State s → T (x || (swaps s && j))
    → Taken s b (cond x (entry_of 1 b (s - 1)) (entry_of 0 b (4 - s)))
other s b true j e hb hs p = own 1 s b (lit< tt) (omega (arith, length-sub, ltb-true b 88 e)) hs
other s b false j e hb hs p =
    record {
      table_no_lem = 0;
      column = 4 - s;
      table_small = lit< tt;
      row_small = row_main b hb;
      column_small = omega arith;
      entry_is = refl;
      fits = swap_agrees s hs (and_left (swaps s) j p) (both_zero (entry_of 0 b (4 - s) / 16));
    }

pub taken : (s l b : ℕ) (c : Bool) → b < 256 → State s → T (allowed s l (byte b) c) → Taken s b (entry_for s b c)
taken s l b false hb hs p = own 0 s b (lit< tt) (row_main b hb) hs
taken s l b true hb hs p = other s b (ltb b 88) _ refl hb hs p

pub taken_next : {s b e : ℕ} → Taken s b e → State (e % 16)
taken_next {s} {b} {e} t = rw t.entry_is (entry_next t.table_no_lem b t.column t.table_small t.row_small t.column_small)
