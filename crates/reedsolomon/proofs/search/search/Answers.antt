-- `search::search` meets its contract. Assumes nothing.
use mathlib.Core.Path.{◌≡◌, refl, sym, ap, ap₂, ◌∙◌}
use mathlib.Core.Bool.{Bool, true, false, ◌||◌}
use mathlib.Core.List.{List, ◌++◌, append-nil}
use Prim.Native.Nat.{ℕ, suc, ◌+◌, ◌-◌, ◌<◌, ◌≤◌}
use native.Mathlib.Omega.{arith}
use lib.Dec.{eqb}
use lib.ListN.{length, get_or, set, take, length-set}
use Rattle.lists.specs.Bytes.{Bytes}
use Rattle.lists.proofs.Bytes.{bytes_of}
use Rattle.codes.specs.Erasures.{is_erased, erasure_count}
use Rattle.codes.specs.Inner.{NonZero, is_root, is_suspect, places_where}
use Rattle.codes.proofs.Roots.{suspects_few, search_room, search_hit, search_miss}
use Rattle.reedsolomon.proofs.search.search.Goals as goal
use Rattle.reedsolomon.proofs.search.search.Goals.{then-is_suspect, else-is_suspect}

-- one turn, at byte i, whose place is k − 1
module _
    (m q : List ℕ) (places : List ℕ) (count i k : ℕ) (found : Bool) (bytes : Bytes q) (short : length m ≤ 255) (some : NonZero q)
    (few : erasure_count m (length m) + length q ≤ length places + 1) (more : i < length m) (inside : count ≤ length places) (ek : k ≡ length m - i)
    (before : take count places ++ places_where (is_suspect m q) k ≡ places_where (is_suspect m q) (length m))
    (test : found ≡ (eqb (get_or m i 0) 1 || is_root q (length m - 1 - i))) where
  place : length m - suc (k - 1) ≡ i
  place = omega arith

  last : length m - 1 - i ≡ k - 1
  last = omega arith

  is-suspect : found ≡ is_suspect m q (k - 1)
  is-suspect = test ∙ ap₂ (λ (x y : ℕ). is_erased m x || is_root q y) (sym place) last

  in-room : found ≡ true → count < length places
  in-room e =
      search_room (is_suspect m q) places count k (length m) (omega arith) (omega arith) before (sym is-suspect ∙ e) (omega (arith, suspects_few m q bytes short some))

  goes : found ≡ true → take (count + 1) (set places count (length m - 1 - i)) ++ places_where (is_suspect m q) (k - 1) ≡ places_where (is_suspect m q) (length m)
  goes e =
      ap (λ (p : ℕ). take (count + 1) (set places count p) ++ places_where (is_suspect m q) (k - 1)) last
      ∙ search_hit (is_suspect m q) places count k (length m) (omega arith) (omega arith) before (sym is-suspect ∙ e) (in-room e)

  stays : found ≡ false → take count places ++ places_where (is_suspect m q) (k - 1) ≡ places_where (is_suspect m q) (length m)
  stays e = search_miss (is_suspect m q) places count k (length m) (omega arith) (omega arith) before (sym is-suspect ∙ e)

pub bounds-places-count : goal.bounds-places-count
bounds-places-count c =
    let m = c.args.erasures.now in
    let q = c.args.locator.now in
    in-room m q c.loop-i.places c.loop-i.count c.loop-i.i (length m - c.loop-i.i) c.is_suspect.result (bytes_of q (λ i h. omega (arith, c.type_inv.locator i)))
    c.requires.0 c.requires.1 (omega (arith, c.requires.2, c.loop-i.invariant.1)) (omega arith) (omega (arith, c.loop-i.invariant.0, c.loop-i.invariant.1)) refl c.loop-i.invariant.2 c.is_suspect.ensures c.if-is_suspect.true

pub loop-i-preserved : goal.loop-i-preserved
loop-i-preserved c =
    let q = c.args.locator.now in
    let m = c.args.erasures.now in
    let i : ℕ = c.loop-i.i in
    let k : ℕ = length m - i in
    let bytes = bytes_of q (λ i h. omega (arith, c.type_inv.locator i)) in
    let last : length m - (i + 1) ≡ k - 1 = omega arith in
    elim c.if-is_suspect.branch [
      | then-is_suspect w ↦
          let room = in-room m q c.loop-i.places c.loop-i.count i k c.is_suspect.result bytes c.requires.0 c.requires.1 (omega (arith, c.requires.2, c.loop-i.invariant.1)) (omega arith) (omega (arith, c.loop-i.invariant.0, c.loop-i.invariant.1)) refl
          c.loop-i.invariant.2 c.is_suspect.ensures w.if-is_suspect.true in
          let goes-on = goes m q c.loop-i.places c.loop-i.count i k c.is_suspect.result bytes c.requires.0 c.requires.1 (omega (arith, c.requires.2, c.loop-i.invariant.1)) (omega arith) (omega (arith, c.loop-i.invariant.0, c.loop-i.invariant.1)) refl
          c.loop-i.invariant.2 c.is_suspect.ensures w.if-is_suspect.true in (
            omega (arith, room, c.loop-i.invariant.1, w.count-is),
            ap length w.places-is ∙ length-set c.loop-i.places c.loop-i.count _ ∙ c.loop-i.invariant.1,
            ap (λ (n : ℕ). take c.if-is_suspect.count c.if-is_suspect.places ++ places_where (is_suspect m q) n) last
                ∙ ap₂ (λ (n : ℕ) (p : List ℕ). take n p ++ places_where (is_suspect m q) (k - 1)) w.count-is w.places-is ∙ goes-on,
          )
      | else-is_suspect w ↦
          let stays-on = stays m q c.loop-i.places c.loop-i.count i k c.is_suspect.result bytes c.requires.0 c.requires.1 (omega (arith, c.requires.2, c.loop-i.invariant.1)) (omega arith) (omega (arith, c.loop-i.invariant.0, c.loop-i.invariant.1)) refl
          c.loop-i.invariant.2 c.is_suspect.ensures w.if-is_suspect.false in (
            omega (arith, c.loop-i.invariant.0, w.count-is),
            ap length w.places-is ∙ c.loop-i.invariant.1,
            ap (λ (n : ℕ). take c.if-is_suspect.count c.if-is_suspect.places ++ places_where (is_suspect m q) n) last
                ∙ ap₂ (λ (n : ℕ) (p : List ℕ). take n p ++ places_where (is_suspect m q) (k - 1)) w.count-is w.places-is ∙ stays-on,
          )
    ]

pub returns : goal.returns
unfolding places_where
returns c =
    let m = c.args.erasures.now in
    let e : length m - c.loop-i.i ≡ 0 = omega arith in
    record {
      upper_bound = c.loop-i.invariant.0;
      places_after = sym (append-nil (take c.loop-i.count c.loop-i.places))
          ∙ ap (λ (k : ℕ). take c.loop-i.count c.loop-i.places ++ places_where (is_suspect m c.args.locator.now) k) (sym e) ∙ c.loop-i.invariant.2;
    }
