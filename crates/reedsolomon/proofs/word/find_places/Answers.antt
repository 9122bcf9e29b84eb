-- `word::find_places` meets its contract: the key equations are those of the syndromes without the errors at the marked places. Assumes nothing.
use mathlib.Core.Path.{◌≡◌, sym, ap, subst, ◌∙◌}
use mathlib.Core.List.{List, ◌++◌}
use Prim.Native.Nat.{ℕ, ◌+◌, ◌*◌, ◌-◌, ◌≤◌}
use native.Mathlib.Omega.{arith}
use lib.ListN.{length, take, drop, replicate}
use lib.Seq.{length-take-le, take-append-le}
use borrow.Author.Rules.{rules}
use Rattle.lists.specs.Bytes.{Bytes}
use Rattle.lists.proofs.Bytes.{take-bytes}
use Rattle.codes.specs.Inner.{at, Locator}
use Rattle.reedsolomon.proofs.Loops.{locator-same, take-zeros, pivots_fit}
use Rattle.reedsolomon.proofs.word.find_places.Goals as goal

-- room for the locator of eight errors
abbrev room : List ℕ
room = replicate 9 0

width : (t : ℕ) → t ≤ 8 → length (take (t + 1) room) ≡ t + 1
width t h = length-take-le (t + 1) room (omega (arith, h))

pub locate-degree-requires : goal.locate-degree-requires
locate-degree-requires g c =
    let t = c.args.reach in
    let few : t ≤ 8 = omega (arith, c.requires.1, c.requires.3) in
    let w = width t few in
    let rest : length c.take_out_erased.new.syndromes ≡ g.row.P = search rules in
    let v : (length (take (t + 1) room) - 1) * length (take (t + 1) room) ≡ t * (t + 1) = rw w (ap (λ (x : ℕ). x * (t + 1)) (omega arith)) in
    (omega (arith, w), take-zeros (t * (t + 1)) 72 (pivots_fit t few) ∙ ap (λ (n : ℕ). replicate n 0) (sym v), omega (arith, w, rest, c.requires.3))

pub returns-clause-places : goal.returns-clause-places
returns-clause-places g c =
    let t = c.args.reach in
    let few : t ≤ 8 = omega (arith, c.requires.1, c.requires.3) in
    let q : List ℕ = c.locate-degree.new.locator in
    let d = c.locate-degree.result in
    let w = width t few in
    let below = c.locate-degree.ensures.upper_bound in
    let k : length (take (t + 1) room) - 1 ≡ t = omega (arith, w) in
    let s = c.take_out_erased.new.syndromes in
    let l : Locator (at s) t (take (d + 1) q) = subst (λ (n : ℕ). Locator (at s) n (take (d + 1) q)) k c.locate-degree.ensures.locator in
    let long : length q ≡ t + 1 = c.locate-degree.auto.locator ∙ w in
    let all : List ℕ = q ++ drop (t + 1) room in
    let part : take (d + 1) all ≡ take (d + 1) q = take-append-le (d + 1) q (drop (t + 1) room) (omega (arith, below, w, long)) in
    record {
      locator = take (d + 1) all;
      bytes = subst Bytes (sym part) (take-bytes (d + 1) q c.locate-degree.ensures.bytes);
      locates = subst (Locator _ t) (sym part) (locator-same (at s) _ t (take (d + 1) q) c.take_out_erased.ensures l);
      found = c.search.ensures.places_after;
    }
