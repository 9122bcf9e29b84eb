-- `word::correct_located` meets its contract: the syndromes of the mended word decide. Assumes nothing.
use mathlib.Core.Path.{◌≡◌, refl, sym, subst}
use mathlib.Core.Bool.{false}
use mathlib.Core.List.{List}
use Prim.Native.Nat.{ℕ}
use native.Mathlib.Omega.{arith}
use borrow.Author.Rules.{rules}
use Rattle.codes.specs.Inner.{Places}
use Rattle.codes.proofs.Decision.{places_below}
use Rattle.reedsolomon.proofs.Repair.{word_bytes, shape_of, word_corrected, word_uncorrectable}
use Rattle.reedsolomon.proofs.word.correct_located.Goals as goal

located : (S : ℕ → ℕ) (t u : ℕ) (m ks : List ℕ) → t ≡ u → Places S t m ks → Places S u m ks
located S t u m ks e found = subst (λ (t : ℕ). Places S t m ks) e found

pub mend-near-requires : goal.mend-near-requires
mend-near-requires g c =
    let s = shape_of g.row.N g.row.P c.requires.sizes in
    (omega (arith, g.N.fits), (omega (arith, g.P.fits), (s.roots.some, λ j l. omega (arith, places_below _ _ _ _ c.find_places-count.ensures.places j l, c.requires.marks))))

pub returns-then-all_zero : goal.returns-then-all_zero
returns-then-all_zero g c =
    let all = word_corrected (shape_of g.row.N g.row.P c.requires.sizes) c.args.bytes (search rules) (word_bytes c.args.bytes (λ i. search rules)) _ c.requires.marks _ refl c.requires.few
    _ c.requires.syndromes false (sym c.requires.dirty) refl
    _ (located _ _ _ _ _ c.requires.reach c.find_places-count.ensures.places) _ c.mend-near.ensures _ c.word_syndromes-again.ensures _ c.all_zero.ensures c.if-all_zero.true in
    record { bytes_value = all.0; outcome_value = all.1 }

pub returns : goal.returns
returns g c =
    let all = word_uncorrectable (shape_of g.row.N g.row.P c.requires.sizes) c.args.bytes (search rules) (word_bytes c.args.bytes (λ i. search rules)) _ c.requires.marks _ refl c.requires.few
    _ c.requires.syndromes false (sym c.requires.dirty) refl
    _ (located _ _ _ _ _ c.requires.reach c.find_places-count.ensures.places) _ c.mend-near.ensures _ c.word_syndromes-again.ensures _ c.all_zero.ensures c.if-all_zero.false in
    record { bytes_value = all.0; outcome_value = all.1 }
