-- `zeroruns::first_one` meets its contract. Assumes nothing.
use Rattle.std.proofs.Common.{◌≡◌, ℕ, zero, suc, ◌+◌, ◌*◌, ◌-◌, ◌<◌, ◌≤◌, true, List, length, Option, None, Some, MatchOption, refl, sym, subst, ap, ◌∙◌, arith, rules, tests}
use lib.ListN.{drop}
use Rattle.std.specs.List.{HoldsAt, AllWithin, range_with_len}
use Rattle.std.proofs.lemmas.Iterator.{first_from_find, YieldsList-from_range}
use Rattle.std.proofs.lemmas.List.FromFn.{get_or-range_with_len, length-range_with_len}
use Rattle.octets.specs.Halves.{bit_at}
use Rattle.channel.specs.Bits.{bits_bytes, zero_runs_from, zero_runs_hold}
use Rattle.zeroruns.specs.Inner.{After}
use Rattle.zeroruns.proofs.Scanning.{scan_zero, scan_one, scan_end}
use Rattle.zeroruns.proofs.first_one.Goals as goal

module _ (xs : List ℕ) (n : ℕ) where
  abbrev places : List ℕ
  places = range_with_len 0 n

  -- before the i-th bit there is no ONE
  over : (i : ℕ) → i ≤ n → n ≤ 8 * length xs → AllWithin (λ j. bit_at xs j ≡ 0) places 0 i → zero_runs_hold xs ≡ zero_runs_from None i (drop i (bits_bytes xs))
  over zero h m none = refl
  over (suc i) h m none =
      let k : 0 + i ≡ i = omega arith in
      let next : i + 1 ≡ suc i = omega arith in
      let bit = subst (λ j. bit_at xs j ≡ 0) (get_or-range_with_len 0 n i 0 (omega arith) ∙ k) (none i 0 (omega arith) (omega arith)) in
      over i (omega arith) m (λ j d a b. none j d a (omega (arith, b)))
      ∙ scan_zero xs None i (omega arith) bit ∙ ap (λ j. zero_runs_from None j (drop j (bits_bytes xs))) next

  first_by : (r : Option ℕ) → n ≡ 8 * length xs
      → MatchOption r (AllWithin (λ j. bit_at xs j ≡ 0) places 0 (length places))
      (λ q. (bit_at xs q ≡ 1) × (i : ℕ) × (i < length places) × HoldsAt (λ j. j ≡ q) places i × AllWithin (λ j. bit_at xs j ≡ 0) places 0 i)
      → MatchOption r (zero_runs_hold xs ≡ true) (After xs)
  first_by None e none = over n (omega arith) (omega arith) (rw (length-range_with_len 0 n) at none) ∙ scan_end xs None n (omega arith)
  first_by (Some q) e (found, i, l, at, before) =
      let within : i < n = omega (arith, length-range_with_len 0 n) in
      let k : i ≡ 0 + i = omega arith in
      let is : i ≡ q = k ∙ sym (get_or-range_with_len 0 n i 0 within) ∙ at 0 in
      record {
        inside = omega arith;
        rest = over i (omega arith) (omega arith) before ∙ ap (λ j. zero_runs_from None j (drop j (bits_bytes xs))) is ∙ scan_one xs None q (omega arith) found;
      }

pub returns : goal.returns
returns c =
    let xs = c.args.stream.now in
    first_by xs (length xs * 8 - 0) c.find.result (omega arith)
    (first_from_find _ _ _ (λ j. bit_at xs j ≡ 1) (λ j. bit_at xs j ≡ 0) c.find.ensures.ran (YieldsList-from_range 0 (length xs * 8) (length xs * 8 - 0) refl refl)
    (λ x q k. search (rules, tests)) (λ x q k. search (rules, tests)))
