-- `framing::next_frame` meets its contract. Assumes nothing.
use Rattle.std.proofs.Common.{◌≡◌, ℕ, ◌+◌, ◌*◌, ◌-◌, ◌<◌, ◌≤◌, true, false, List, [], length, Option, None, Some, MatchOption, refl, sym, subst, ap, ◌∙◌, arith, rules, tests}
use Rattle.std.specs.List.{HoldsAt, AllWithin, range_with_len}
use Rattle.std.proofs.lemmas.Iterator.{first_from_find, YieldsList-from_range}
use Rattle.std.proofs.lemmas.List.FromFn.{get_or-range_with_len, length-range_with_len}
use Rattle.framing.specs.Frames.{bit_count, frame_at, frames_from}
use Rattle.framing.specs.Inner.{NextFrame}
use Rattle.framing.proofs.Frames.{frames-taken, frames_over, frames_past}
use Rattle.framing.proofs.next_frame.Goals as goal

module _ (xs : List ℕ) (p n : ℕ) where
  abbrev bits : List ℕ
  bits = range_with_len p n

  -- the bits before the i-th were looked at in vain
  over : (i : ℕ) → i ≤ n → AllWithin (λ j. frame_at xs j ≡ false) bits 0 i → frames_from xs p ≡ frames_from xs (p + i)
  over i h none =
      frames_over xs i p (λ j a b. let k : p + (j - p) ≡ j = omega arith in
      subst (λ m. frame_at xs m ≡ false) (get_or-range_with_len p n (j - p) 0 (omega arith) ∙ k) (none (j - p) 0 (omega arith) (omega arith)))

  next_by : (r : Option ℕ) → bit_count xs ≤ p + n
      → MatchOption r (AllWithin (λ j. frame_at xs j ≡ false) bits 0 (length bits))
      (λ q. (frame_at xs q ≡ true) × (i : ℕ) × (i < length bits) × HoldsAt (λ j. j ≡ q) bits i × AllWithin (λ j. frame_at xs j ≡ false) bits 0 i)
      → MatchOption r (frames_from xs p ≡ []) (NextFrame xs p)
  next_by None h none = over n (omega arith) (rw (length-range_with_len p n) at none) ∙ frames_past xs (p + n) h
  next_by (Some q) h (found, i, l, at, before) =
      let within : i < n = omega (arith, length-range_with_len p n) in
      let is : p + i ≡ q = sym (get_or-range_with_len p n i 0 within) ∙ at 0 in
      record { forward = omega arith; found = found; taken = over i (omega arith) before ∙ ap (frames_from xs) is ∙ frames-taken xs q found }

pub returns : goal.returns
returns c =
    let xs = c.args.stream.now in
    let from = c.args.from in
    next_by xs from (length xs * 8 - from) c.find.result (omega arith)
    (first_from_find _ _ _ (λ j. frame_at xs j ≡ true) (λ j. frame_at xs j ≡ false) c.find.ensures.ran (YieldsList-from_range from (length xs * 8) (length xs * 8 - from) refl refl)
    (λ x q k. search (rules, tests)) (λ x q k. search (rules, tests)))
