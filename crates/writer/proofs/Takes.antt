-- Trial and take (document 02, request 5), over any record:
--   trial_and_take, sectors_taken      the two together, with the same bytes, are the single write, and so over every list of sectors
--   trial_passes, trial_tells          what a trial lets pass, the take of the same bytes does not refuse, and its DSV is the one that the trial gave
--   trial_alone, trial_replaces        a trial changes nothing but the mark, and a second one replaces it
--   take_untried, take_other           12 and 13
--   take_drops, closing_drops, sectors_drop      what is written drops the mark
-- Assumes nothing.
use mathlib.Core.Path.{◌≡◌, refl, sym, ap, ap₂, fun_ext, ◌∙◌}
use mathlib.Core.Bool.{Bool, true, false, cond}
use mathlib.Core.List.{List}
use Prim.Native.Nat.{ℕ}
use borrow.Author.Tests.{eqb-true, eqb-false, eq-eqb, ne_eqb}
use lib.Dec.{eqb}
use lib.IntN.{ℤ, pos, negsuc}
use lib.ListN.{length}
use Rattle.octets.specs.Halves.{packed}
use Rattle.streams.specs.Frames.{sector_of}
use Rattle.writer.specs.Answers.{sound, sector_refusal, sector_next, sector_out, sector_dsv, trial_next, same_dsv, mark_refusal, take_refusal, take_next, take_out}
use Rattle.writer.specs.Answers.{sectors_refusal, sectors_next, closing_refusal, closing_next}
use Rattle.writer.specs.Records.{running_of, marked_with, unmarked, after_sector}
use Rattle.writer.specs.Session.{Way, writes, takes, sector_calls}
use Rattle.writer.specs.declared.Record.{Record}

-- ---- two DSVs

same_itself : (d : ℤ) → same_dsv d d ≡ true
same_itself (pos n) = eq-eqb n n refl
same_itself (negsuc n) = eq-eqb n n refl

pub same_dsv_lem : {a b : ℤ} → a ≡ b → same_dsv a b ≡ true
same_dsv_lem {a} e = ap (same_dsv a) (sym e) ∙ same_itself a

pub other_dsv : (a b : ℤ) → (a ≡ b → ⊥) → same_dsv a b ≡ false
other_dsv (pos m) (pos n) h = ne_eqb m n (λ e. h (ap pos e))
other_dsv (pos m) (negsuc n) h = refl
other_dsv (negsuc m) (pos n) h = refl
other_dsv (negsuc m) (negsuc n) h = ne_eqb m n (λ e. h (ap negsuc e))

-- ---- a trial and a take, case by case

module _ (w : Record) (bs : List ℕ) (to : ℕ) where
  abbrev refusal : ℕ
  refusal = sector_refusal w (length bs) to

  pub sector_left : (refusal ≡ 0 → ⊥) → sector_next w bs to ≡ w
  unfolding sector_next
  sector_left h = rw (ne_eqb refusal 0 h)

  pub sector_after_lem : refusal ≡ 0 → sector_next w bs to ≡ after_sector w bs
  unfolding sector_next
  sector_after_lem z = rw (eq-eqb refusal 0 z)

  pub trial_left : (refusal ≡ 0 → ⊥) → trial_next w bs to ≡ w
  unfolding trial_next
  trial_left h = rw (ne_eqb refusal 0 h)

  pub trial_marks : refusal ≡ 0 → trial_next w bs to ≡ marked_with w (sector_dsv w bs)
  unfolding trial_next
  trial_marks z = rw (eq-eqb refusal 0 z)

  pub take_refused : (refusal ≡ 0 → ⊥) → take_refusal w bs to ≡ refusal
  unfolding take_refusal
  take_refused h = rw (ne_eqb refusal 0 h)

  pub take_by_mark : refusal ≡ 0 → take_refusal w bs to ≡ mark_refusal w (sector_dsv w bs)
  unfolding take_refusal
  take_by_mark z = rw (eq-eqb refusal 0 z)

  -- 12: no trial is marked
  pub take_untried : refusal ≡ 0 → w.marked ≡ false → take_refusal w bs to ≡ 12
  take_untried z u = take_by_mark z ∙ ap (λ (b : Bool). cond b (cond (same_dsv w.mark (sector_dsv w bs)) 0 13) 12) u

  -- 13: the DSV after the sector is not the marked one
  pub take_other : refusal ≡ 0 → w.marked ≡ true → (w.mark ≡ sector_dsv w bs → ⊥) → take_refusal w bs to ≡ 13
  take_other z m h = take_by_mark z ∙ ap₂ (λ (b d : Bool). cond b (cond d 0 13) 12) m (other_dsv w.mark (sector_dsv w bs) h)

  -- a take that is not refused is one that the single write does not refuse
  pub take_opens : take_refusal w bs to ≡ 0 → refusal ≡ 0
  take_opens z = by (eqb refusal 0) refl
    where
      by : (b : Bool) → eqb refusal 0 ≡ b → refusal ≡ 0
      by true e = eqb-true refusal 0 e
      by false e = sym (take_refused (eqb-false refusal 0 e)) ∙ z

-- what is written drops the mark
pub take_drops : (w : Record) (bs : List ℕ) (to : ℕ) → take_refusal w bs to ≡ 0 → (take_next w bs to).marked ≡ false
unfolding take_next
take_drops w bs to z = rw (eq-eqb (take_refusal w bs to) 0 z)

pub closing_drops : (w : Record) (to : ℕ) → closing_refusal w to ≡ 0 → (closing_next w to).marked ≡ false
unfolding closing_next
closing_drops w to z = rw (eq-eqb (closing_refusal w to) 0 z)

pub sectors_drop : (w : Record) (bs : List ℕ) (to : ℕ) → sectors_refusal w (length bs) to ≡ 0 → (sectors_next w bs to).marked ≡ false
unfolding sectors_next
sectors_drop w bs to z = rw (eq-eqb (sectors_refusal w (length bs) to) 0 z)

-- ---- what the code answers and leaves at each return

module _ (w : Record) (bs out : List ℕ) where
  -- the single write refuses
  module _ (no : ℕ) (e : no ≡ sector_refusal w (length bs) (length out)) (h : no ≡ 0 → ⊥) where
    pub trial_stays : w ≡ trial_next w bs (length out)
    trial_stays = sym (trial_left w bs (length out) (λ z. h (e ∙ z)))

    pub take_stays : (no ≡ take_refusal w bs (length out)) × ((w ≡ take_next w bs (length out)) × (out ≡ take_out w bs out))
    unfolding take_next take_out
    take_stays =
        let number = e ∙ sym (take_refused w bs (length out) (λ z. h (e ∙ z))) in
        let f = ne_eqb (take_refusal w bs (length out)) 0 (λ z. h (number ∙ z)) in
        (number, (rw f, rw f))

  -- the mark refuses, by the number k
  module _ (z : sector_refusal w (length bs) (length out) ≡ 0) (k : ℕ) (e : k ≡ mark_refusal w (sector_dsv w bs)) where
    number : k ≡ take_refusal w bs (length out)
    number = e ∙ sym (take_by_mark w bs (length out) z)

    pub mark_stays : (k ≡ 0 → ⊥) → (k ≡ take_refusal w bs (length out)) × ((w ≡ take_next w bs (length out)) × (out ≡ take_out w bs out))
    unfolding take_next take_out
    mark_stays h =
        let f = ne_eqb (take_refusal w bs (length out)) 0 (λ y. h (number ∙ y)) in
        (number, (rw f, rw f))

    pub take_done :
        k ≡ 0
        → (k ≡ take_refusal w bs (length out))
        × ((after_sector w bs ≡ take_next w bs (length out)) × (packed (sector_of (running_of w) bs).halves ≡ take_out w bs out))
    unfolding take_next take_out
    take_done y =
        let f = eq-eqb (take_refusal w bs (length out)) 0 (sym number ∙ y) in
        (number, (rw f, rw f))

-- ---- the mark alone

-- a mark changes nothing that the single write looks at
marked_refusal : (w : Record) (d : ℤ) (from to : ℕ) → sector_refusal (marked_with w d) from to ≡ sector_refusal w from to
unfolding sector_refusal sound
marked_refusal w d from to = refl

-- ALONE: a trial changes nothing but the mark
pub trial_alone : (w : Record) (bs : List ℕ) (to : ℕ) → unmarked (trial_next w bs to) ≡ unmarked w
unfolding trial_next
trial_alone w bs to = by (eqb (sector_refusal w (length bs) to) 0)
  where
    by : (b : Bool) → unmarked (cond b (marked_with w (sector_dsv w bs)) w) ≡ unmarked w
    by true = refl
    by false = refl

-- so that the single write is refused after it with what it was before
trial_refusal : (w : Record) (bs : List ℕ) (to from to' : ℕ) → sector_refusal (trial_next w bs to) from to' ≡ sector_refusal w from to'
unfolding sector_refusal sound
trial_refusal w bs to from to' = ap (λ (v : Record). sector_refusal v from to') (trial_alone w bs to)

-- REPLACED: of two trials the second alone counts, where it is not refused
pub trial_replaces :
    (w : Record) (bs cs : List ℕ) (to to' : ℕ) → sector_refusal w (length cs) to' ≡ 0 → trial_next (trial_next w bs to) cs to' ≡ trial_next w cs to'
trial_replaces w bs cs to to' z =
    trial_marks (trial_next w bs to) cs to' (trial_refusal w bs to (length cs) to' ∙ z)
    ∙ ap (λ (v : Record). marked_with v (sector_dsv v cs)) (trial_alone w bs to)
    ∙ sym (trial_marks w cs to' z)

-- ---- a trial and then a take of the same bytes

module _ (w : Record) (bs : List ℕ) (to : ℕ) where
  -- PASSES: what a trial lets pass, the take does not refuse
  pub trial_passes : sector_refusal w (length bs) to ≡ 0 → take_refusal (trial_next w bs to) bs to ≡ 0
  trial_passes z =
      let d = sector_dsv w bs in
      ap (λ (v : Record). take_refusal v bs to) (trial_marks w bs to z)
      ∙ take_by_mark (marked_with w d) bs to (marked_refusal w d (length bs) to ∙ z)
      ∙ ap (λ (b : Bool). cond b 0 13) (same_itself d)

  -- the take is refused with what the trial was
  take-number : take_refusal (trial_next w bs to) bs to ≡ refusal w bs to
  take-number = by (eqb (refusal w bs to) 0) refl
    where
      by : (b : Bool) → eqb (refusal w bs to) 0 ≡ b → take_refusal (trial_next w bs to) bs to ≡ refusal w bs to
      by true e = let z = eqb-true (refusal w bs to) 0 e in trial_passes z ∙ sym z
      by false e =
          let h = eqb-false (refusal w bs to) 0 e in
          ap (λ (v : Record). take_refusal v bs to) (trial_left w bs to h) ∙ take_refused w bs to h

  -- and leaves the record that the single write leaves: what is written does not depend on the mark
  tried_next :
      let t = trial_next w bs to in
      cond (eqb (refusal w bs to) 0) (after_sector t bs) t ≡ cond (eqb (refusal w bs to) 0) (after_sector w bs) w
  unfolding trial_next
  tried_next = by (eqb (refusal w bs to) 0)
    where
      by : (b : Bool) → let t = cond b (marked_with w (sector_dsv w bs)) w in cond b (after_sector t bs) t ≡ cond b (after_sector w bs) w
      by true = refl
      by false = refl

  take_next_lem : take_next (trial_next w bs to) bs to ≡ sector_next w bs to
  unfolding take_next sector_next
  take_next_lem = ap (λ (n : ℕ). cond (eqb n 0) (after_sector (trial_next w bs to) bs) (trial_next w bs to)) take-number ∙ tried_next

  -- TELLS: the DSV that a trial gives is the one that the record has after the take
  pub trial_tells : sector_refusal w (length bs) to ≡ 0 → (trial_next w bs to).mark ≡ (take_next (trial_next w bs to) bs to).dsv
  trial_tells z = ap (λ (v : Record). v.mark) (trial_marks w bs to z) ∙ ap (λ (v : Record). v.dsv) (sym (take_next_lem ∙ sector_after_lem w bs to z))

take_out_lem : (w : Record) (bs out : List ℕ) → take_out (trial_next w bs (length out)) bs out ≡ sector_out w bs out
unfolding take_out sector_out
take_out_lem w bs out =
    let laid = ap (λ (v : Record). packed (sector_of (running_of v) bs).halves) (trial_alone w bs (length out)) in
    ap₂ (λ (n : ℕ) (xs : List ℕ). cond (eqb n 0) xs out) (take-number w bs (length out)) laid

-- the number of the first of the two that is refused is the trial's
both_number : (w : Record) (bs out : List ℕ) → takes.number w bs out ≡ writes.number w bs out
both_number w bs out =
    let no = sector_refusal w (length bs) (length out) in
    ap (λ (n : ℕ). cond (eqb no 0) n no) (take-number w bs (length out)) ∙ same (eqb no 0) no
  where
    same : (b : Bool) (n : ℕ) → cond b n n ≡ n
    same true n = refl
    same false n = refl

abbrev Three : Type 0 → Type 0
Three A = Record → List ℕ → List ℕ → A

three : {A : Type 0} (f g : Three A) → ((w : Record) (bs out : List ℕ) → f w bs out ≡ g w bs out) → f ≡ g
three f g h = fun_ext (λ w. fun_ext (λ bs. fun_ext (λ out. h w bs out)))

-- TOGETHER: a trial and then a take of the same bytes are the single write, from every record and with every buffer
pub trial_and_take : takes ≡ writes
trial_and_take =
    ap (λ (n : Three ℕ). record { number = n; bytes = takes.bytes; next = takes.next }) (three takes.number writes.number both_number)
    ∙ ap₂ (λ (b : Three (List ℕ)) (r : Three Record). record { number = writes.number; bytes = b; next = r })
    (three takes.bytes writes.bytes (λ w bs out. take_out_lem w bs out))
    (three takes.next writes.next (λ w bs out. take_next_lem w bs (length out)))

-- LISTS: so every list of sectors, from every record and whatever the buffers hold: the same stream and the same record
pub sectors_taken : (w : Record) (bs : List ℕ) (outs : ℕ → List ℕ) (n : ℕ) → sector_calls takes w bs outs n ≡ sector_calls writes w bs outs n
sectors_taken w bs outs n = ap (λ (way : Way). sector_calls way w bs outs n) trial_and_take
