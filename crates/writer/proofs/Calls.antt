-- Laws of single calls, each over any record that the writer hands back:
--   never_nine                                           it is never refused with 9
--   trial_peak, take_peak_never_falls, closing_peak      its peak never falls; a trial and closing leave it
--   sector_free, closing_free, sector_next_lem               where a call is not refused, and what it leaves then
--   running_record, record_running                       the running record of a record, and back
-- Assumes nothing.
use mathlib.Core.Path.{◌≡◌, refl, sym, ap, ap₂, subst, ◌∙◌}
use mathlib.Core.Bool.{Bool, true, false, not, cond, ◌&&◌}
use mathlib.Core.List.{List}
use Prim.Native.Nat.{ℕ, ◌+◌, ◌*◌, ◌≤◌}
use native.Mathlib.Nat.{le-max_left}
use native.Mathlib.Omega.{arith}
use borrow.Author.Tests.{eq-eqb, eqb-true}
use lib.Dec.{T, eqb}
use lib.IntN.{ℤ, pos}
use lib.ListN.{length}
use Rattle.lists.specs.Bytes.{Bytes}
use Rattle.lists.specs.Count.{bit}
use Rattle.lists.proofs.Test.{truth}
use Rattle.annexg.specs.Read.{State}
use Rattle.octets.specs.Halves.{packed}
use Rattle.layout.specs.Lengths.{block_size, sector_bits, sector_count, sector_frames, sector_size, sector_stream, sectors_stream, closing_size}
use Rattle.levels.specs.declared.Running.{Running}
use Rattle.streams.specs.Frames.{sector_of, closing_of}
use Rattle.streams.proofs.Closing.{closing_state}
use Rattle.streams.proofs.Peak.{peak_limit, end_below}
use Rattle.streams.proofs.Range.{sector_near, sector_state, closing_near}
use Rattle.writer.specs.Answers.{closes, sound, ended, sector_refusal, sector_next, sector_out, sector_dsv, trial_next, same_dsv, take_refusal, take_next}
use Rattle.writer.specs.Answers.{block_refusal, sectors_refusal, closing_refusal, closing_next}
use Rattle.writer.specs.Records.{start, unmarked, running_of, record_of, after_sector, after_closing}
use Rattle.writer.specs.Session.{Handed, at_start, after_trial, after_take, after_closing_lem}
use Rattle.writer.specs.declared.Record.{Record}
use Rattle.writer.proofs.Signed.{offset-signed, signed-offset, abs_signed, abs_offset}
use Rattle.writer.proofs.Sound.{Sound, sound-unmarked, is-sound, near, sound-room, sector_by, closing_by, Open, open_not-ended, OpenSector, sector_opens, OpenEnd, closing_opens}
use Rattle.writer.proofs.Takes.{trial_alone, take_opens}

-- ---- the record stays in range

open_closed : false ≡ true → ⊥
open_closed e = subst (λ (b : Bool). T (not b)) e tt

open_bit : (c : Bool) → c ≡ false → bit c ≡ 0
open_bit c e = ap bit e

pub sector_sound :
    (w : Record) (bs : List ℕ) (to : ℕ) → OpenSector w (length bs) to → Bytes bs → Sound (after_sector w bs)
sector_sound w bs to o hb =
    let s = o.opened.is in
    let r = (sector_of (running_of w) bs).running in
    let room = sound-room w s sector_bits (omega arith) in
    let n = sector_near (running_of w) bs room in
    let a = abs_offset w.dsv (near w s) in
    let b = open_bit w.closed o.opened.open_yet in
    record {
      state = sector_state (running_of w) bs o.from_is hb s.state;
      level = n.level;
      sectors = omega (arith, o.opened.more);
      whole = λ c. absurd (open_closed (sym o.opened.open_yet ∙ c));
      dsv =
          subst (λ (z : ℕ). z ≤ sector_bits * (w.sectors + 1) + 32 * bit w.closed) (sym (abs_signed r.dsv))
          (omega (arith, s.dsv, n.up, n.down, a, b));
      above = omega (arith, abs_signed r.dsv, end_below (running_of w) bs o.from_is);
      peak = omega (arith, s.peak, s.above, a, b, peak_limit (running_of w) (sector_of (running_of w) bs).halves sector_frames room);
    }

pub closing_sound : (w : Record) (to : ℕ) → OpenEnd w to → Sound (after_closing w)
closing_sound w to o =
    let s = o.is in
    let r = (closing_of (running_of w)).running in
    let n = closing_near (running_of w) (sound-room w s 32 (omega arith)) in
    let a = abs_offset w.dsv (near w s) in
    let b = open_bit w.closed o.open_yet in
    record {
      state = subst State (sym (closing_state (running_of w))) (record { low = omega arith; high = omega arith });
      level = n.level;
      sectors = s.sectors;
      whole = λ c. o.full;
      dsv =
          subst (λ (z : ℕ). z ≤ sector_bits * w.sectors + 32) (sym (abs_signed r.dsv))
          (omega (arith, s.dsv, n.up, n.down, a, b));
      above = subst (λ (z : ℕ). z ≤ w.peak + 32) (sym (abs_signed r.dsv)) (omega (arith, s.above, n.up, n.down, a, b));
      peak = s.peak;
    }

pub start_sound : Sound start
start_sound =
    record {
      state = record { low = omega arith; high = omega arith };
      level = omega arith;
      sectors = omega arith;
      whole = λ c. absurd (open_closed c);
      dsv = omega arith;
      above = omega arith;
      peak = omega arith;
    }

trial_keeps : (w : Record) (bs : List ℕ) (to : ℕ) → Sound w → Sound (trial_next w bs to)
trial_keeps w bs to s = sound-unmarked s (sym (trial_alone w bs to))

take_keeps : (w : Record) (bs : List ℕ) (to : ℕ) → Bytes bs → Sound w → Sound (take_next w bs to)
unfolding take_next
take_keeps w bs to hb s = by (eqb (take_refusal w bs to) 0) refl
  where
    by : (x : Bool) → eqb (take_refusal w bs to) 0 ≡ x → Sound (cond x (after_sector w bs) w)
    by true e = sector_sound w bs to (sector_opens w (length bs) to (take_opens w bs to (eqb-true (take_refusal w bs to) 0 e))) hb
    by false e = s

closing_keeps : (w : Record) (to : ℕ) → Sound w → Sound (closing_next w to)
unfolding closing_next
closing_keeps w to s = by (eqb (closing_refusal w to) 0) refl
  where
    by : (x : Bool) → eqb (closing_refusal w to) 0 ≡ x → Sound (cond x (after_closing w) w)
    by true e = closing_sound w to (closing_opens w to (eqb-true (closing_refusal w to) 0 e))
    by false e = s

handed_sound : (w : Record) → Handed w → Sound w
handed_sound w at_start = start_sound
handed_sound w (after_trial v bs to h) = trial_keeps v bs to (handed_sound v h)
handed_sound w (after_take v bs to hb h) = take_keeps v bs to hb (handed_sound v h)
handed_sound w (after_closing_lem v to h) = closing_keeps v to (handed_sound v h)

sector_nine : (a c d : Bool) → T c → ◌≡◌ {A = ℕ} (cond a (cond c (cond d 7 0) 9) 1) 9 → ⊥
sector_nine false c d t e = omega arith
sector_nine true false d t e = absurd t
sector_nine true true true t e = omega arith
sector_nine true true false t e = omega arith

closing_nine : (a c d b : Bool) → T c → ◌≡◌ {A = ℕ} (cond a (cond c (cond d 7 (cond b 0 8)) 9) 1) 9 → ⊥
closing_nine false c d b t e = omega arith
closing_nine true false d b t e = absurd t
closing_nine true true true b t e = omega arith
closing_nine true true false true t e = omega arith
closing_nine true true false false t e = omega arith

take_nine : (m d : Bool) (n : ℕ) → (n ≡ 9 → ⊥) → (b : Bool) → cond b (cond m (cond d 0 13) 12) n ≡ 9 → ⊥
take_nine m d n h false e = h e
take_nine false d n h true e = omega arith
take_nine true false n h true e = omega arith
take_nine true true n h true e = omega arith

-- no call refuses the record with 9, whatever else it is lent
pub record NeverNine (w : Record) : Type 0 where
  pub trial : (from to : ℕ) → sector_refusal w from to ≡ 9 → ⊥
  pub take : (bs : List ℕ) (to : ℕ) → take_refusal w bs to ≡ 9 → ⊥
  pub sectors : (from to : ℕ) → sectors_refusal w from to ≡ 9 → ⊥
  pub closing : (to : ℕ) → closing_refusal w to ≡ 9 → ⊥

-- RANGE: a record that the writer hands back is never refused with 9
pub never_nine : (w : Record) → Handed w → NeverNine w
unfolding sector_refusal take_refusal sectors_refusal block_refusal closing_refusal
never_nine w h =
    let t = is-sound w (handed_sound w h) in
    let trial : (from to : ℕ) → sector_refusal w from to ≡ 9 → ⊥ =
    λ from to. sector_nine (eqb from sector_size && eqb to sector_stream) (sound w) (ended w 1) t in
    record {
      trial = trial;
      take =
          λ bs to.
          let no = sector_refusal w (length bs) to in
          take_nine w.marked (same_dsv w.mark (sector_dsv w bs)) no (trial (length bs) to) (eqb no 0);
      sectors = λ from to. sector_nine (eqb from block_size && eqb to sectors_stream) (sound w) (ended w sector_count) t;
      closing = λ to. closing_nine (eqb to closing_size) (sound w) w.closed (closes w.sectors) t;
    }

-- ---- the peak

-- NEVER FALLS: whatever the call, and whether it is refused. A trial leaves it,
pub trial_peak : (w : Record) (bs : List ℕ) (to : ℕ) → (trial_next w bs to).peak ≡ w.peak
trial_peak w bs to = ap (λ (v : Record). v.peak) (trial_alone w bs to)

-- a take never lets it fall,
pub take_peak_never_falls : (w : Record) (bs : List ℕ) (to : ℕ) → w.peak ≤ (take_next w bs to).peak
unfolding take_next
take_peak_never_falls w bs to = by (eqb (take_refusal w bs to) 0)
  where
    by : (x : Bool) → w.peak ≤ (cond x (after_sector w bs) w).peak
    by true = le-max_left w.peak _
    by false = omega arith

-- and closing leaves it
pub closing_peak : (w : Record) (to : ℕ) → (closing_next w to).peak ≡ w.peak
unfolding closing_next
closing_peak w to = by (eqb (closing_refusal w to) 0)
  where
    by : (x : Bool) → (cond x (after_closing w) w).peak ≡ w.peak
    by true = refl
    by false = refl

-- ---- calls that are not refused

pub sector_free : (w : Record) (from to : ℕ) → Open w 1 → from ≡ sector_size → to ≡ sector_stream → sector_refusal w from to ≡ 0
sector_free w from to o f t =
    sym
    (sector_by w from to true true true false (eq-eqb from sector_size f) (eq-eqb to sector_stream t) (truth (sound w) (is-sound w o.is))
    (open_not-ended w 1 o))

pub closing_free : (w : Record) (to : ℕ) → Sound w → w.closed ≡ false → T (closes w.sectors) → to ≡ closing_size → closing_refusal w to ≡ 0
closing_free w to s c n t =
    sym
    (closing_by w to true true false true (eq-eqb to closing_size t) (truth (sound w) (is-sound w s)) c (truth (closes w.sectors) n))

pub sector_next_lem :
    (w : Record) (b out : List ℕ) → sector_refusal w (length b) (length out) ≡ 0
    → (after_sector w b ≡ sector_next w b (length out)) × (packed (sector_of (running_of w) b).halves ≡ sector_out w b out)
unfolding sector_next sector_out
sector_next_lem w b out z =
    let f = eq-eqb (sector_refusal w (length b) (length out)) 0 z in
    let stream = packed (sector_of (running_of w) b).halves in
    (ap (λ (x : Bool). cond x (after_sector w b) w) (sym f), ap (λ (x : Bool). cond x stream out) (sym f))

-- one record from another and back
pub running_record : (r : Running) (p n : ℕ) (c : Bool) → running_of (record_of r p n c) ≡ r
running_record r p n c = ap (λ (d : ℕ). record { state = r.state; level = r.level; dsv = d }) (offset-signed r.dsv)

pub record_running : (w : Record) (p n : ℕ) → Sound w → p ≡ w.peak → n ≡ w.sectors → unmarked w ≡ record_of (running_of w) p n w.closed
record_running w p n s ep en =
    ap (λ (d : ℤ). record { state = w.state; level = w.level; dsv = d; sectors = w.sectors; closed = w.closed; peak = w.peak; marked = false; mark = pos 0 })
    (sym (signed-offset w.dsv (near w s)))
    ∙ ap₂ (λ (q k : ℕ). record_of (running_of w) q k w.closed) (sym ep) (sym en)
