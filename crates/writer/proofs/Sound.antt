-- The refusals, case by case, and what is known of a record that is not refused.
-- Assumes nothing.
use mathlib.Core.Path.{◌≡◌, refl, sym, ap, ap₂, subst, ◌∙◌}
use mathlib.Core.Bool.{Bool, true, false, not, cond, ◌&&◌, ◌||◌}
use mathlib.Core.List.{List}
use mathlib.Core.Logic.{◌⊎◌, inl, inr}
use Prim.Native.Nat.{ℕ, ◌+◌, ◌-◌, ◌*◌, ◌<◌, ◌≤◌, max}
use native.Mathlib.Omega.{arith}
use borrow.Author.Tests.{eqb-true, leb-true, leb-false, le-leb, lt-leb, lt-ltb, le-ltb, ltb-true, ltb-false, eq-eqb, ne_eqb}
use lib.Dec.{T, eqb, ltb, leb, leb→le, le→leb}
use lib.IntN.{nat_abs}
use lib.ListN.{length}
use Rattle.lists.specs.Count.{bit}
use Rattle.lists.proofs.Count.{bit_le}
use Rattle.lists.proofs.Test.{truth, and_left, and_right, and_both, and_false, or_none}
use Rattle.annexg.specs.Read.{State}
use Rattle.annexg.specs.ZeroRuns.{inside}
use Rattle.octets.specs.Halves.{packed}
use Rattle.layout.specs.Lengths.{block_size, sector_bits, sector_count, sector_frames, sector_size, sector_stream, sectors_stream, closing_size, run_sectors}
use Rattle.levels.specs.Level.{zero_at}
use Rattle.levels.specs.Inner.{Room}
use Rattle.levels.specs.declared.Running.{Running}
use Rattle.streams.specs.Frames.{sector_of, closing_of}
use Rattle.streams.specs.Peak.{peak_of}
use Rattle.streams.proofs.Range.{sector_near, closing_near}
use Rattle.writer.specs.Answers.{closes, in_range, sound, ended, sector_refusal, block_refusal, sectors_refusal, closing_refusal, sector_next, sector_out, closing_next, closing_out}
use Rattle.writer.specs.Inner.{SectorBegins}
use Rattle.writer.specs.Records.{unmarked, running_of, record_of, after_sector, after_closing}
use Rattle.writer.specs.declared.Record.{Record}
use Rattle.writer.proofs.Signed.{abs_offset}

-- ---- the tests of the code, one after the other

-- the most that the absolute DSV of a record can be, by its sectors and by its peak
abbrev limit_of : Record → ℕ
limit_of w = sector_bits * w.sectors + 32 * bit w.closed

abbrev above_of : Record → ℕ
above_of w = w.peak + 32 * bit w.closed

-- what number 9 asks of DSV and peak, a clause each
abbrev dsv_in_range : Record → Bool
dsv_in_range w = leb (nat_abs w.dsv) (limit_of w)

abbrev dsv_below_peak : Record → Bool
dsv_below_peak w = leb (nat_abs w.dsv) (above_of w)

abbrev peak_in_range : Record → Bool
peak_in_range w = leb w.peak (sector_bits * w.sectors)

pub sound_by :
    (w : Record) (a b c d e f : Bool) → leb 1 w.state ≡ a → leb w.state 4 ≡ b → leb w.level 1 ≡ c
    → leb w.sectors run_sectors ≡ d → not w.closed || closes w.sectors ≡ e → in_range w ≡ f
    → (a && b) && (c && (d && (e && f))) ≡ sound w
unfolding sound
sound_by w a b c d e f p q r s t u = sym (ap₂ ◌&&◌ (ap₂ ◌&&◌ p q) (ap₂ ◌&&◌ r (ap₂ ◌&&◌ s (ap₂ ◌&&◌ t u))))

-- the first four hold
pub sound_rest :
    (w : Record) → 1 ≤ w.state → w.state ≤ 4 → w.level ≤ 1 → w.sectors ≤ run_sectors → (e f : Bool)
    → not w.closed || closes w.sectors ≡ e → in_range w ≡ f → e && f ≡ sound w
sound_rest w p q r s e f t u =
    sound_by w true true true true e f
    (le-leb 1 w.state p) (le-leb w.state 4 q) (le-leb w.level 1 r) (le-leb w.sectors run_sectors s) t u

-- one of the first four does not
pub unsound :
    (w : Record)
    → (w.state < 1)
    ⊎ ((1 ≤ w.state × 4 < w.state) ⊎ ((1 ≤ w.state × w.state ≤ 4 × 1 < w.level) ⊎ (1 ≤ w.state × w.state ≤ 4 × w.level ≤ 1 × run_sectors < w.sectors)))
    → false ≡ sound w
unsound w (inl p) = sound_by w false _ _ _ _ _ (lt-leb 1 w.state p) refl refl refl refl refl
unsound w (inr (inl h)) = sound_by w true false _ _ _ _ (le-leb 1 w.state h.0) (lt-leb w.state 4 h.1) refl refl refl refl
unsound w (inr (inr (inl h))) = sound_by w true true false _ _ _ (le-leb 1 w.state h.0) (le-leb w.state 4 h.1) (lt-leb w.level 1 h.2) refl refl refl
unsound w (inr (inr (inr h))) =
    sound_by w true true true false _ _ (le-leb 1 w.state h.0) (le-leb w.state 4 h.1) (le-leb w.level 1 h.2) (lt-leb w.sectors run_sectors h.3) refl refl

-- a peak over 38,688 times the sectors
pub peak_over : (w : Record) → sector_bits * w.sectors < w.peak → in_range w ≡ false
peak_over w h =
    ap (λ (x : Bool). dsv_in_range w && (dsv_below_peak w && x)) (lt-leb w.peak (sector_bits * w.sectors) h)
    ∙ ap (λ (x : Bool). dsv_in_range w && x) (and_false (dsv_below_peak w))
    ∙ and_false (dsv_in_range w)

-- a DSV beyond 2^40 is beyond every limit
pub too_far : (w : Record) → w.sectors ≤ run_sectors → leb (nat_abs w.dsv) zero_at ≡ false → in_range w ≡ false
too_far w h e =
    let far = lt-leb (nat_abs w.dsv) (limit_of w) (omega (arith, leb-false (nat_abs w.dsv) zero_at e, bit_le w.closed)) in
    ap (λ (x : Bool). x && (dsv_below_peak w && peak_in_range w)) far

-- a DSV that is not above a peak in its range is in its own range
pub dsv_by_peak : (w : Record) → w.peak ≤ sector_bits * w.sectors → dsv_below_peak w ≡ in_range w
dsv_by_peak w h = by (dsv_below_peak w) refl
  where
    by : (x : Bool) → dsv_below_peak w ≡ x → x ≡ in_range w
    by true e =
        let dsv = le-leb (nat_abs w.dsv) (limit_of w) (omega (arith, leb-true (nat_abs w.dsv) (above_of w) e)) in
        sym (ap₂ ◌&&◌ dsv (ap₂ ◌&&◌ e (le-leb w.peak (sector_bits * w.sectors) h)))
    by false e = sym (ap (λ (x : Bool). dsv_in_range w && (x && peak_in_range w)) e ∙ and_false (dsv_in_range w))

pub sector_by :
    (w : Record) (from to : ℕ) (a b c d : Bool) → eqb from sector_size ≡ a → eqb to sector_stream ≡ b → sound w ≡ c → ended w 1 ≡ d
    → cond (a && b) (cond c (cond d 7 0) 9) 1 ≡ sector_refusal w from to
unfolding sector_refusal
sector_by w from to a b c d p q r s =
    sym
    (ap₂ (λ (x y : Bool). cond x (cond y (cond (ended w 1) 7 0) 9) 1) (ap₂ ◌&&◌ p q) r
    ∙ ap (λ (x : Bool). cond (a && b) (cond c (cond x 7 0) 9) 1) s)

pub closing_by :
    (w : Record) (to : ℕ) (a c d e : Bool) → eqb to closing_size ≡ a → sound w ≡ c → w.closed ≡ d
    → closes w.sectors ≡ e → cond a (cond c (cond d 7 (cond e 0 8)) 9) 1 ≡ closing_refusal w to
unfolding closing_refusal
closing_by w to a c d e p r s t =
    sym
    (ap₂ (λ (x y : Bool). cond x (cond y (cond w.closed 7 (cond (closes w.sectors) 0 8)) 9) 1) p r
    ∙ ap₂ (λ (x y : Bool). cond a (cond c (cond x 7 (cond y 0 8)) 9) 1) s t)

-- a length that is not right, and the state where both are
pub from_length : (w : Record) (from to : ℕ) → (from ≡ sector_size → ⊥) → 1 ≡ sector_refusal w from to
unfolding sector_refusal
from_length w from to h = rw (ne_eqb from sector_size h) refl

pub to_length : (w : Record) (from to : ℕ) → (to ≡ sector_stream → ⊥) → 1 ≡ sector_refusal w from to
unfolding sector_refusal
to_length w from to h = rw (ne_eqb to sector_stream h, and_false (eqb from sector_size)) refl

pub sector_by_state :
    (w : Record) (from to : ℕ) → from ≡ sector_size → to ≡ sector_stream → cond (sound w) (cond (ended w 1) 7 0) 9 ≡ sector_refusal w from to
sector_by_state w from to f t = sector_by w from to true true (sound w) (ended w 1) (eq-eqb from sector_size f) (eq-eqb to sector_stream t) refl refl

pub closing_length : (w : Record) (to : ℕ) → (to ≡ closing_size → ⊥) → 1 ≡ closing_refusal w to
unfolding closing_refusal
closing_length w to h = rw (ne_eqb to closing_size h) refl

-- the run's end, tested without a sum
pub more_ended : (n more : ℕ) → more ≤ run_sectors → ltb (run_sectors - more) n ≡ ltb run_sectors (n + more)
more_ended n more h = by (ltb (run_sectors - more) n) refl
  where
    by : (x : Bool) → ltb (run_sectors - more) n ≡ x → x ≡ ltb run_sectors (n + more)
    by true e = sym (lt-ltb run_sectors (n + more) (omega (arith, ltb-true (run_sectors - more) n e)))
    by false e = sym (le-ltb run_sectors (n + more) (omega (arith, ltb-false (run_sectors - more) n e)))

-- ---- a sound record, part by part

pub record Sound (w : Record) : Type 0 where
  pub state : State w.state
  pub level : w.level < 2
  pub sectors : w.sectors ≤ run_sectors
  pub whole : w.closed ≡ true → T (closes w.sectors)
  pub dsv : nat_abs w.dsv ≤ limit_of w
  pub above : nat_abs w.dsv ≤ above_of w
  pub peak : w.peak ≤ sector_bits * w.sectors

closed_with : (c x : Bool) → T (not c || x) → c ≡ true → T x
closed_with true x t e = t
closed_with false x t e = absurd (subst T (sym e) tt)

with_closed : (c x : Bool) → (c ≡ true → T x) → T (not c || x)
with_closed true x f = f refl
with_closed false x f = tt

module _ (w : Record) where
  b₁ : Bool
  b₁ = inside 1 4 w.state

  b₂ : Bool
  b₂ = leb w.level 1

  b₃ : Bool
  b₃ = leb w.sectors run_sectors

  b₄ : Bool
  b₄ = not w.closed || closes w.sectors

  b₅ : Bool
  b₅ = in_range w

  pub sound-is : T (sound w) → Sound w
  unfolding sound b₁ b₂ b₃ b₄ b₅
  sound-is t =
      let t₁ = and_left b₁ (b₂ && (b₃ && (b₄ && b₅))) t in
      let u₁ = and_right b₁ (b₂ && (b₃ && (b₄ && b₅))) t in
      let u₂ = and_right b₂ (b₃ && (b₄ && b₅)) u₁ in
      let u₃ = and_right b₃ (b₄ && b₅) u₂ in
      let range = and_right b₄ b₅ u₃ in
      let by-peak = and_right (dsv_in_range w) (dsv_below_peak w && peak_in_range w) range in
      record {
        state =
            record {
              low = leb→le 1 w.state (and_left (leb 1 w.state) (leb w.state 4) t₁);
              high = leb→le w.state 4 (and_right (leb 1 w.state) (leb w.state 4) t₁);
            };
        level = omega (arith, leb→le w.level 1 (and_left b₂ (b₃ && (b₄ && b₅)) u₁));
        sectors = leb→le w.sectors run_sectors (and_left b₃ (b₄ && b₅) u₂);
        whole = closed_with w.closed (closes w.sectors) (and_left b₄ b₅ u₃);
        dsv = leb→le (nat_abs w.dsv) (limit_of w) (and_left (dsv_in_range w) (dsv_below_peak w && peak_in_range w) range);
        above = leb→le (nat_abs w.dsv) (above_of w) (and_left (dsv_below_peak w) (peak_in_range w) by-peak);
        peak = leb→le w.peak (sector_bits * w.sectors) (and_right (dsv_below_peak w) (peak_in_range w) by-peak);
      }

  pub is-sound : Sound w → T (sound w)
  unfolding sound b₁ b₂ b₃ b₄ b₅
  is-sound s =
      let low = le→leb 1 w.state s.state.low in
      let high = le→leb w.state 4 s.state.high in
      let above = le→leb (nat_abs w.dsv) (above_of w) s.above in
      let peak = le→leb w.peak (sector_bits * w.sectors) s.peak in
      let by-peak = and_both (dsv_below_peak w) (peak_in_range w) above peak in
      and_both b₁ (b₂ && (b₃ && (b₄ && b₅))) (and_both (leb 1 w.state) (leb w.state 4) low high)
      (and_both b₂ (b₃ && (b₄ && b₅)) (le→leb w.level 1 (omega (arith, s.level)))
      (and_both b₃ (b₄ && b₅) (le→leb w.sectors run_sectors s.sectors)
      (and_both b₄ b₅ (with_closed w.closed (closes w.sectors) s.whole)
      (and_both (dsv_in_range w) (dsv_below_peak w && peak_in_range w) (le→leb (nat_abs w.dsv) (limit_of w) s.dsv) by-peak))))

  module _ (s : Sound w) where
    pub near : nat_abs w.dsv ≤ zero_at
    near = omega (arith, s.dsv, s.sectors, bit_le w.closed)

    -- the DSV inside lies 38,688 off either end
    pub sound-room : (n : ℕ) → n ≤ sector_bits → Room (running_of w) n
    sound-room n h =
        let a = abs_offset w.dsv near in
        record {
          level = s.level;
          low = omega (arith, a, s.dsv, s.sectors, bit_le w.closed);
          high = omega (arith, a, s.dsv, s.sectors, bit_le w.closed);
        }

-- what is sound is sound with another mark
pub sound-unmarked : {w v : Record} → Sound w → unmarked w ≡ unmarked v → Sound v
unfolding sound
sound-unmarked {w} {v} s e = sound-is v (subst (λ (x : Record). T (sound x)) e (is-sound w s))

-- ---- nothing is refused

-- a sound record with room for n sectors more
pub record Open (w : Record) (n : ℕ) : Type 0 where
  pub is : Sound w
  pub open_yet : w.closed ≡ false
  pub more : w.sectors + n ≤ run_sectors

open_by : (w : Record) (n : ℕ) → sound w ≡ true → ended w n ≡ false → Open w n
open_by w n s e =
    let parts = or_none w.closed (ltb run_sectors (w.sectors + n)) e in
    record { is = sound-is w (subst T (sym s) tt); open_yet = parts.0; more = ltb-false run_sectors (w.sectors + n) parts.1 }

pub open_not-ended : (w : Record) (n : ℕ) → Open w n → ended w n ≡ false
open_not-ended w n o = ap₂ ◌||◌ o.open_yet (le-ltb run_sectors (w.sectors + n) o.more)

pub record OpenSector (w : Record) (from to : ℕ) : Type 0 where
  pub from_is : from ≡ sector_size
  pub to_is : to ≡ sector_stream
  pub opened : Open w 1

pub sector_opens : (w : Record) (from to : ℕ) → sector_refusal w from to ≡ 0 → OpenSector w from to
sector_opens w from to z =
    by (eqb from sector_size) (eqb to sector_stream) (sound w) (ended w 1) refl refl refl refl (sector_by w from to _ _ _ _ refl refl refl refl ∙ z)
  where
    by :
        (a b c d : Bool) → eqb from sector_size ≡ a → eqb to sector_stream ≡ b → sound w ≡ c → ended w 1 ≡ d
        → ◌≡◌ {A = ℕ} (cond (a && b) (cond c (cond d 7 0) 9) 1) 0 → OpenSector w from to
    by false b c d p q r s z = absurd (omega arith)
    by true false c d p q r s z = absurd (omega arith)
    by true true false d p q r s z = absurd (omega arith)
    by true true true true p q r s z = absurd (omega arith)
    by true true true false p q r s z = record { from_is = eqb-true from sector_size p; to_is = eqb-true to sector_stream q; opened = open_by w 1 r s }

-- sixteen sectors that are not refused because of the record
pub block_opens : (w : Record) → block_refusal w ≡ 0 → Open w sector_count
unfolding block_refusal
block_opens w z = by (sound w) (ended w sector_count) refl refl z
  where
    by : (c d : Bool) → sound w ≡ c → ended w sector_count ≡ d → ◌≡◌ {A = ℕ} (cond c (cond d 7 0) 9) 0 → Open w sector_count
    by false d r s z = absurd (omega arith)
    by true true r s z = absurd (omega arith)
    by true false r s z = open_by w sector_count r s

-- the lengths and the record of the sixteen sectors of a block
pub record OpenBlock (w : Record) (from to : ℕ) : Type 0 where
  pub from_is : from ≡ block_size
  pub to_is : to ≡ sectors_stream
  pub opened : Open w sector_count

pub sectors_open : (w : Record) (from to : ℕ) → sectors_refusal w from to ≡ 0 → OpenBlock w from to
unfolding sectors_refusal
sectors_open w from to z = by (eqb from block_size) (eqb to sectors_stream) refl refl z
  where
    by :
        (a b : Bool) → eqb from block_size ≡ a → eqb to sectors_stream ≡ b → cond (a && b) (block_refusal w) 1 ≡ 0 → OpenBlock w from to
    by false b p q z = absurd (omega arith)
    by true false p q z = absurd (omega arith)
    by true true p q z = record { from_is = eqb-true from block_size p; to_is = eqb-true to sectors_stream q; opened = block_opens w z }

pub sectors_length : (w : Record) (from to : ℕ) → (from ≡ block_size → ⊥) ⊎ ((from ≡ block_size) × (to ≡ sectors_stream → ⊥)) → 1 ≡ sectors_refusal w from to
unfolding sectors_refusal
sectors_length w from to (inl h) = rw (ne_eqb from block_size h) refl
sectors_length w from to (inr h) = rw (ne_eqb to sectors_stream h.1, and_false (eqb from block_size)) refl

pub sectors_by :
    (w : Record) (from to : ℕ) (a b : Bool) → eqb from block_size ≡ a → eqb to sectors_stream ≡ b → cond (a && b) (block_refusal w) 1 ≡ sectors_refusal w from to
unfolding sectors_refusal
sectors_by w from to a b p q = sym (ap (λ (x : Bool). cond x (block_refusal w) 1) (ap₂ ◌&&◌ p q))

pub open_taken : (w : Record) → Open w sector_count → block_refusal w ≡ 0
unfolding block_refusal
open_taken w o =
    ap₂ (λ (s e : Bool). cond s (cond e 7 0) 9) (truth (sound w) (is-sound w o.is)) (open_not-ended w sector_count o)

pub record OpenEnd (w : Record) (to : ℕ) : Type 0 where
  pub to_is : to ≡ closing_size
  pub is : Sound w
  pub open_yet : w.closed ≡ false
  pub full : T (closes w.sectors)

pub closing_opens : (w : Record) (to : ℕ) → closing_refusal w to ≡ 0 → OpenEnd w to
closing_opens w to z =
    by (eqb to closing_size) (sound w) w.closed (closes w.sectors) refl refl refl refl
    (closing_by w to _ _ _ _ refl refl refl refl ∙ z)
  where
    by :
        (a c d e : Bool) → eqb to closing_size ≡ a → sound w ≡ c → w.closed ≡ d → closes w.sectors ≡ e
        → ◌≡◌ {A = ℕ} (cond a (cond c (cond d 7 (cond e 0 8)) 9) 1) 0 → OpenEnd w to
    by false c d e p r s t z = absurd (omega arith)
    by true false d e p r s t z = absurd (omega arith)
    by true true true e p r s t z = absurd (omega arith)
    by true true false false p r s t z = absurd (omega arith)
    by true true false true p r s t z =
        record { to_is = eqb-true to closing_size p; is = sound-is w (subst T (sym r) tt); open_yet = s; full = subst T (sym t) tt }

pub sector_begins :
    (w : Record) (from to : ℕ) → OpenSector w from to → SectorBegins (running_of w)
sector_begins w from to o =
    record {
      state = o.opened.is.state;
      room = sound-room w o.opened.is sector_bits (omega arith);
    }

-- ---- record and buffer at exit, by the number

module _ (w : Record) (bs out : List ℕ) (no : ℕ) (e : no ≡ sector_refusal w (length bs) (length out)) where
  pub sector_refused : (no ≡ 0 → ⊥) → (w ≡ sector_next w bs (length out)) × (out ≡ sector_out w bs out)
  unfolding sector_next sector_out
  sector_refused z =
      let f : eqb (sector_refusal w (length bs) (length out)) 0 ≡ false = ne_eqb _ 0 (λ k. z (e ∙ k)) in
      let stream = packed (sector_of (running_of w) bs).halves in (
        sym (ap (λ (b : Bool). cond b (after_sector w bs) w) f),
        sym (ap (λ (b : Bool). cond b stream out) f),
      )

  pub sector_done :
      no ≡ 0 → (r : Running) → r ≡ running_of w → (q : Running) (p : ℕ) (y : List ℕ)
      → (q ≡ (sector_of r bs).running) × ((p ≡ max w.peak (peak_of r (sector_of r bs).halves sector_frames)) × (y ≡ packed (sector_of r bs).halves))
      → (record_of q p (w.sectors + 1) w.closed ≡ sector_next w bs (length out)) × (y ≡ sector_out w bs out)
  unfolding sector_next sector_out
  sector_done z r re q p y h =
      let f : eqb (sector_refusal w (length bs) (length out)) 0 ≡ true = eq-eqb _ 0 (sym e ∙ z) in
      let stream = packed (sector_of (running_of w) bs).halves in
      let running = h.0 ∙ ap (λ (v : Running). (sector_of v bs).running) re in
      let peak = h.1.0 ∙ ap (λ (v : Running). max w.peak (peak_of v (sector_of v bs).halves sector_frames)) re in (
        ap₂ (λ (v : Running) (k : ℕ). record_of v k (w.sectors + 1) w.closed) running peak
            ∙ sym (ap (λ (b : Bool). cond b (after_sector w bs) w) f),
        h.1.1 ∙ ap (λ (v : Running). packed (sector_of v bs).halves) re ∙ sym (ap (λ (b : Bool). cond b stream out) f),
      )

module _ (w : Record) (out : List ℕ) (no : ℕ) (e : no ≡ closing_refusal w (length out)) where
  pub closing_refused : (no ≡ 0 → ⊥) → (w ≡ closing_next w (length out)) × (out ≡ closing_out w out)
  unfolding closing_next closing_out
  closing_refused z =
      let f : eqb (closing_refusal w (length out)) 0 ≡ false = ne_eqb _ 0 (λ k. z (e ∙ k)) in
      let stream = packed (closing_of (running_of w)).halves in (
        sym (ap (λ (b : Bool). cond b (after_closing w) w) f),
        sym (ap (λ (b : Bool). cond b stream out) f),
      )

  pub closing_done :
      no ≡ 0 → (r : Running) → r ≡ running_of w → (q : Running) (y : List ℕ)
      → (q ≡ (closing_of r).running) × (y ≡ packed (closing_of r).halves)
      → (record_of q w.peak w.sectors true ≡ closing_next w (length out)) × (y ≡ closing_out w out)
  unfolding closing_next closing_out
  closing_done z r re q y h =
      let f : eqb (closing_refusal w (length out)) 0 ≡ true = eq-eqb _ 0 (sym e ∙ z) in
      let stream = packed (closing_of (running_of w)).halves in
      let running = h.0 ∙ ap (λ (v : Running). (closing_of v).running) re in (
        ap (λ (v : Running). record_of v w.peak w.sectors true) running
            ∙ sym (ap (λ (b : Bool). cond b (after_closing w) w) f),
        h.1 ∙ ap (λ (v : Running). packed (closing_of v).halves) re ∙ sym (ap (λ (b : Bool). cond b stream out) f),
      )

-- ---- the DSV after a sector and after the closing code

pub sector_small :
    (w : Record) (bs : List ℕ) (q : Running) → Sound w → q ≡ (sector_of (running_of w) bs).running → q.dsv ≤ 2 * zero_at
sector_small w bs q s e =
    let n = sector_near (running_of w) bs (sound-room w s sector_bits (omega arith)) in
    subst (λ (z : Running). z.dsv ≤ 2 * zero_at) (sym e)
    (omega (arith, n.up, abs_offset w.dsv (near w s), s.dsv, s.sectors, bit_le w.closed))

pub closing_small : (w : Record) (q : Running) → Sound w → q ≡ (closing_of (running_of w)).running → q.dsv ≤ 2 * zero_at
closing_small w q s e =
    let n = closing_near (running_of w) (sound-room w s 32 (omega arith)) in
    subst (λ (z : Running). z.dsv ≤ 2 * zero_at) (sym e)
    (omega (arith, n.up, abs_offset w.dsv (near w s), s.dsv, s.sectors, bit_le w.closed))
