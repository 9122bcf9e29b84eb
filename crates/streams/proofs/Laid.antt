-- What the two-stream rule lays is the stream of permitted choices.
-- Assumes nothing.
use mathlib.Core.Path.{◌≡◌, refl, sym, ap, ap₂, subst, ◌∙◌}
use mathlib.Core.Bool.{Bool, true, false, not, cond, ◌&&◌, ◌||◌}
use mathlib.Core.List.{List, [], ◌∷◌, ◌++◌, map, append_assoc, append-nil}
use Prim.Native.Nat.{ℕ, zero, suc, ◌≤◌, ◌<◌}
use native.Mathlib.Omega.{arith}
use borrow.Author.Tests.{ne_eqb, ltb-true, ltb-false, lt-ltb, le-ltb}
use lib.Dec.{T, eqb, ltb, leb}
use Rattle.lists.proofs.Test.{and_left, and_right}
use Rattle.annexg.specs.Read.{word_of}
use Rattle.annexg.specs.ZeroRuns.{inside}
use Rattle.annexg.specs.Sync.{sync_end, code_for}
use Rattle.channel.specs.Bits.{bits_all}
use Rattle.channel.specs.Channel.{Item, sync, byte, next_for, last_for, join_zeros, swaps, allowed, permitted, stream, state_after, last_after}
use Rattle.levels.specs.Level.{level_after, dsv_after, running_after}
use Rattle.levels.specs.declared.Running.{Running}
use Rattle.channel.proofs.Joined.{stream-append, permitted-append}
use Rattle.levels.proofs.Steps.{running-append}
use Rattle.streams.specs.Frames.{joined}
use Rattle.streams.specs.Inner.{extended, laid_by, Laid}
use Rattle.streams.specs.Streams.{Stream, fresh, lay, lay_all, Two, one_lower, lower, opened, swap_possible, swap_in, swap_made, copied, kept, step, steps, frame_items, other_first, other_code, changes, ended, sync_frame_of}

state-append :
    (s l : ℕ) (is js : List Item) (cs ds : List Bool) → T (permitted s l is cs)
    → state_after s (is ++ js) (cs ++ ds) ≡ state_after (state_after s is cs) js ds
unfolding permitted state_after
state-append s l [] js [] ds p = refl
state-append s l [] js (c ∷ cs) ds p = absurd p
state-append s l (i ∷ is) js [] ds p = absurd p
state-append s l (i ∷ is) js (c ∷ cs) ds p =
    state-append (next_for s i c) (last_for s i c) is js cs ds (and_right (allowed s l i c) (permitted (next_for s i c) (last_for s i c) is cs) p)

last-append :
    (s l : ℕ) (is js : List Item) (cs ds : List Bool) → T (permitted s l is cs)
    → last_after s l (is ++ js) (cs ++ ds) ≡ last_after (state_after s is cs) (last_after s l is cs) js ds
unfolding permitted state_after last_after
last-append s l [] js [] ds p = refl
last-append s l [] js (c ∷ cs) ds p = absurd p
last-append s l (i ∷ is) js [] ds p = absurd p
last-append s l (i ∷ is) js (c ∷ cs) ds p =
    last-append (next_for s i c) (last_for s i c) is js cs ds (and_right (allowed s l i c) (permitted (next_for s i c) (last_for s i c) is cs) p)

pub made : {m k : Stream} → m.choices ≡ k.choices → m.halves ≡ k.halves → m.last ≡ k.last → m.running ≡ k.running → m ≡ k
made p q r s = λ i. record { choices = p i; halves = q i; last = r i; running = s i }

by_append :
    (a : Running) (is js : List Item) (cs ds : List Bool) → T (permitted a.state 0 is cs) → extended (laid_by a is cs) js ds ≡ laid_by a (is ++ js) (cs ++ ds)
unfolding laid_by extended
by_append a is js cs ds p =
    let s = a.state in
    let st = stream-append s 0 is js cs ds p in
    made refl (sym st) (sym (last-append s 0 is js cs ds p))
    (running-append a (state_after s is cs) (state_after (state_after s is cs) js ds) (stream s is cs) (stream (state_after s is cs) js ds)
    ∙ ap₂ (running_after a) (sym (state-append s 0 is js cs ds p)) (sym st))

pub laid_more : (a : Running) (is js : List Item) (m : Stream) (ds : List Bool) → Laid a is m → T (permitted m.running.state m.last js ds) → Laid a (is ++ js) (extended m js ds)
unfolding extended laid_by
laid_more a is js m ds h q =
    record {
      ok = permitted-append a.state 0 is js m.choices ds h.ok (subst (λ (x : Stream). T (permitted x.running.state x.last js ds)) h.same q);
      same = ap (λ (x : Stream). extended x js ds) h.same ∙ by_append a is js m.choices ds h.ok;
    }

lay_extends : (m : Stream) (i : Item) (c : Bool) → lay m i c ≡ extended m (i ∷ []) (c ∷ [])
unfolding lay extended stream state_after last_after
lay_extends m (sync n) c = refl
lay_extends m (byte b) c = refl

both_true : (a : Bool) → T a → T (a && true)
both_true true t = tt
both_true false t = t

pub laid_lay : (a : Running) (is : List Item) (m : Stream) (i : Item) (c : Bool) → Laid a is m → T (allowed m.running.state m.last i c) → Laid a (is ++ (i ∷ [])) (lay m i c)
laid_lay a is m i c h q =
    subst (λ (x : Stream). Laid a (is ++ (i ∷ [])) x) (sym (lay_extends m i c))
    (laid_more a is (i ∷ []) m (c ∷ []) h (unfold permitted in both_true (allowed m.running.state m.last i c) q))

pub laid_fresh : (a : Running) → Laid a [] (fresh a)
laid_fresh a = record { ok = unfold permitted in tt; same = unfold laid_by extended stream state_after last_after level_after dsv_after bits_all in refl }

-- the lower of two is one of them
pub lower_laid : (a : Running) (is : List Item) (t : Two) → Laid a is t.one → Laid a is t.two → Laid a is (lower t)
unfolding lower
lower_laid a is t h k = by (one_lower t)
  where
    by : (b : Bool) → Laid a is (cond b t.one t.two)
    by true = h
    by false = k

-- a swap over happens just when it is possible in the lower
pub swap_lower : (t : Two) (b : ℕ) → swap_made t b ≡ swap_in (lower t) b
unfolding swap_made lower
swap_lower t b = by (one_lower t) (swap_in t.one b) (swap_in t.two b) refl refl
  where
    by : (o x y : Bool) → swap_in t.one b ≡ x → swap_in t.two b ≡ y → (x && y) || cond x o (y && not o) ≡ swap_in (cond o t.one t.two) b
    by true true true p q = sym p
    by true true false p q = sym p
    by true false true p q = sym p
    by true false false p q = sym p
    by false true true p q = sym q
    by false true false p q = sym q
    by false false true p q = sym q
    by false false false p q = sym q

small_allowed : (s l b : ℕ) → ltb b 88 ≡ true → T (allowed s l (byte b) true)
small_allowed s l b e = rw e tt

no_swap : (s : ℕ) → T (swaps (suc (suc (suc (suc (suc s)))))) → ⊥
no_swap s h =
    let n = suc (suc (suc (suc (suc s)))) in
    rw (ne_eqb n 1 (λ e. omega arith), ne_eqb n 4 (λ e. omega arith)) at h

-- where a swap is possible both words are permitted, each as the choice that takes it
swap_allowed : (s l b : ℕ) → ltb b 88 ≡ false → T (swap_possible s l b) → T (allowed s l (byte b) (eqb s 4)) × T (allowed s l (byte b) (eqb s 1))
unfolding swap_possible
swap_allowed zero l b e h = absurd (and_right (leb 88 b) _ h)
swap_allowed (suc zero) l b e h = (tt, rw e (and_right (inside 2 10 (join_zeros l (word_of 0 b 0))) _ (and_right (leb 88 b) _ h)))
swap_allowed (suc (suc zero)) l b e h = absurd (and_right (leb 88 b) _ h)
swap_allowed (suc (suc (suc zero))) l b e h = absurd (and_right (leb 88 b) _ h)
swap_allowed (suc (suc (suc (suc zero)))) l b e h = (rw e (and_left (inside 2 10 (join_zeros l (word_of 0 b 0))) _ (and_right (leb 88 b) _ h)), tt)
swap_allowed (suc (suc (suc (suc (suc s))))) l b e h = absurd (no_swap s (and_left (swaps (suc (suc (suc (suc (suc s)))))) _ (and_right (leb 88 b) _ h)))

-- both streams are laid over the items
pub record Both (a : Running) (is : List Item) (t : Two) : Type 0 where
  pub first : Laid a is t.one
  pub second : Laid a is t.two

copied_laid :
    (a : Running) (is : List Item) (m : Stream) (b : ℕ) (c d : Bool) → Laid a is m → T (allowed m.running.state m.last (byte b) c) → T (allowed m.running.state m.last (byte b) d)
    → Both a (is ++ (byte b ∷ [])) (copied m b c d)
copied_laid a is m b c d h p q = record { first = laid_lay a is m (byte b) c h p; second = laid_lay a is m (byte b) d h q }

-- what a step does with each kind of byte
step_swap :
    (t : Two) (b : ℕ) → 88 ≤ b → swap_made t b ≡ true → step t b ≡ copied (lower t) b (eqb (lower t).running.state 4) (eqb (lower t).running.state 1)
unfolding step
step_swap t b h e = rw (le-ltb, e)

step_kept : (t : Two) (b : ℕ) → 88 ≤ b → swap_made t b ≡ false → step t b ≡ kept t b
unfolding step
step_kept t b h e = rw (le-ltb, e)

step_small : (t : Two) (b : ℕ) → b < 88 → step t b ≡ copied (lower t) b false true
unfolding step
step_small t b h = rw lt-ltb

pub step_laid : (a : Running) (is : List Item) (t : Two) (b : ℕ) → Both a is t → Both a (is ++ (byte b ∷ [])) (step t b)
step_laid a is t b h = by (ltb b 88) (swap_made t b) refl refl
  where
    m : Stream
    m = lower t

    low : Laid a is m
    low = lower_laid a is t h.first h.second

    by : (x y : Bool) → ltb b 88 ≡ x → swap_made t b ≡ y → Both a (is ++ (byte b ∷ [])) (step t b)
    by true y p q = rw (step_small t b (ltb-true b 88 p)) (copied_laid a is m b false true low tt (small_allowed m.running.state m.last b p))
    by false true p q =
        let both = swap_allowed m.running.state m.last b p (subst T (sym q ∙ swap_lower t b) tt) in
        rw (step_swap t b (ltb-false b 88 p) q) (copied_laid a is m b (eqb m.running.state 4) (eqb m.running.state 1) low both.0 both.1)
    by false false p q =
        rw (step_kept t b (ltb-false b 88 p) q)
        (record { first = laid_lay a is t.one (byte b) false h.first tt; second = laid_lay a is t.two (byte b) false h.second tt })

pub steps_laid : (a : Running) (is : List Item) (t : Two) (bs : List ℕ) → Both a is t → Both a (is ++ map byte bs) (steps t bs)
unfolding steps
steps_laid a is t [] h = rw (append-nil is) h
steps_laid a is t (b ∷ bs) h = rw (← append_assoc is (byte b ∷ []) (map byte bs)) (steps_laid a (is ++ (byte b ∷ [])) (step t b) bs (step_laid a is t b h))

pub opened_laid : (a : Running) (n : ℕ) → Both a (sync n ∷ []) (opened a n)
unfolding opened
opened_laid a n = record { first = laid_lay a [] (fresh a) (sync n) false (laid_fresh a) tt; second = laid_lay a [] (fresh a) (sync n) true (laid_fresh a) tt }

-- all the items of a list, laid by permitted choices
pub all_laid : (a : Running) (is : List Item) (m : Stream) (js : List Item) (ds : List Bool) → Laid a is m → T (permitted m.running.state m.last js ds) → Laid a (is ++ js) (lay_all m js ds)
unfolding lay_all permitted
all_laid a is m [] [] h p = rw (append-nil is) h
all_laid a is m [] (c ∷ ds) h p = absurd p
all_laid a is m (i ∷ js) [] h p = absurd p
all_laid a is m (i ∷ js) (c ∷ ds) h p =
    let s = m.running.state in
    rw (← append_assoc is (i ∷ []) js)
    (all_laid a (is ++ (i ∷ [])) (lay m i c) js ds (laid_lay a is m i c h (and_left (allowed s m.last i c) (permitted (next_for s i c) (last_for s i c) js ds) p))
    (then m i c js ds (and_right (allowed s m.last i c) (permitted (next_for s i c) (last_for s i c) js ds) p)))
  where
    then : (m : Stream) (i : Item) (c : Bool) (js : List Item) (ds : List Bool) → T (permitted (next_for m.running.state i c) (last_for m.running.state i c) js ds) → T (permitted (lay m i c).running.state (lay m i c).last js ds)
    then m i c js ds p = unfold lay in p

-- what is permitted after a SYNC Code is permitted after the other code of its number too, and whatever half came before it
sync_any : (s l l₂ n : ℕ) (is : List Item) (cs : List Bool) → T (permitted s l (sync n ∷ is) cs) → T (permitted s l₂ (sync n ∷ is) cs)
unfolding permitted
sync_any s l l₂ n is [] p = p
sync_any s l l₂ n is (c ∷ cs) p = p

pub other_permitted : (s n : ℕ) (is : List Item) (cs : List Bool) → T (permitted s 0 (sync n ∷ is) cs) → T (permitted s 0 (sync n ∷ is) (other_first cs))
unfolding permitted
other_permitted s n is [] p = p
other_permitted s n is (c ∷ cs) p = p

other_laid : (a : Running) (n : ℕ) (bs : List ℕ) (m : Stream) → Laid a (frame_items n bs) m → Laid a (frame_items n bs) (other_code a n bs m)
unfolding other_code
other_laid a n bs m h = all_laid a [] (fresh a) (frame_items n bs) (other_first m.choices) (laid_fresh a) (other_permitted a.state n (map byte bs) m.choices h.ok)

-- a frame
pub frame_laid : (a : Running) (n : ℕ) (bs : List ℕ) → Laid a (frame_items n bs) (sync_frame_of a n bs)
unfolding sync_frame_of ended
frame_laid a n bs = by (changes a n bs (lower (steps (opened a n) bs)))
  where
    low : Laid a (frame_items n bs) (lower (steps (opened a n) bs))
    low = let h = steps_laid a (sync n ∷ []) (opened a n) bs (opened_laid a n) in lower_laid a (frame_items n bs) (steps (opened a n) bs) h.first h.second

    by : (x : Bool) → Laid a (frame_items n bs) (cond x (other_code a n bs (lower (steps (opened a n) bs))) (lower (steps (opened a n) bs)))
    by true = other_laid a n bs (lower (steps (opened a n) bs)) low
    by false = low

-- ---- a frame's stream by its choices

-- items laid one by one are laid at once
all_choices : (m : Stream) (s l : ℕ) (is : List Item) (cs : List Bool) → T (permitted s l is cs) → (lay_all m is cs).choices ≡ m.choices ++ cs
unfolding lay_all permitted
all_choices m s l [] [] p = sym (append-nil m.choices)
all_choices m s l [] (c ∷ cs) p = absurd p
all_choices m s l (i ∷ is) [] p = absurd p
all_choices m s l (i ∷ is) (c ∷ cs) p =
    all_choices (lay m i c) (next_for s i c) (last_for s i c) is cs (and_right (allowed s l i c) (permitted (next_for s i c) (last_for s i c) is cs) p)
    ∙ unfold lay in append_assoc m.choices (c ∷ []) cs

pub all_by : (r : Running) (is : List Item) (cs : List Bool) → T (permitted r.state 0 is cs) → lay_all (fresh r) is cs ≡ laid_by r is cs
all_by r is cs p = (all_laid r [] (fresh r) is cs (laid_fresh r) p).same ∙ ap (laid_by r is) (all_choices (fresh r) r.state 0 is cs p)

-- the half words after the first
unfoldable pub rest : List ℕ → List Bool → List ℕ
rest bs ds = sync_end ∷ stream 1 (map byte bs) ds

pub laid_halves : (r : Running) (n : ℕ) (bs : List ℕ) (c : Bool) (ds : List Bool) → (laid_by r (frame_items n bs) (c ∷ ds)).halves ≡ code_for r.state n c ∷ rest bs ds
unfolding laid_by extended stream rest
laid_halves r n bs c ds = refl

pub laid_running :
    (r : Running) (n : ℕ) (bs : List ℕ) (c : Bool) (ds : List Bool)
    → (laid_by r (frame_items n bs) (c ∷ ds)).running ≡ running_after r (state_after 1 (map byte bs) ds) (code_for r.state n c ∷ rest bs ds)
unfolding laid_by extended stream state_after rest
laid_running r n bs c ds = refl

-- ---- one stream after another

-- a stream that begins with a SYNC Code, after another
join_extends :
    (m k : Stream) (js : List Item) → k ≡ laid_by m.running js k.choices → last_after m.running.state 0 js k.choices ≡ last_after m.running.state m.last js k.choices
    → joined m k ≡ extended m js k.choices
unfolding laid_by extended
join_extends m k js e f = made refl (ap (λ (x : Stream). m.halves ++ x.halves) e) (ap (λ (x : Stream). x.last) e ∙ f) (ap (λ (x : Stream). x.running) e)

last_any : (s l n : ℕ) (is : List Item) (cs : List Bool) → T (permitted s 0 (sync n ∷ is) cs) → last_after s 0 (sync n ∷ is) cs ≡ last_after s l (sync n ∷ is) cs
unfolding permitted last_after
last_any s l n is [] p = absurd p
last_any s l n is (c ∷ cs) p = refl

pub laid_join : (a : Running) (is : List Item) (m k : Stream) (n : ℕ) (js : List Item) → Laid a is m → Laid m.running (sync n ∷ js) k → Laid a (is ++ (sync n ∷ js)) (joined m k)
laid_join a is m k n js h g =
    subst (λ (x : Stream). Laid a (is ++ (sync n ∷ js)) x) (sym (join_extends m k (sync n ∷ js) g.same (last_any m.running.state m.last n js k.choices g.ok)))
    (laid_more a is (sync n ∷ js) m k.choices h (sync_any m.running.state 0 m.last n js k.choices g.ok))
