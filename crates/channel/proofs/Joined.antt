-- Streams one after the other (stream-append, permitted-append, permitted_cut, state_after_lem), and how long they are (halves, stream-length, halves-frames).
-- Assumes nothing.
use mathlib.Core.Path.{◌≡◌, refl, sym, ap, ap₂, ◌∙◌}
use mathlib.Core.Bool.{Bool}
use mathlib.Core.List.{List, [], ◌∷◌, ◌++◌, map, append_assoc}
use Prim.Native.Nat.{ℕ, zero, suc, ◌+◌, ◌*◌}
use native.Mathlib.Nat.{zero-add, suc-add}
use native.Mathlib.Omega.{arith}
use lib.Dec.{T}
use lib.ListN.{length, take, drop}
use Rattle.lists.proofs.Test.{and_left, and_right, and_both}
use Rattle.annexg.specs.Read.{State}
use Rattle.layout.specs.Lengths.{frame_bytes, frame_halves}
use Rattle.channel.specs.Block.{frames}
use Rattle.channel.specs.Channel.{Item, sync, byte, halves_for, next_for, last_for, allowed, permitted, stream, state_after, last_after, place, proper, all_proper}
use Rattle.channel.proofs.Places.{head_length, tail_length}
use Rattle.channel.proofs.Reading.{next_state}

pub stream-append :
    (s l : ℕ) (is js : List Item) (cs ds : List Bool) → T (permitted s l is cs)
    → stream s (is ++ js) (cs ++ ds) ≡ stream s is cs ++ stream (state_after s is cs) js ds
unfolding permitted stream state_after
stream-append s l [] js [] ds p = refl
stream-append s l [] js (c ∷ cs) ds p = absurd p
stream-append s l (i ∷ is) js [] ds p = absurd p
stream-append s l (i ∷ is) js (c ∷ cs) ds p =
    ap (λ (x : List ℕ). halves_for s i c ++ x)
    (stream-append (next_for s i c) (last_for s i c) is js cs ds (and_right (allowed s l i c) (permitted (next_for s i c) (last_for s i c) is cs) p))
    ∙ sym (append_assoc (halves_for s i c) (stream (next_for s i c) is cs) (stream (state_after (next_for s i c) is cs) js ds))

pub permitted-append :
    (s l : ℕ) (is js : List Item) (cs ds : List Bool) → T (permitted s l is cs) → T (permitted (state_after s is cs) (last_after s l is cs) js ds)
    → T (permitted s l (is ++ js) (cs ++ ds))
unfolding permitted state_after last_after
permitted-append s l [] js [] ds p q = q
permitted-append s l [] js (c ∷ cs) ds p q = absurd p
permitted-append s l (i ∷ is) js [] ds p q = absurd p
permitted-append s l (i ∷ is) js (c ∷ cs) ds p q =
    and_both (allowed s l i c) (permitted (next_for s i c) (last_for s i c) (is ++ js) (cs ++ ds)) (and_left (allowed s l i c) (permitted (next_for s i c) (last_for s i c) is cs) p)
    (permitted-append (next_for s i c) (last_for s i c) is js cs ds (and_right (allowed s l i c) (permitted (next_for s i c) (last_for s i c) is cs) p) q)

-- permitted choices for items and then others are permitted choices for the ones, and for the others from where the ones end
pub record Cut (s l : ℕ) (is js : List Item) (cs : List Bool) : Type 0 where
  pub first : List Bool
  pub rest : List Bool
  pub joined : cs ≡ first ++ rest
  pub first_permitted : T (permitted s l is first)
  pub rest_permitted : T (permitted (state_after s is first) (last_after s l is first) js rest)

pub permitted_cut : (s l : ℕ) (is js : List Item) (cs : List Bool) → T (permitted s l (is ++ js) cs) → Cut s l is js cs
unfolding permitted state_after last_after
permitted_cut s l [] js cs p = record { first = []; rest = cs; joined = refl; first_permitted = tt; rest_permitted = p }
permitted_cut s l (i ∷ is) js [] p = absurd p
permitted_cut s l (i ∷ is) js (c ∷ cs) p =
    let now = allowed s l i c in
    let later = permitted (next_for s i c) (last_for s i c) (is ++ js) cs in
    let cut = permitted_cut (next_for s i c) (last_for s i c) is js cs (and_right now later p) in
    record {
      first = c ∷ cut.first;
      rest = cut.rest;
      joined = ap (λ (x : List Bool). c ∷ x) cut.joined;
      first_permitted = and_both now (permitted (next_for s i c) (last_for s i c) is cut.first) (and_left now later p) cut.first_permitted;
      rest_permitted = cut.rest_permitted;
    }

-- the half words of items: the place after the last of them
unfoldable pub halves : List Item → ℕ
halves is = place is (length is)

-- they are the length of a stream
pub stream-length : (s l : ℕ) (is : List Item) (cs : List Bool) → T (permitted s l is cs) → length (stream s is cs) ≡ halves is
unfolding permitted stream place halves
stream-length s l [] [] p = refl
stream-length s l [] (c ∷ cs) p = absurd p
stream-length s l (i ∷ is) [] p = absurd p
stream-length s l (sync n ∷ is) (c ∷ cs) p = ap (λ (x : ℕ). suc (suc x)) (stream-length 1 (last_for s (sync n) c) is cs p)
stream-length s l (byte b ∷ is) (c ∷ cs) p =
    ap suc (stream-length (next_for s (byte b) c) (last_for s (byte b) c) is cs (and_right (allowed s l (byte b) c) (permitted (next_for s (byte b) c) (last_for s (byte b) c) is cs) p))

halves-bytes : (xs : List ℕ) (ys : List Item) → halves (map byte xs ++ ys) ≡ length xs + halves ys
unfolding halves place
halves-bytes [] ys = sym (zero-add (place ys (length ys)))
halves-bytes (x ∷ xs) ys = ap suc (halves-bytes xs ys) ∙ sym (suc-add (length xs) (place ys (length ys)))

pub halves-frames : (n g : ℕ) (bs : List ℕ) (end : List Item) → length bs ≡ frame_bytes * n → halves (frames g n bs ++ end) ≡ frame_halves * n + halves end
unfolding frames halves place
halves-frames zero g bs end e = sym (zero-add (place end (length end)))
halves-frames (suc n) g bs end e =
    rw (append_assoc (map byte (take frame_bytes bs)) (frames (suc g) n (drop frame_bytes bs)) end)
    (ap (λ (x : ℕ). suc (suc x)) (halves-bytes (take frame_bytes bs) (frames (suc g) n (drop frame_bytes bs) ++ end) ∙ ap₂ (λ (x y : ℕ). x + y) (head_length bs n e) (halves-frames n (suc g) (drop frame_bytes bs) end (tail_length bs n e)))
    ∙ omega arith)

-- the State after permitted items is one
pub state_after_lem : (s l : ℕ) (is : List Item) (cs : List Bool) → T (all_proper is) → State s → T (permitted s l is cs) → State (state_after s is cs)
unfolding permitted state_after all_proper
state_after_lem s l [] cs hp hs p = hs
state_after_lem s l (i ∷ is) [] hp hs p = absurd p
state_after_lem s l (i ∷ is) (c ∷ cs) hp hs p =
    let p₁ = and_left (allowed s l i c) (permitted (next_for s i c) (last_for s i c) is cs) p in
    let p₂ = and_right (allowed s l i c) (permitted (next_for s i c) (last_for s i c) is cs) p in
    state_after_lem (next_for s i c) (last_for s i c) is cs (and_right (proper i) (all_proper is) hp) (next_state s l i c (and_left (proper i) (all_proper is) hp) hs p₁) p₂
