-- A run's stream, block by block: its items are proper and begin with SY0 (run_proper, run_head), it is 77,376 bytes a block and 4 (run_stream-length), and block
-- k of it is that block's sectors and the SYNC Code after them, laid from the State that the blocks before it leave (block_part_lem). Its last four bytes are SY0,
-- Primary or Secondary (closing_part), and either is permitted (closing_either).
-- Assumes nothing.
use mathlib.Core.Path.{◌≡◌, refl, sym, ap, subst, ◌∙◌}
use mathlib.Core.Bool.{Bool, false}
use mathlib.Core.List.{List, [], ◌∷◌, ◌++◌, append_assoc, append-nil}
use Prim.Native.Nat.{ℕ, suc, ◌+◌, ◌*◌}
use native.Mathlib.Omega.{arith}
use lib.Dec.{T}
use lib.ListN.{length, take, drop}
use lib.Seq.{take_at, drop-append-add}
use Rattle.lists.proofs.Test.{and_left, and_right, and_both}
use Rattle.annexg.specs.Read.{State}
use Rattle.annexg.specs.Sync.{sync_end, code_for}
use Rattle.octets.specs.Halves.{packed, half_at}
use Rattle.octets.proofs.Halves.{packed-length, packed-append, half-packed}
use Rattle.layout.specs.Lengths.{frame_halves, block_frames, sectors_stream, closing_size, stream_size}
use Rattle.layout.specs.Sectors.{code_of, frame_codes, block_part, run_size}
use Rattle.channel.specs.Block.{frames, Blocks, run_items, block_items, permitted_run, run_stream}
use Rattle.channel.specs.Channel.{Item, sync, next_for, last_for, allowed, permitted, stream, state_after, last_after, place, all_proper}
use Rattle.channel.proofs.Joined.{halves, halves-frames, stream-append, stream-length, permitted_cut, state_after_lem}
use Rattle.channel.proofs.Places.{proper-append, frames-proper}
use Rattle.channel.proofs.Rows.{LaidBlock}
use Rattle.channel.proofs.Undisturbed.{SyncAt}

-- ---- the items of a run

pub run_proper : (run : List (List ℕ)) → Blocks run → T (all_proper (run_items run))
unfolding run_items Blocks all_proper
run_proper [] h = tt
run_proper (b ∷ run) h = proper-append (frames 0 block_frames b) (run_items run) (frames-proper block_frames 0 b h.0.0 h.0.1) (run_proper run h.1)

-- SY0 opens a run: that of its first block, or the closing code
pub record RunHead (run : List (List ℕ)) : Type 0 where
  pub tail : List Item
  pub is : run_items run ≡ sync 0 ∷ tail

pub run_head : (run : List (List ℕ)) → RunHead run
unfolding run_items frames code_of frame_codes
run_head [] = record { tail = []; is = refl }
run_head (b ∷ run) = record { tail = _; is = refl }

-- the half words of a run: those of its frames, and the closing code's two
run_halves : (run : List (List ℕ)) → Blocks run → halves (run_items run) ≡ frame_halves * block_frames * length run + 2
unfolding run_items Blocks
run_halves [] h = unfold halves place in refl
run_halves (b ∷ run) h = omega (arith, halves-frames block_frames 0 b (run_items run) h.0.0, run_halves run h.1)

-- a permitted stream of a run has 77,376 bytes a block and 4 at the end
pub run_stream-length : (run : List (List ℕ)) (cs : List Bool) → Blocks run → T (permitted_run run cs) → length (run_stream run cs) ≡ run_size (length run)
run_stream-length run cs h p =
    let items = run_items run in
    omega (arith, packed-length (stream 1 items cs), stream-length 1 0 items cs p, run_halves run h)

-- ---- a block of a run

-- the stream of a block with the code after it is 77,380 bytes
pub laid_length : {b ys : List ℕ} → LaidBlock b ys → length ys ≡ stream_size
laid_length {b} {ys} m =
    let items = block_items b in
    let size = run_halves (b ∷ []) (unfold Blocks in ((m.size, m.bytes), tt)) in
    ap length m.is ∙ omega (arith, packed-length (stream m.state items m.choices), stream-length m.state m.last items m.choices m.ok, size)

frames-length : (s l : ℕ) (b : List ℕ) (cs : List Bool) → Blocks (b ∷ []) → T (permitted s l (frames 0 block_frames b) cs) → length (packed (stream s (frames 0 block_frames b) cs)) ≡ sectors_stream
unfolding Blocks halves place
frames-length s l b cs h p =
    let items = frames 0 block_frames b in
    let size : halves items ≡ frame_halves * block_frames + 0 = ap halves (sym (append-nil items)) ∙ halves-frames block_frames 0 b [] h.0.0 in
    omega (arith, packed-length (stream s items cs), stream-length s l items cs p, size)

first_part :
    (s l : ℕ) (b : List ℕ) (after : List (List ℕ)) (cs : List Bool) → State s → Blocks (b ∷ after) → T (permitted s l (run_items (b ∷ after)) cs)
    → LaidBlock b (block_part (packed (stream s (run_items (b ∷ after)) cs)) 0)
unfolding run_items Blocks
first_part s l b after cs hs h p =
    let next = run_head after in
    let items = frames 0 block_frames b ++ sync 0 ∷ [] in
    let e : frames 0 block_frames b ++ run_items after ≡ items ++ next.tail =
    ap (λ (is : List Item). frames 0 block_frames b ++ is) next.is ∙ sym (append_assoc (frames 0 block_frames b) (sync 0 ∷ []) next.tail) in
    let cut = permitted_cut s l items next.tail cs (subst (λ (is : List Item). T (permitted s l is cs)) e p) in
    let own = stream s items cut.first in
    let rest = stream (state_after s items cut.first) next.tail cut.rest in
    let split : packed (stream s (frames 0 block_frames b ++ run_items after) cs) ≡ packed own ++ packed rest =
    ap (λ (is : List Item). packed (stream s is cs)) e
    ∙ ap (λ (ds : List Bool). packed (stream s (items ++ next.tail) ds)) cut.joined
    ∙ ap packed (stream-append s l items next.tail cut.first cut.rest cut.first_permitted)
    ∙ packed-append own rest in
    let laid : LaidBlock b (packed own) =
    record {
      state = s;
      last = l;
      choices = cut.first;
      size = h.0.0;
      bytes = h.0.1;
      is_state = hs;
      ok = cut.first_permitted;
      is = refl;
    } in
    subst (LaidBlock b) (sym (ap (take stream_size) split ∙ take_at (packed own) (packed rest) stream_size (laid_length laid))) laid

-- a run is the frames of its first block, and then the rest of it from the State that they leave
record Rest (s l : ℕ) (a : List ℕ) (run : List (List ℕ)) (cs : List Bool) : Type 0 where
  state : ℕ
  last : ℕ
  choices : List Bool
  is_state : State state
  ok : T (permitted state last (run_items run) choices)
  later : (k : ℕ) → drop (sectors_stream * suc k) (packed (stream s (run_items (a ∷ run)) cs)) ≡ drop (sectors_stream * k) (packed (stream state (run_items run) choices))

run_rest : (s l : ℕ) (a : List ℕ) (run : List (List ℕ)) (cs : List Bool) → State s → Blocks (a ∷ run) → T (permitted s l (run_items (a ∷ run)) cs) → Rest s l a run cs
unfolding run_items Blocks
run_rest s l a run cs hs h p =
    let items = frames 0 block_frames a in
    let cut = permitted_cut s l items (run_items run) cs p in
    let own = stream s items cut.first in
    let state₁ = state_after s items cut.first in
    let rest = stream state₁ (run_items run) cut.rest in
    let split : packed (stream s (items ++ run_items run) cs) ≡ packed own ++ packed rest =
    ap (λ (ds : List Bool). packed (stream s (items ++ run_items run) ds)) cut.joined
    ∙ ap packed (stream-append s l items (run_items run) cut.first cut.rest cut.first_permitted)
    ∙ packed-append own rest in
    let long : length (packed own) ≡ sectors_stream = frames-length s l a cut.first (h.0, tt) cut.first_permitted in
    record {
      state = state₁;
      last = last_after s l items cut.first;
      choices = cut.rest;
      is_state = state_after_lem s l items cut.first (frames-proper block_frames 0 a h.0.0 h.0.1) hs cut.first_permitted;
      ok = cut.rest_permitted;
      later = λ k.
          let e : sectors_stream * suc k ≡ length (packed own) + sectors_stream * k = omega (arith, long) in
          ap (drop (sectors_stream * suc k)) split
          ∙ ap (λ (n : ℕ). drop n (packed own ++ packed rest)) e
          ∙ drop-append-add (packed own) (packed rest) (sectors_stream * k);
    }

part_from :
    (s l : ℕ) (before : List (List ℕ)) (b : List ℕ) (after : List (List ℕ)) (cs : List Bool) → State s → Blocks (before ++ b ∷ after)
    → T (permitted s l (run_items (before ++ b ∷ after)) cs)
    → LaidBlock b (block_part (packed (stream s (run_items (before ++ b ∷ after)) cs)) (length before))
unfolding Blocks
part_from s l [] b after cs hs h p = first_part s l b after cs hs h p
part_from s l (a ∷ before) b after cs hs h p =
    let run = before ++ b ∷ after in
    let rest = run_rest s l a run cs hs h p in
    subst (LaidBlock b) (sym (ap (take stream_size) (rest.later (length before))))
    (part_from rest.state rest.last before b after rest.choices rest.is_state h.1 rest.ok)

-- block k of a run's stream, k blocks having gone before it
pub block_part_lem :
    (before : List (List ℕ)) (b : List ℕ) (after : List (List ℕ)) (cs : List Bool) → Blocks (before ++ b ∷ after) → T (permitted_run (before ++ b ∷ after) cs)
    → LaidBlock b (block_part (run_stream (before ++ b ∷ after) cs) (length before))
block_part_lem before b after cs h p = part_from 1 0 before b after cs (record { low = omega arith; high = omega arith }) h p

-- ---- the closing code

-- ys is four bytes, a code of SY0
abbrev pub ClosingLaid : List ℕ → Type 0
ClosingLaid ys = (length ys ≡ closing_size) × SyncAt 0 (half_at ys 0) (half_at ys 1)

code_laid : (s : ℕ) (c : Bool) → State s → ClosingLaid (packed (code_for s 0 c ∷ sync_end ∷ []))
code_laid s c hs =
    let code = code_for s 0 c ∷ sync_end ∷ [] in
    (packed-length code, record { state = s; choice = c; is_state = hs; first = half-packed code 0; second = half-packed code 1 })

closing_from :
    (s l : ℕ) (run : List (List ℕ)) (cs : List Bool) → State s → Blocks run → T (permitted s l (run_items run) cs)
    → ClosingLaid (drop (sectors_stream * length run) (packed (stream s (run_items run) cs)))
unfolding run_items Blocks permitted stream
closing_from s l [] [] hs h p = absurd p
closing_from s l [] (c ∷ []) hs h p = code_laid s c hs
closing_from s l [] (c ∷ (d ∷ cs)) hs h p = absurd p
closing_from s l (a ∷ run) cs hs h p =
    let rest = run_rest s l a run cs hs h p in
    subst ClosingLaid (sym (rest.later (length run))) (closing_from rest.state rest.last run rest.choices rest.is_state h.1 rest.ok)

-- what follows the blocks of a run, Primary or Secondary (document 02, request 7)
pub closing_part : (run : List (List ℕ)) (cs : List Bool) → Blocks run → T (permitted_run run cs) → ClosingLaid (drop (sectors_stream * length run) (run_stream run cs))
closing_part run cs h p = closing_from 1 0 run cs (record { low = omega arith; high = omega arith }) h p

-- a run's items end with it
record RunEnd (run : List (List ℕ)) : Type 0 where
  before : List Item
  is : run_items run ≡ before ++ (sync 0 ∷ [])

run_end : (run : List (List ℕ)) → RunEnd run
unfolding run_items
run_end [] = record { before = []; is = refl }
run_end (b ∷ run) =
    let frames₁ = frames 0 block_frames b in
    let end = run_end run in
    record {
      before = frames₁ ++ end.before;
      is = ap (λ (is : List Item). frames₁ ++ is) end.is ∙ sym (append_assoc frames₁ end.before (sync 0 ∷ []));
    }

last_either :
    (s l n : ℕ) (is : List Item) (cs : List Bool) (c d : Bool) → T (permitted s l (is ++ (sync n ∷ [])) (cs ++ (c ∷ [])))
    → T (permitted s l (is ++ (sync n ∷ [])) (cs ++ (d ∷ [])))
unfolding permitted
last_either s l n [] [] c d p = tt
last_either s l n [] (x ∷ []) c d p = absurd p
last_either s l n [] (x ∷ (y ∷ cs)) c d p = absurd p
last_either s l n (i ∷ []) [] c d p = absurd (and_right (allowed s l i c) false p)
last_either s l n (i ∷ (j ∷ is)) [] c d p = absurd (and_right (allowed s l i c) false p)
last_either s l n (i ∷ is) (x ∷ cs) c d p =
    let now = allowed s l i x in
    let later : Bool → Bool = λ e. permitted (next_for s i x) (last_for s i x) (is ++ (sync n ∷ [])) (cs ++ (e ∷ [])) in
    and_both now (later d) (and_left now (later c) p) (last_either (next_for s i x) (last_for s i x) n is cs c d (and_right now (later c) p))

-- EITHER CODE AT THE END: where a list of choices is permitted over a run, so is the list with the other choice for the closing code
pub closing_either : (run : List (List ℕ)) (cs : List Bool) (c d : Bool) → T (permitted_run run (cs ++ (c ∷ []))) → T (permitted_run run (cs ++ (d ∷ [])))
closing_either run cs c d p =
    let end = run_end run in
    let over : Bool → List Item → Type 0 = λ e is. T (permitted 1 0 is (cs ++ (e ∷ []))) in
    subst (over d) (sym end.is) (last_either 1 0 0 end.before cs c d (subst (over c) end.is p))
