-- Where the bytes of frames stand among the items and among the half words (place_in, place_past, item_in, item_past, frame_place_lem, frame_item), how many items
-- frames are (frames-length), and that all are proper (frames-proper).
-- Assumes nothing.
use mathlib.Core.Path.{◌≡◌, refl, sym, ap, ◌∙◌}
use mathlib.Core.List.{List, [], ◌∷◌, ◌++◌, map, append_assoc}
use Prim.Native.Nat.{ℕ, zero, suc, ◌+◌, ◌*◌, ◌<◌}
use native.Mathlib.Nat.{not-suc-le-zero, le_of_suc-le-suc, zero-add, suc-add}
use native.Mathlib.Omega.{arith}
use lib.Dec.{T, lt→ltb}
use lib.ListN.{length, get_or, take, drop, length-map, length-drop, length-append}
use lib.Seq.{length-take-le, get_or-take, get_or-drop}
use Rattle.lists.specs.Bytes.{Bytes}
use Rattle.lists.proofs.Bytes.{take-bytes, drop-bytes}
use Rattle.lists.proofs.Test.{and_left, and_right, and_both}
use Rattle.layout.specs.Lengths.{frame_bytes, frame_halves}
use Rattle.layout.specs.Sectors.{code_of}
use Rattle.layout.proofs.Places.{code_small}
use Rattle.channel.specs.Block.{frames}
use Rattle.channel.specs.Channel.{Item, sync, byte, place, proper, all_proper}

pub place_in : (xs : List ℕ) (ys : List Item) (j : ℕ) → j < length xs → place (map byte xs ++ ys) j ≡ j
unfolding place
place_in [] ys j h = absurd (not-suc-le-zero h)
place_in (x ∷ xs) ys zero h = refl
place_in (x ∷ xs) ys (suc j) h = ap suc (place_in xs ys j (le_of_suc-le-suc h))

pub place_past : (xs : List ℕ) (ys : List Item) (j : ℕ) → place (map byte xs ++ ys) (length xs + j) ≡ length xs + place ys j
unfolding place
place_past [] ys j = rw (zero-add, zero-add)
place_past (x ∷ xs) ys j = rw (suc-add (length xs) j) (ap suc (place_past xs ys j) ∙ sym (suc-add (length xs) (place ys j)))

pub item_in : (xs : List ℕ) (ys : List Item) (j : ℕ) → j < length xs → get_or (map byte xs ++ ys) j (sync 0) ≡ byte (get_or xs j 0)
item_in [] ys j h = absurd (not-suc-le-zero h)
item_in (x ∷ xs) ys zero h = refl
item_in (x ∷ xs) ys (suc j) h = item_in xs ys j (le_of_suc-le-suc h)

pub item_past : (xs : List ℕ) (ys : List Item) (j : ℕ) (d : Item) → get_or (map byte xs ++ ys) (length xs + j) d ≡ get_or ys j d
item_past [] ys j d = rw zero-add
item_past (x ∷ xs) ys j d = rw (suc-add (length xs) j) (item_past xs ys j d)

module _ (bs : List ℕ) (n : ℕ) (e : length bs ≡ frame_bytes * suc n) where
  pub head_length : length (take frame_bytes bs) ≡ frame_bytes
  head_length = length-take-le frame_bytes bs (omega arith)

  pub tail_length : length (drop frame_bytes bs) ≡ frame_bytes * n
  tail_length = rw length-drop (omega arith)

-- byte p of frame f: its place among the items, and its half
pub frame_place_lem :
    (n g : ℕ) (bs : List ℕ) (end : List Item) → length bs ≡ frame_bytes * n → (f p : ℕ) → f < n → p < frame_bytes → place (frames g n bs ++ end) (92 * f + suc p) ≡ frame_halves * f + suc (suc p)
unfolding frames place
frame_place_lem zero g bs end e f p hf hp = absurd (not-suc-le-zero hf)
frame_place_lem (suc n) g bs end e zero p hf hp =
    rw (zero-add (suc p), zero-add (suc (suc p)), append_assoc (map byte (take frame_bytes bs)) (frames (suc g) n (drop frame_bytes bs)) end)
    (ap (λ (k : ℕ). suc (suc k)) (place_in (take frame_bytes bs) (frames (suc g) n (drop frame_bytes bs) ++ end) p (rw (head_length bs n e) hp)))
frame_place_lem (suc n) g bs end e (suc f) p hf hp =
    let k : 92 * suc f + suc p ≡ suc (frame_bytes + (92 * f + suc p)) = omega arith in
    let m : suc (suc (frame_bytes + (frame_halves * f + suc (suc p)))) ≡ frame_halves * suc f + suc (suc p) = omega arith in
    rw (k, append_assoc (map byte (take frame_bytes bs)) (frames (suc g) n (drop frame_bytes bs)) end)
    (ap (λ (x : ℕ). suc (suc x)) (past ∙ ap (λ (x : ℕ). frame_bytes + x) (frame_place_lem n (suc g) (drop frame_bytes bs) end (tail_length bs n e) f p (le_of_suc-le-suc hf) hp)) ∙ m)
  where
    past : place (map byte (take frame_bytes bs) ++ (frames (suc g) n (drop frame_bytes bs) ++ end)) (frame_bytes + (92 * f + suc p)) ≡ frame_bytes + place (frames (suc g) n (drop frame_bytes bs) ++ end) (92 * f + suc p)
    past = rw (head_length bs n e) at (place_past (take frame_bytes bs) (frames (suc g) n (drop frame_bytes bs) ++ end) (92 * f + suc p))

pub frame_item :
    (n g : ℕ) (bs : List ℕ) (end : List Item) → length bs ≡ frame_bytes * n → (f p : ℕ) → f < n → p < frame_bytes
    → get_or (frames g n bs ++ end) (92 * f + suc p) (sync 0) ≡ byte (get_or bs (frame_bytes * f + p) 0)
unfolding frames
frame_item zero g bs end e f p hf hp = absurd (not-suc-le-zero hf)
frame_item (suc n) g bs end e zero p hf hp =
    rw (zero-add (suc p), zero-add p, append_assoc (map byte (take frame_bytes bs)) (frames (suc g) n (drop frame_bytes bs)) end)
    (item_in (take frame_bytes bs) (frames (suc g) n (drop frame_bytes bs) ++ end) p (rw (head_length bs n e) hp) ∙ ap byte (get_or-take frame_bytes bs p 0 hp))
frame_item (suc n) g bs end e (suc f) p hf hp =
    let k : 92 * suc f + suc p ≡ suc (frame_bytes + (92 * f + suc p)) = omega arith in
    let m : frame_bytes + (frame_bytes * f + p) ≡ frame_bytes * suc f + p = omega arith in
    rw (k, append_assoc (map byte (take frame_bytes bs)) (frames (suc g) n (drop frame_bytes bs)) end)
    (past ∙ frame_item n (suc g) (drop frame_bytes bs) end (tail_length bs n e) f p (le_of_suc-le-suc hf) hp
    ∙ ap byte (get_or-drop frame_bytes bs (frame_bytes * f + p) 0 ∙ ap (λ (x : ℕ). get_or bs x 0) m))
  where
    past : get_or (map byte (take frame_bytes bs) ++ (frames (suc g) n (drop frame_bytes bs) ++ end)) (frame_bytes + (92 * f + suc p)) (sync 0) ≡ get_or (frames (suc g) n (drop frame_bytes bs) ++ end) (92 * f + suc p) (sync 0)
    past = rw (head_length bs n e) at (item_past (take frame_bytes bs) (frames (suc g) n (drop frame_bytes bs) ++ end) (92 * f + suc p) (sync 0))

pub frames-length : (n g : ℕ) (bs : List ℕ) → length bs ≡ frame_bytes * n → length (frames g n bs) ≡ 92 * n
unfolding frames
frames-length zero g bs e = refl
frames-length (suc n) g bs e =
    rw (length-append, length-map, head_length bs n e, frames-length n (suc g) (drop frame_bytes bs) (tail_length bs n e)) (omega arith)

-- each item is one: SY0 to SY7, and bytes
pub proper-append : (xs ys : List Item) → T (all_proper xs) → T (all_proper ys) → T (all_proper (xs ++ ys))
unfolding all_proper
proper-append [] ys p q = q
proper-append (x ∷ xs) ys p q = and_both (proper x) (all_proper (xs ++ ys)) (and_left (proper x) (all_proper xs) p) (proper-append xs ys (and_right (proper x) (all_proper xs) p) q)

pub proper-bytes : (xs : List ℕ) → Bytes xs → T (all_proper (map byte xs))
unfolding all_proper Bytes
proper-bytes [] h = tt
proper-bytes (x ∷ xs) h = and_both (proper (byte x)) (all_proper (map byte xs)) (lt→ltb x 256 h.0) (proper-bytes xs h.1)

pub code_proper : (f : ℕ) → T (proper (sync (code_of f)))
code_proper f = lt→ltb (code_of f) 8 (code_small f)

pub frames-proper : (n g : ℕ) (bs : List ℕ) → length bs ≡ frame_bytes * n → Bytes bs → T (all_proper (frames g n bs))
unfolding frames all_proper
frames-proper zero g bs e b = tt
frames-proper (suc n) g bs e b =
    and_both (proper (sync (code_of g))) (all_proper (map byte (take frame_bytes bs) ++ frames (suc g) n (drop frame_bytes bs))) (code_proper g)
    (proper-append (map byte (take frame_bytes bs)) (frames (suc g) n (drop frame_bytes bs)) (proper-bytes (take frame_bytes bs) (take-bytes frame_bytes bs b))
    (frames-proper n (suc g) (drop frame_bytes bs) (tail_length bs n e) (drop-bytes frame_bytes bs b)))
