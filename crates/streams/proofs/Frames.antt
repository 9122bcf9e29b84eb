-- Frames, sectors and runs of blocks by the two-stream rule are permitted streams of their items.
-- Assumes nothing.
use mathlib.Core.Path.{◌≡◌, refl, sym, ap, ap₂, subst, ◌∙◌}
use mathlib.Core.List.{List, [], ◌∷◌, ◌++◌, map, append_assoc, append-nil}
use Prim.Native.Nat.{ℕ, zero, suc, ◌+◌, ◌*◌}
use native.Mathlib.Nat.{zero-add, suc-add, add-zero}
use native.Mathlib.Omega.{arith}
use lib.Dec.{T}
use lib.ListN.{get_or, take, drop}
use lib.Seq.{take-take, drop-drop, take-nil}
use Rattle.layout.specs.Sectors.{frame_codes, code_of}
use Rattle.channel.specs.Block.{frames, sector_items, run_items, permitted_run, run_stream}
use Rattle.channel.proofs.Runs.{run_head}
use Rattle.octets.specs.Halves.{packed}
use Rattle.channel.specs.Channel.{Item, sync, byte, permitted, stream}
use Rattle.levels.specs.declared.Running.{Running}
use Rattle.layout.specs.Lengths.{block_frames, sector_count, sector_size}
use Rattle.streams.specs.Frames.{joined, frames_of, sector_of, sectors_of, closing_of, run_of, choices_of}
use Rattle.streams.specs.Streams.{Stream, opened, frame_items, sync_frame_of}
use Rattle.streams.specs.Inner.{extended, laid_by, Laid}
use Rattle.streams.proofs.Laid.{laid_fresh, lower_laid, opened_laid, laid_join, frame_laid}

drop-take : (m n : ℕ) (l : List ℕ) → drop m (take (m + n) l) ≡ take n (drop m l)
drop-take zero n l = rw (zero-add n)
drop-take (suc m) n [] = rw (suc-add m n) (sym (take-nil n))
drop-take (suc m) n (x ∷ l) = rw (suc-add m n) (drop-take m n l)

-- frames f to f + k + m - 1
frames_more : (k f m : ℕ) (bs : List ℕ) → frames f (k + m) bs ≡ frames f k bs ++ frames (f + k) m (drop (91 * k) bs)
unfolding frames
frames_more zero f m bs = rw (zero-add m, add-zero f)
frames_more (suc k) f m bs =
    let e : 91 + 91 * k ≡ 91 * suc k = omega arith in
    let g : suc f + k ≡ f + suc k = omega arith in
    rw (suc-add k m)
    (ap (λ (x : List Item). sync (code_of f) ∷ (map byte (take 91 bs) ++ x))
    (frames_more k (suc f) m (drop 91 bs) ∙ ap₂ (λ (x : ℕ) (y : List ℕ). frames (suc f) k (drop 91 bs) ++ frames x m y) g (drop-drop (91 * k) 91 bs ∙ ap (λ (x : ℕ). drop x bs) e))
    ∙ ap (λ (x : List Item). sync (code_of f) ∷ x) (sym (append_assoc (map byte (take 91 bs)) (frames (suc f) k (drop 91 bs)) (frames (f + suc k) m (drop (91 * suc k) bs)))))

frames-one : (f : ℕ) (bs : List ℕ) → frames f 1 bs ≡ frame_items (code_of f) (take 91 bs)
unfolding frames
frames-one f bs = ap (λ (x : List Item). sync (code_of f) ∷ x) (append-nil (map byte (take 91 bs)))

frames_snoc : (k : ℕ) (bs : List ℕ) → frames 0 (suc k) bs ≡ frames 0 k bs ++ frame_items (code_of k) (take 91 (drop (91 * k) bs))
frames_snoc k bs =
    let e : suc k ≡ k + 1 = omega arith in
    ap (λ (x : ℕ). frames 0 x bs) e ∙ frames_more k 0 1 bs
    ∙ ap (λ (x : List Item). frames 0 k bs ++ x) (frames-one (0 + k) (drop (91 * k) bs) ∙ ap (λ (x : ℕ). frame_items (code_of x) (take 91 (drop (91 * k) bs))) (zero-add k))

-- only the first 91 m bytes count, and the codes come again after 26 frames
pub frames-take : (m f : ℕ) (bs : List ℕ) → frames f m (take (91 * m) bs) ≡ frames f m bs
unfolding frames
frames-take zero f bs = refl
frames-take (suc m) f bs =
    let e : 91 * suc m ≡ 91 + 91 * m = omega arith in
    ap₂ (λ (x y : List ℕ). sync (code_of f) ∷ (map byte x ++ frames (suc f) m y)) (take-take 91 (91 * suc m) bs (omega arith)) (ap (λ (x : ℕ). drop 91 (take x bs)) e ∙ drop-take 91 (91 * m) bs)
    ∙ ap (λ (x : List Item). sync (code_of f) ∷ (map byte (take 91 bs) ++ x)) (frames-take m (suc f) (drop 91 bs))

code_again : (n f : ℕ) → code_of (26 * n + f) ≡ code_of f
unfolding code_of
code_again n f = ap (λ (x : ℕ). get_or frame_codes x 0) (omega arith)

frames_again : (m n f : ℕ) (bs : List ℕ) → frames (26 * n + f) m bs ≡ frames f m bs
unfolding frames
frames_again zero n f bs = refl
frames_again (suc m) n f bs =
    let e : suc (26 * n + f) ≡ 26 * n + suc f = omega arith in
    ap₂ (λ (x : ℕ) (y : List Item). sync x ∷ (map byte (take 91 bs) ++ y)) (code_again n f) (ap (λ (x : ℕ). frames x m (drop 91 bs)) e ∙ frames_again m n (suc f) (drop 91 bs))

sectors_snoc : (n : ℕ) (bs : List ℕ) → frames 0 (26 * suc n) bs ≡ frames 0 (26 * n) bs ++ frames 0 26 (take sector_size (drop (sector_size * n) bs))
sectors_snoc n bs =
    let e : 26 * suc n ≡ 26 * n + 26 = omega arith in
    let g : 0 + 26 * n ≡ 26 * n + 0 = omega arith in
    let h : 91 * (26 * n) ≡ sector_size * n = omega arith in
    ap (λ (x : ℕ). frames 0 x bs) e ∙ frames_more (26 * n) 0 26 bs
    ∙ ap (λ (x : List Item). frames 0 (26 * n) bs ++ x)
    (ap₂ (λ (x y : ℕ). frames x 26 (drop y bs)) g h ∙ frames_again 26 n 0 (drop (sector_size * n) bs) ∙ sym (frames-take 26 0 (drop (sector_size * n) bs)))

-- PERMITTED: n frames of a sector
pub frames_laid : (a : Running) (bs : List ℕ) (n : ℕ) → Laid a (frames 0 n bs) (frames_of a bs n)
unfolding frames_of
frames_laid a bs zero = unfold frames in laid_fresh a
frames_laid a bs (suc n) =
    let m = frames_of a bs n in
    let b = take 91 (drop (91 * n) bs) in
    subst (λ (x : List Item). Laid a x (joined m (sync_frame_of m.running (code_of n) b))) (sym (frames_snoc n bs))
    (laid_join a (frames 0 n bs) m (sync_frame_of m.running (code_of n) b) (code_of n) (map byte b) (frames_laid a bs n) (frame_laid m.running (code_of n) b))

-- a sector
pub sector_laid : (r : Running) (bs : List ℕ) → Laid r (sector_items bs) (sector_of r bs)
sector_laid r bs = frames_laid r bs 26

sector_head : (bs : List ℕ) → frames 0 26 bs ≡ sync (code_of 0) ∷ (map byte (take 91 bs) ++ frames 1 25 (drop 91 bs))
unfolding frames
sector_head bs = refl

-- n sectors
pub sectors_laid : (r : Running) (bs : List ℕ) (n : ℕ) → Laid r (frames 0 (26 * n) bs) (sectors_of r bs n)
unfolding sectors_of
sectors_laid r bs zero = unfold frames in laid_fresh r
sectors_laid r bs (suc n) =
    let m = sectors_of r bs n in
    let b = take sector_size (drop (sector_size * n) bs) in
    let k = sector_of m.running b in
    subst (λ (x : List Item). Laid r x (joined m k)) (sym (sectors_snoc n bs ∙ ap (λ (x : List Item). frames 0 (26 * n) bs ++ x) (sector_head b)))
    (laid_join r (frames 0 (26 * n) bs) m k (code_of 0) (map byte (take 91 b) ++ frames 1 25 (drop 91 b)) (sectors_laid r bs n)
    (subst (λ (x : List Item). Laid m.running x k) (sector_head b) (sector_laid m.running b)))

-- PERMITTED: the closing code
pub closing_laid : (r : Running) → Laid r (sync 0 ∷ []) (closing_of r)
closing_laid r = let h = opened_laid r 0 in lower_laid r (sync 0 ∷ []) (opened r 0) h.first h.second

-- the sectors of a run and the closing code
pub run_laid : (r : Running) (run : List (List ℕ)) → Laid r (run_items run) (run_of r run)
unfolding run_of run_items
run_laid r [] = closing_laid r
run_laid r (b ∷ run) =
    let m = sectors_of r b sector_count in
    let next = run_head run in
    let rest = run_of m.running run in
    subst (λ (is : List Item). Laid r (frames 0 block_frames b ++ is) (joined m rest)) (sym next.is)
    (laid_join r (frames 0 block_frames b) m rest 0 next.tail (sectors_laid r b sector_count)
    (subst (λ (is : List Item). Laid m.running is rest) next.is (run_laid m.running run)))

-- PERMITTED: the choices of the rule over a run that starts at State 1 are permitted, the closing code's with them, whatever the bytes, and what it lays is their
-- permitted stream
module _ (r : Running) (run : List (List ℕ)) (e : r.state ≡ 1) where
  pub run_permitted : T (permitted_run run (choices_of r run))
  run_permitted = subst (λ (s : ℕ). T (permitted s 0 (run_items run) (choices_of r run))) e (run_laid r run).ok

  pub run_stream_lem : packed (run_of r run).halves ≡ run_stream run (choices_of r run)
  unfolding laid_by extended
  run_stream_lem =
      ap (λ (x : Stream). packed x.halves) (run_laid r run).same
      ∙ ap (λ (s : ℕ). packed (stream s (run_items run) (choices_of r run))) e
