-- Scrambling: the register as the loop steps it, and scrambling twice.
-- Assumes nothing.
use mathlib.Core.Path.{◌≡◌, refl, sym, ap, ap₂, ◌∙◌}
use mathlib.Core.Bool.{Bool, true, false, ◌&&◌, cond}
use mathlib.Core.List.{List, ◌++◌}
use Prim.Native.Nat.{ℕ, zero, suc, ◌+◌, ◌-◌, ◌/◌, ◌%◌, ◌<◌, ◌≤◌}
use native.Mathlib.Omega.{arith}
use borrow.Author.Tests.{lt-ltb, le-ltb, le-leb, lt-leb}
use lib.Dec.{T, leb, ltb, ltb→lt}
use lib.ListN.{length, get_or, take, drop, length-drop}
use lib.Seq.{ext_get_or, take_all}
use borrow.Rule.Slice.PartMut.{put_mid}
use Rattle.std.proofs.lemmas.List.{drop-drop}
use Rattle.lists.specs.Fill.{tabulate_from, tabulate}
use Rattle.lists.specs.Test.{below}
use Rattle.lists.specs.Bytes.{Bytes}
use Rattle.lists.proofs.Test.{below_at, and_false}
use Rattle.lists.proofs.Fill.{length-tabulate, get_d_tabulate, tabulate_self, tabulate-same, tabulate-append, part_tabulate}
use Rattle.lists.proofs.Bytes.{get_or-byte, tabulate-bytes}
use Rattle.field.specs.Field.{add}
use Rattle.field.proofs.Sums.{add_assoc, add_self, add-zero, add-lt}
use Rattle.layout.specs.Lengths.{head_size, frame_main_size, edc_place, frame_size}
use Rattle.scrambling.specs.Scrambling.{presets, preset_of, shifted, register, scrambling_byte, scrambled_at, scrambled}

-- ---- the register

pub register-add : (r m n : ℕ) → register r (m + n) ≡ register (register r m) n
unfolding register
register-add r m zero =
    let e : m + 0 ≡ m = omega arith in
    rw e
register-add r m (suc n) =
    let e : m + suc n ≡ suc (m + n) = omega arith in
    rw e (ap shifted (register-add r m n))

presets_small : T (below 16 (λ i. ltb (get_or presets i 0) 0x8000))
unfolding presets
presets_small = tt

pub preset_lt : (n : ℕ) → preset_of n < 0x8000
unfolding preset_of
preset_lt n =
    ltb→lt (get_or presets (n / 16 % 16) 0) 0x8000 (below_at 16 (λ i. ltb (get_or presets i 0) 0x8000) presets_small (n / 16 % 16) (omega arith))

-- ---- byte by byte

pub scrambled_head : (n : ℕ) (f : List ℕ) (q : ℕ) → q < head_size → scrambled_at n f q ≡ get_or f q 0
unfolding scrambled_at
scrambled_head n f q h = rw (lt-leb head_size q h)

pub scrambled_main : (n : ℕ) (f : List ℕ) (q : ℕ) → head_size ≤ q → q < edc_place
    → scrambled_at n f q ≡ add (get_or f q 0) (scrambling_byte (preset_of n) (q - head_size))
unfolding scrambled_at
scrambled_main n f q h l = rw (le-leb head_size q h, lt-ltb q edc_place l)

pub scrambled_end : (n : ℕ) (f : List ℕ) (q : ℕ) → edc_place ≤ q → scrambled_at n f q ≡ get_or f q 0
unfolding scrambled_at
scrambled_end n f q h = rw (le-ltb q edc_place h, and_false (leb head_size q))

-- byte k of the main data, scrambled
abbrev pub main_byte : ℕ → List ℕ → ℕ → ℕ
main_byte n f k = add (get_or f (head_size + k) 0) (scrambling_byte (preset_of n) k)

-- the main data scrambled in its place
pub scrambled_parts : (n : ℕ) (f : List ℕ) → length f ≡ frame_size
    → put_mid head_size frame_main_size f (tabulate (main_byte n f) frame_main_size) ≡ scrambled n f
scrambled_parts n f e =
    let g : ℕ → ℕ = λ q. get_or f q 0 in
    let whole : tabulate g frame_size ≡ f = tabulate_self f frame_size e in
    let last : length (drop edc_place f) ≡ 4 = omega (arith, length-drop edc_place f) in
    let head : take head_size f ≡ tabulate (scrambled_at n f) head_size =
    ap (take head_size) (sym whole) ∙ part_tabulate g 0 0 head_size frame_size (omega arith)
    ∙ tabulate-same g (scrambled_at n f) 0 0 head_size (λ q h. sym (scrambled_head n f (0 + q) (omega arith))) in
    let middle : tabulate (main_byte n f) frame_main_size ≡ tabulate_from (scrambled_at n f) head_size frame_main_size =
    tabulate-same (main_byte n f) (scrambled_at n f) 0 head_size frame_main_size
    (λ q h. let same : head_size + (0 + q) ≡ head_size + q = omega arith in
    let place : 0 + q ≡ head_size + q - head_size = omega arith in
    ap₂ (λ (x y : ℕ). add (get_or f x 0) (scrambling_byte (preset_of n) y)) same place
    ∙ sym (scrambled_main n f (head_size + q) (omega arith) (omega arith))) in
    let end : drop frame_main_size (drop head_size f) ≡ tabulate_from (scrambled_at n f) edc_place 4 =
    drop-drop frame_main_size head_size f ∙ sym (take_all 4 (drop edc_place f) (omega arith)) ∙ ap (λ (xs : List ℕ). take 4 (drop edc_place xs)) (sym whole)
    ∙ part_tabulate g 0 edc_place 4 frame_size (omega arith)
    ∙ tabulate-same g (scrambled_at n f) edc_place edc_place 4 (λ q h. sym (scrambled_end n f (edc_place + q) (omega arith))) in
    ap₂ ◌++◌ head (ap₂ ◌++◌ middle end ∙ tabulate-append (scrambled_at n f) head_size frame_main_size 4)
    ∙ tabulate-append (scrambled_at n f) 0 head_size 2052

-- ---- laws

cond_lt : (b : Bool) (x y n : ℕ) → x < n → y < n → cond b x y < n
cond_lt true x y n h k = h
cond_lt false x y n h k = k

pub scrambled-bytes : (n : ℕ) (f : List ℕ) → Bytes f → Bytes (scrambled n f)
unfolding scrambled_at scrambling_byte
scrambled-bytes n f h =
    tabulate-bytes (scrambled_at n f) 0 frame_size
    (λ q. cond_lt (leb head_size q && ltb q edc_place) (add (get_or f q 0) (scrambling_byte (preset_of n) (q - head_size))) (get_or f q 0) 256
    (add-lt (get_or-byte f q h) (omega arith)) (get_or-byte f q h))

twice : (b : Bool) (a s : ℕ) → cond b (add (cond b (add a s) a) s) (cond b (add a s) a) ≡ a
twice true a s = add_assoc a s s ∙ ap (add a) (add_self s) ∙ add-zero a
twice false a s = refl

-- a frame scrambled twice is as it was
pub scrambled_twice : (n : ℕ) (f : List ℕ) → length f ≡ frame_size → scrambled n (scrambled n f) ≡ f
unfolding scrambled_at
scrambled_twice n f e =
    ext_get_or 0 (scrambled n (scrambled n f)) f (length-tabulate (scrambled_at n (scrambled n f)) frame_size ∙ sym e)
    (λ q h. each q (rw (length-tabulate (scrambled_at n (scrambled n f)) frame_size) at h))
  where
    each : (q : ℕ) → q < frame_size → get_or (scrambled n (scrambled n f)) q 0 ≡ get_or f q 0
    each q h =
        let b = leb head_size q && ltb q edc_place in
        let s = scrambling_byte (preset_of n) (q - head_size) in
        get_d_tabulate (scrambled_at n (scrambled n f)) frame_size q h
        ∙ ap (λ (x : ℕ). cond b (add x s) x) (get_d_tabulate (scrambled_at n f) frame_size q h)
        ∙ twice b (get_or f q 0) s
