-- The frames, one at a time: the judgement, and the main data.
-- Assumes nothing.
use mathlib.Core.Path.{◌≡◌, ap, ap₂, subst, ◌∙◌}
use mathlib.Core.List.{List}
use Prim.Native.Nat.{ℕ, suc, ◌+◌, ◌*◌, ◌-◌, ◌/◌, ◌%◌, ◌<◌, ◌≤◌}
use native.Mathlib.Numerals.{add-one}
use native.Mathlib.Omega.{arith}
use lib.ListN.{length, get_or, take, drop, length-drop}
use lib.Seq.{sets, length-take-le}
use Rattle.lists.proofs.Fill.{Upto, upto_all}
use Rattle.dataframe.specs.Checks.{info_of, number_of, unscrambled, main_of, frame_refusal, main_of_block}
use Rattle.octets.specs.Inner.{Stored, following}
use Rattle.layout.specs.Rows.{frame_of}
use Rattle.layout.specs.Lengths.{main_size, frame_size, frame_main_size}
use Rattle.std.specs.Prelude.{Result, Ok, Err, ⊤}
use Rattle.refusals.specs.declared.Refusal.{Refusal}
use Rattle.refusals.specs.Refusal.{answer_number}
use Rattle.repairer.specs.Answer.{frame_fault, frame_answer, of_frame, in_order, judged}
use Rattle.repairer.specs.declared.Repair.{Repair}
use Rattle.repairer.specs.declared.BlockRefusal.{BlockRefusal}
use Rattle.repairer.proofs.Numbers.{answer_is}
use Rattle.octets.proofs.Copies.{put_stored, upto_row}

-- ---- the judgement

module _ (ys : List ℕ) (k : ℕ) (a : Result Repair BlockRefusal) (h : k < 16) (r : Result ⊤ Refusal) (e : r ≡ frame_answer ys k) where
  opened : judged ys k (16 - k) a ≡ in_order r k (judged ys (k + 1) (16 - (k + 1)) a)
  unfolding judged
  opened =
      let d : 16 - k ≡ suc (16 - (k + 1)) = omega arith in
      rw (d, add-one k, e)

  pub frame_passes : (u : ⊤) → r ≡ Ok u → judged ys k (16 - k) a ≡ judged ys (k + 1) (16 - (k + 1)) a
  frame_passes u p = opened ∙ ap (λ (x : Result ⊤ Refusal). in_order x k (judged ys (k + 1) (16 - (k + 1)) a)) p

  pub frame_fails : (x : Refusal) → r ≡ Err x → judged ys k (16 - k) a ≡ Err (of_frame k x)
  frame_fails x p = opened ∙ ap (λ (y : Result ⊤ Refusal). in_order y k (judged ys (k + 1) (16 - (k + 1)) a)) p

pub judged-none : (ys : List ℕ) (k n : ℕ) (a : Result Repair BlockRefusal) → n ≡ 0 → judged ys k n a ≡ a
unfolding judged
judged-none ys k n a e = rw e

-- the answer of frame k's checks, by what was read of it and of frame 0
pub answer_of :
    (ys : List ℕ) (k i j : ℕ) (f g : List ℕ) (first info : ℕ) (r : Result ⊤ Refusal) → f ≡ frame_of ys 0 → first ≡ number_of f → info ≡ info_of f
    → g ≡ frame_of ys i → answer_number r ≡ frame_refusal first info j g → i ≡ k → j ≡ k → r ≡ frame_answer ys k
unfolding frame_fault
answer_of ys k i j f g first info r a b c d e p q = answer_is ys k r (cc)

-- ---- the main data

-- the byte p of the main data of a block
abbrev pub main_byte : List ℕ → ℕ → ℕ
main_byte ys p = get_or (main_of (frame_of ys (p / frame_main_size))) (p % frame_main_size) 0

-- the main data in a frame
pub part_length : (f : List ℕ) → length f ≡ frame_size → length (take frame_main_size (drop 12 f)) ≡ frame_main_size
part_length f e = length-take-le frame_main_size (drop 12 f) (rw length-drop (omega arith))

-- the main data of frame k, put after those of the frames before it
module _ (ys old xs new f : List ℕ) (k : ℕ) (e : f ≡ unscrambled (frame_of ys k)) (size : length f ≡ frame_size) where
  abbrev part : List ℕ
  part = take frame_main_size (drop 12 f)

  part_byte : (i : ℕ) → i < frame_main_size → get_or part i 0 ≡ main_byte ys (k * frame_main_size + i)
  unfolding main_of
  part_byte i l =
      let a : k ≡ (k * frame_main_size + i) / frame_main_size = omega arith in
      let b : i ≡ (k * frame_main_size + i) % frame_main_size = omega arith in
      ap (λ (g : List ℕ). get_or (take frame_main_size (drop 12 g)) i 0) e
      ∙ ap₂ (λ (x y : ℕ). get_or (take frame_main_size (drop 12 (unscrambled (frame_of ys x)))) y 0) a b

  pub main_more :
      (k + 1) * frame_main_size ≤ length old → new ≡ sets xs (k * frame_main_size) part → Upto (main_byte ys) old xs (k * frame_main_size) → Upto (main_byte ys) old new ((k + 1) * frame_main_size)
  main_more room put u =
      let n : k * frame_main_size + frame_main_size ≡ (k + 1) * frame_main_size = omega arith in
      let stored : Stored (following (k * frame_main_size)) part xs new frame_main_size = put_stored part xs new (k * frame_main_size) frame_main_size (part_length f size) (omega (arith, u.same)) put in
      subst (Upto (main_byte ys) old new) n (upto_row (main_byte ys) old xs new part (k * frame_main_size) frame_main_size part_byte u stored)

pub main_all : (ys old xs : List ℕ) → length old ≡ main_size → Upto (main_byte ys) old xs main_size → xs ≡ main_of_block ys
unfolding main_of_block
main_all ys old xs e u = upto_all (main_byte ys) old xs main_size e u
