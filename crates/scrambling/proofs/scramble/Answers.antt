-- `scrambling::scramble` meets its contract: each turn scrambles one byte. Assumes nothing.
use mathlib.Core.Path.{◌≡◌, ap, ap₂, ◌∙◌}
use mathlib.Core.List.{List}
use Prim.Native.Nat.{ℕ}
use lib.Bits.{bit_xor}
use lib.ListN.{length, get_or, take, drop, length-drop}
use lib.Seq.{length-take-le, get_or-take, get_or-drop}
use borrow.Author.Rules.{rules}
use borrow.Rule.Slice.PartMut.{put_mid}
use native.Mathlib.Omega.{arith}
use Rattle.lists.proofs.Fill.{upto_none, upto_more, upto_all, get_d_tabulate}
use Rattle.field.specs.Field.{add}
use Rattle.layout.specs.Lengths.{head_size, frame_main_size, frame_size}
use Rattle.scrambling.specs.Scrambling.{preset_of, scrambling_byte}
use Rattle.scrambling.proofs.Scrambled.{main_byte, scrambled_parts}
use Rattle.scrambling.proofs.scramble.Goals as goal

main_length : (f : List ℕ) → length f ≡ frame_size → length (take frame_main_size (drop head_size f)) ≡ frame_main_size
main_length f e = length-take-le frame_main_size (drop head_size f) (omega (arith, length-drop head_size f))

pub loop-i-init : goal.loop-i-init
loop-i-init c = upto_none _ _

pub loop-i-preserved : goal.loop-i-preserved
unfolding add
loop-i-preserved c =
    let n : ℕ = c.args.number in
    let f = c.args.frame in
    let i : ℕ = c.loop-i.i in
    let w = c.loop-i.invariant in
    let main : length (take frame_main_size (drop head_size f)) ≡ frame_main_size = main_length f (search rules) in
    let byte = w.left i (omega arith) ∙ get_or-take frame_main_size (drop head_size f) i 0 (omega arith) ∙ get_or-drop head_size f i 0 in
    let key = ap (λ (x : List ℕ). get_or x i 0) c.scrambling_bytes-s.ensures ∙ get_d_tabulate (scrambling_byte (preset_of n)) frame_main_size i (omega arith) in
    upto_more (main_byte n f) _ _ i _ (omega (arith, w.same)) (ap₂ bit_xor byte key) w

pub returns : goal.returns
returns c =
    let n : ℕ = c.args.number in
    let f = c.args.frame in
    let main : length (take frame_main_size (drop head_size f)) ≡ frame_main_size = main_length f (search rules) in
    let e : c.loop-i.i ≡ frame_main_size = omega arith in
    ap (put_mid head_size frame_main_size f) (upto_all (main_byte n f) _ c.loop-i.byte-items frame_main_size main (rw e at c.loop-i.invariant))
    ∙ scrambled_parts n f (search rules)
