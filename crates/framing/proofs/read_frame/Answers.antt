-- `framing::read_frame` meets its contract. The loop keeps the bytes read so far. Assumes nothing.
use Rattle.std.proofs.Common.{◌≡◌, ap, ap₂, ◌∙◌, List, Option, ℕ, ◌+◌, ◌*◌, arith}
use Rattle.lists.proofs.Fill.{upto_none, upto_more, upto_all}
use Rattle.octets.specs.Halves.{bits_at}
use Rattle.layout.specs.Lengths.{frame_bytes}
use Rattle.annexg.specs.Read.{read_word}
use Rattle.channel.specs.Block.{reading_byte}
use Rattle.framing.specs.Frames.{frame_byte}
use Rattle.framing.proofs.read_frame.Goals as goal

-- byte i of the frame at bit p: its word w and the half word f after it, at the bits a and b, were read as r
byte_read :
    (xs : List ℕ) (p i a b w f : ℕ) (r : Option ℕ) → w ≡ bits_at xs a 16 → f ≡ bits_at xs b 16 → r ≡ read_word w f → a ≡ p + 32 + 16 * i → b ≡ p + 32 + 16 * i + 16
    → reading_byte r ≡ frame_byte xs p i
unfolding frame_byte
byte_read xs p i a b w f r hw hf hr ha hb = ap reading_byte (hr ∙ ap₂ read_word (hw ∙ ap (λ j. bits_at xs j 16) ha) (hf ∙ ap (λ j. bits_at xs j 16) hb))

pub loop-i-init : goal.loop-i-init
loop-i-init c = upto_none _ _

pub loop-i-preserved : goal.loop-i-preserved
loop-i-preserved c =
    let read = c.unwrap_or.ensures ∙ byte_read c.args.stream.now c.args.at c.loop-i.i _ _ _ _ _ c.half_at_bit-word.ensures c.half_at_bit-following.ensures c.read.ensures (omega arith) (omega arith) in
    upto_more _ _ _ _ _ (omega arith) read c.loop-i.invariant

pub returns : goal.returns
returns c =
    let all : c.loop-i.i ≡ frame_bytes = omega arith in
    upto_all _ _ _ frame_bytes (omega arith) (rw all at c.loop-i.invariant)
