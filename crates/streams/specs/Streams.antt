-- The choice between two streams over a Sync Frame (clause 22 of ECMA-268; document 01, "The choice between two streams").
-- Two streams are laid side by side. Choices, half words and running record are carried along, so that a copy takes them all. `sync_frame_of` is the stream shown,
-- `buffer_after` what each of the two buffers lent holds after the frame.
-- Assumes nothing.
use Rattle.std.specs.Prelude.{Bool, true, false, not, cond, ◌&&◌, ◌||◌, List, [], ◌∷◌, ◌++◌, map, ℕ, ◌+◌, eqb, leb, ltb}
use Rattle.annexg.specs.Read.{word_of}
use Rattle.annexg.specs.ZeroRuns.{inside}
use Rattle.octets.specs.Halves.{packed}
use Rattle.channel.specs.Channel.{Item, sync, byte, halves_for, next_for, last_for, join_zeros, swaps}
use Rattle.levels.specs.Level.{zero_at, magnitude, running_after}
use Rattle.levels.specs.declared.Running.{Running}

-- ---- one stream

-- a stream since its start: the choices taken, the half words laid, the last of them, and the running record (State, level, DSV)
pub record Stream : Type 0 where
  pub choices : List Bool
  pub halves : List ℕ
  pub last : ℕ
  pub running : Running

-- nothing laid yet
abbrev pub fresh : Running → Stream
fresh r = record { choices = []; halves = []; last = 0; running = r }

-- an item laid at the end of a stream, by a choice, in the State that is prescribed there
unfoldable pub lay : Stream → Item → Bool → Stream
lay m i c =
    let s = m.running.state in
    record {
      choices = m.choices ++ (c ∷ []);
      halves = m.halves ++ halves_for s i c;
      last = last_for s i c;
      running = running_after m.running (next_for s i c) (halves_for s i c);
    }

-- items laid one after the other, a choice each
unfoldable pub lay_all : Stream → List Item → List Bool → Stream
lay_all m [] cs = m
lay_all m (i ∷ is) [] = m
lay_all m (i ∷ is) (c ∷ cs) = lay_all (lay m i c) is cs

-- ---- Stream 1 and Stream 2

pub record Two : Type 0 where
  pub one : Stream
  pub two : Stream

-- Stream 1 is the lower: its absolute DSV is lower, or both are equal
abbrev pub one_lower : Two → Bool
one_lower t = leb (magnitude t.one.running.dsv) (magnitude t.two.running.dsv)

unfoldable pub lower : Two → Stream
lower t = cond (one_lower t) t.one t.two

-- a frame opens with the Primary code in Stream 1 and the Secondary in Stream 2
unfoldable pub opened : Running → ℕ → Two
opened r n = record { one = lay (fresh r) (sync n) false; two = lay (fresh r) (sync n) true }

-- a swap is possible for byte b in State s after the half word l: b is 88 to 255, s is 1 or 4, and the State 1 word and the State 4 word both have a zero run
-- of 2 to 10 across the join
unfoldable pub swap_possible : ℕ → ℕ → ℕ → Bool
swap_possible s l b = leb 88 b && (swaps s && (inside 2 10 (join_zeros l (word_of 0 b 0)) && inside 2 10 (join_zeros l (word_of 0 b 3))))

-- the same in a stream, by its own State and its own last half word
abbrev pub swap_in : Stream → ℕ → Bool
swap_in m b = swap_possible m.running.state m.last b

-- the swap is made: it is possible in both streams; or in one only, and that one is the lower
unfoldable pub swap_made : Two → ℕ → Bool
swap_made t b = (swap_in t.one b && swap_in t.two b) || cond (swap_in t.one b) (one_lower t) (swap_in t.two b && not (one_lower t))

-- a stream copied over the other, then byte b laid by one choice in Stream 1 and another in Stream 2
abbrev pub copied : Stream → ℕ → Bool → Bool → Two
copied m b c d = record { one = lay m (byte b) c; two = lay m (byte b) d }

-- each stream keeps its prescribed word
abbrev pub kept : Two → ℕ → Two
kept t b = record { one = lay t.one (byte b) false; two = lay t.two (byte b) false }

-- the step over a byte. Bytes 0 to 87: the lower stream is copied over the other, the main word enters Stream 1, the substitution word Stream 2. A swap:
-- the lower is copied over the other, the State 1 word enters Stream 1, the State 4 word Stream 2. Otherwise each keeps its prescribed word. (In State 4
-- the State 1 word is the choice `true`, in State 1 the State 4 word.)
unfoldable pub step : Two → ℕ → Two
step t b =
    let m = lower t in
    cond (ltb b 88) (copied m b false true) (cond (swap_made t b) (copied m b (eqb m.running.state 4) (eqb m.running.state 1)) (kept t b))

unfoldable pub steps : Two → List ℕ → Two
steps t [] = t
steps t (b ∷ bs) = steps (step t b) bs

-- both streams over the bytes bs of a frame with SYNC Code SYn, from the running record r
abbrev pub filled : Running → ℕ → List ℕ → Two
filled r n bs = steps (opened r n) bs

-- ---- the frame's end

abbrev pub frame_items : ℕ → List ℕ → List Item
frame_items n bs = sync n ∷ map byte bs

abbrev pub other_first : List Bool → List Bool
other_first [] = []
other_first (c ∷ cs) = not c ∷ cs

-- the same words after the other SYNC Code of the class, counted anew from the frame's start
unfoldable pub other_code : Running → ℕ → List ℕ → Stream → Stream
other_code r n bs m = lay_all (fresh r) (frame_items n bs) (other_first m.choices)

-- the DSV is over 63 or under −64
abbrev pub beyond : ℕ → Bool
beyond d = ltb (zero_at + 63) d || ltb (d + 64) zero_at

-- beyond these the other code is tried, and kept only if the absolute DSV gets smaller
unfoldable pub changes : Running → ℕ → List ℕ → Stream → Bool
changes r n bs m = beyond m.running.dsv && ltb (magnitude (other_code r n bs m).running.dsv) (magnitude m.running.dsv)

unfoldable pub ended : Running → ℕ → List ℕ → Stream → Stream
ended r n bs m = cond (changes r n bs m) (other_code r n bs m) m

-- the stream shown for a frame with SYNC Code SYn and the bytes bs, from the running record r: the lower at the frame's end
unfoldable pub sync_frame_of : Running → ℕ → List ℕ → Stream
sync_frame_of r n bs = ended r n bs (lower (filled r n bs))

-- ---- the two buffers lent, for Stream 1 (`true`) and for Stream 2 (`false`)

abbrev pub stream_of : Bool → Two → Stream
stream_of first t = cond first t.one t.two

-- the stream shown is the lower
abbrev pub is_shown : Bool → Two → Bool
is_shown first t = cond first (one_lower t) (not (one_lower t))

-- what a buffer holds after the frame. A change of the SYNC Code is made in the buffer shown; the other buffer keeps its own stream
unfoldable pub buffer_after : Bool → Running → ℕ → List ℕ → List ℕ
buffer_after first r n bs =
    let m = stream_of first (filled r n bs) in
    packed (cond (is_shown first (filled r n bs)) (ended r n bs m) m).halves
