-- Vocabulary of inner contracts: Begins (when a Sync Frame may be laid), then what step.rt and end.rt hand to each other while a frame is laid, and what
-- the buffers of two streams hold then. What `frames::frame` promises is stated with `sync_frame_of` and `buffer_after` of streams.
-- Assumes nothing.
use Rattle.std.specs.Prelude.{◌≡◌, Bool, true, false, cond, ◌&&◌, ◌||◌, List, ℕ, ◌+◌, ◌*◌, ◌<◌, ◌≤◌, eqb, ltb, leb, take}
use Rattle.annexg.specs.Read.{State}
use Rattle.annexg.specs.Sync.{code_for}
use Rattle.octets.specs.Halves.{packed, half_at}
use Rattle.laying.specs.Inner.{Next}
use Rattle.laying.specs.declared.Side.{Side}
use Rattle.layout.specs.Lengths.{frame_bits}
use Rattle.levels.specs.Level.{magnitude}
use Rattle.levels.specs.Inner.{Room}
use Rattle.levels.specs.declared.Running.{Running}
use Rattle.streams.specs.Inner.{Laid}
use Rattle.streams.specs.Streams.{Stream, Two, stream_of, opened, steps, swap_possible, frame_items, ended}
use Rattle.frames.specs.declared.Pair.{Pair}
use Rattle.frames.specs.declared.Plan.{Plan}

-- a frame of SYn may begin from the running record r: 93 half words of 16 bits
pub record Begins (r : Running) (n : ℕ) : Type 0 where
  pub state : State r.state
  pub code : n < 8
  pub room : Room r frame_bits

-- ---- one stream

-- d is the end of the stream m, whose bytes are the first n of the buffer x
pub record Part (d : Side) (x : List ℕ) (n : ℕ) (m : Stream) : Type 0 where
  pub running : d.running ≡ m.running
  pub last : d.tail ≡ m.last
  pub bytes : take n x ≡ packed m.halves

-- ---- two streams

-- a pair is the ends of two streams; their buffers agree in the bytes that it counts as shared
pub record Shows (p : Pair) (x y : List ℕ) (n : ℕ) (t : Two) : Type 0 where
  pub one : Part p.one x n t.one
  pub two : Part p.two y n t.two
  pub agree : take p.shared x ≡ take p.shared y
  pub early : p.shared ≤ n

-- the step over a byte may be made at the byte `at` of both buffers
pub record Ready (p : Pair) (at : ℕ) (x y : List ℕ) : Type 0 where
  pub one : Next p.one at x
  pub two : Next p.two at y
  pub early : p.shared ≤ at
  pub agree : take p.shared x ≡ take p.shared y

-- ---- what a byte does

-- `first` says that Stream 1 is the lower; the lower has State s; w says that a swap is made
abbrev pub plan_of : Bool → ℕ → ℕ → Bool → Plan
plan_of first s b w =
    record {
      first = first;
      copy = ltb b 88 || w;
      one = cond (ltb b 88) false (w && eqb s 4);
      two = ltb b 88 || (w && eqb s 1);
    }

-- by the ends of both streams
unfoldable pub plan_for : Pair → ℕ → Plan
plan_for p b =
    let first = leb (magnitude p.one.running.dsv) (magnitude p.two.running.dsv) in
    let low = cond first p.one p.two in
    plan_of first low.running.state b (swap_possible low.running.state low.tail b)

-- two streams before a byte is laid: where it copies, both are the lower, which is Stream 1 where `first` holds
abbrev pub even_two : Bool → Bool → Two → Two
even_two copy first t = cond copy (record { one = stream_of first t; two = stream_of first t }) t

-- p, x, y became q, v, w: whatever streams they showed, they show them as they are before the byte is laid
pub record Evened (copy first : Bool) (p : Pair) (x y : List ℕ) (at : ℕ) (q : Pair) (v w : List ℕ) : Type 0 where
  pub shows : (t : Two) → Shows p x y at t → Shows q v w at (even_two copy first t)
  pub ready : Ready q at v w

-- ---- the bytes of a frame

-- both streams have their SYNC Code, and a frame may go on from there
pub record Opened (p : Pair) (x y : List ℕ) : Type 0 where
  pub start : Running
  pub code : ℕ
  pub begins : Begins start code
  pub shows : Shows p x y 4 (opened start code)

-- over the first n of the bytes bs p, x, y became q, v, w: whatever streams they showed, they show them after the steps
pub record Stepped (p : Pair) (x y bs : List ℕ) (n : ℕ) (q : Pair) (v w : List ℕ) : Type 0 where
  pub shows : (t : Two) → Shows p x y 4 t → Shows q v w (4 + 2 * n) (steps t (take n bs))

-- ---- a frame's end

-- r and the buffer x are the whole of a stream
pub record Whole (r : Running) (x : List ℕ) (m : Stream) : Type 0 where
  pub running : r ≡ m.running
  pub bytes : x ≡ packed m.halves

-- the first half word of the SYNC Code that the buffer x does not open with, of the two that SYn has in State s
abbrev pub other_half : ℕ → ℕ → List ℕ → ℕ
other_half s n x = cond (eqb (half_at x 0) (code_for s n false)) (code_for s n true) (code_for s n false)

-- the frame's end: whatever stream over a frame of SYn the buffer x held, y holds it as the rule ends it
pub record Closes (r : Running) (n : ℕ) (low : Running) (x y : List ℕ) (q : Running) : Type 0 where
  pub so : (bs : List ℕ) (m : Stream) → Laid r (frame_items n bs) m → Whole low x m → Whole q y (ended r n bs m)
