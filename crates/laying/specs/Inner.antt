-- Vocabulary of inner contracts, for an item laid at the end of a stream: side_after (the end of a stream after an item), Next (when a word may be laid).
-- No theorem cites it.
-- Assumes nothing.
use Rattle.std.specs.Prelude.{Bool, List, ℕ, ◌+◌, ◌<◌, length}
use Rattle.annexg.specs.Read.{State}
use Rattle.channel.specs.Channel.{Item, halves_for, next_for, last_for}
use Rattle.levels.specs.Level.{running_after}
use Rattle.levels.specs.Inner.{Room}
use Rattle.levels.specs.declared.Running.{Running}
use Rattle.laying.specs.declared.Side.{Side}

-- the end of a stream after an item, by a choice, from the running record r
abbrev pub side_after : Running → Item → Bool → Side
side_after r i c =
    record {
      running = running_after r (next_for r.state i c) (halves_for r.state i c);
      tail = last_for r.state i c;
    }

-- a word may be laid at the byte `at` of the buffer x
pub record Next (d : Side) (at : ℕ) (x : List ℕ) : Type 0 where
  pub state : State d.running.state
  pub room : Room d.running 16
  pub long : at + 1 < length x
