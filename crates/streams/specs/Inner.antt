-- Vocabulary of inner contracts, and of the laws of permitted streams: extended (items laid after a stream, all at once), laid_by (the stream of choices),
-- Laid (a stream is that of permitted choices). No contract of an entry point cites it.
-- Assumes nothing.
use Rattle.std.specs.Prelude.{◌≡◌, Bool, List, ◌++◌, T}
use Rattle.channel.specs.Channel.{Item, permitted, stream, state_after, last_after}
use Rattle.levels.specs.Level.{running_after}
use Rattle.levels.specs.declared.Running.{Running}
use Rattle.streams.specs.Streams.{Stream, fresh}

-- a stream with items laid after it, all at once
unfoldable pub extended : Stream → List Item → List Bool → Stream
extended m js ds =
    record {
      choices = m.choices ++ ds;
      halves = m.halves ++ stream m.running.state js ds;
      last = last_after m.running.state m.last js ds;
      running = running_after m.running (state_after m.running.state js ds) (stream m.running.state js ds);
    }

unfoldable pub laid_by : Running → List Item → List Bool → Stream
laid_by a is cs = extended (fresh a) is cs

-- m is the stream of permitted choices over the items, from the record a
pub record Laid (a : Running) (is : List Item) (m : Stream) : Type 0 where
  pub ok : T (permitted a.state 0 is m.choices)
  pub same : m ≡ laid_by a is m.choices
