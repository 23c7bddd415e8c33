-- Serves the code: what its types mean, a segment as the reader's answer has it, with its purge minute and the count of its places, and an array of them.
use Rattle.std.specs.Prelude.{◌≤◌, ◌≡◌, List, ◌++◌, length, take, drop, replicate}
use Rattle.laws.specs.Lists.{All}
use Rattle.lines.specs.declared.End.TheVariants.{Nothing}
use Rattle.codes.specs.Places.{capacity}
use Rattle.segments.specs.Segments as segments
use Rattle.segments.specs.Segments.{most}
use Rattle.segments.specs.declared.Segment.{Segment}
use Rattle.segments.specs.declared.Segments.{Segments}

abbrev pub seen : segments.Segment → Segment
seen g = record { start = g.start; block = g.block; past = g.past; ended = g.ended; purge = g.content.purge; count = length g.content.places }

-- ---- segments by value: these, and behind them ones that are all zeros
unfoldable pub unread : List Segment
unread = replicate most (record { start = 0; block = 0; past = 0; ended = Nothing; purge = 0; count = 0 })

abbrev pub segments_for : List Segment → Segments
segments_for gs = record { held = gs ++ drop (length gs) unread; count = length gs }

abbrev pub segments_held : Segments → List Segment
segments_held gs = take gs.count gs.held

-- a segment has at most 120 places
abbrev pub Few : Segment → Type 0
Few g = g.count ≤ capacity

-- there is room for eight
pub record Sized (gs : Segments) : Type 0 where
  pub long : length gs.held ≡ most
  pub few : gs.count ≤ most
  pub each : All Few gs.held
