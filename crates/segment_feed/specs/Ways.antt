-- Segments over the plain feed and over the split feed.
use Rattle.std.specs.Prelude.{ℕ, List}
use Rattle.feed.specs.Calls.{Way}
use Rattle.list_flow.specs.Flow.{flow_layout, feed_rules}
use Rattle.list_feed.specs.Plain.{plain}
use Rattle.table.specs.Table.{Table}
use Rattle.table_feed.specs.Split.{split, split_rules}
use Rattle.segment_feed.specs.Segment.{Sent, Kept, Heard, feed_segment}

abbrev pub plain_way : List ℕ → Way
plain_way L = record { Config = ℕ; rules = feed_rules L; engine = plain L; layout = flow_layout }

abbrev pub split_way : List ℕ → ℕ → Table → Way
split_way L b T = record { Config = ℕ; rules = split_rules L b T; engine = split L b T; layout = flow_layout }

-- the entry points
abbrev pub plain_segment : List ℕ → Sent → Kept → List ℕ → Heard
plain_segment L = feed_segment (plain_way L)

abbrev pub split_segment : List ℕ → ℕ → Table → Sent → Kept → List ℕ → Heard
split_segment L b T = feed_segment (split_way L b T)
