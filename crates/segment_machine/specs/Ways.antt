-- Segments over the feed by an automaton with bits and counters.
use Rattle.std.specs.Prelude.{ℕ, List}
use Rattle.feed.specs.Calls.{Way}
use Rattle.machine.specs.declared.Config.{Config}
use Rattle.machine.specs.Machine.{machine}
use Rattle.machine.specs.Record.{flow_layout}
use Rattle.machine.specs.Extended.{feed_rules}
use Rattle.segment_feed.specs.Segment.{Sent, Kept, Heard, feed_segment}

abbrev pub machine_way : List ℕ → List ℕ → Way
machine_way M P = record { Config = Config; rules = feed_rules M P; engine = machine M P; layout = flow_layout }

-- the entry point
abbrev pub machine_segment : List ℕ → List ℕ → Sent → Kept → List ℕ → Heard
machine_segment M P = feed_segment (machine_way M P)
