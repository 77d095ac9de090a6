-- The split feed: the slots that a frontier takes, rule 14, the split step, and what a call answers and leaves.
use Rattle.std.specs.Prelude.{ℕ, Bool, ◌||◌, not, List, ◌++◌, length, leb, ltb}
use Rattle.rules.specs.Rules.{Rule}
use Rattle.list.specs.Automaton.{accepted}
use Rattle.feed.specs.Engine.{Engine, Outcome, feed}
use Rattle.list_flow.specs.Flow.{flow_layout, feed_rules}
use Rattle.table.specs.Table.{Table, part_count, split_count, row, slots, taken_slots, all_below, joined, split_of, rising_rules}

-- the slots of the split that F takes, up to the first unused one
unfoldable pub taken : Table → ℕ → List ℕ
taken T F = taken_slots (slots T.splits (split_of T.splits F))

-- 14 at F: it is no split, or the slots taken name no part or are more than b
unfoldable pub stuck : ℕ → Table → ℕ → Bool
stuck b T F =
    leb (split_count T.splits) (split_of T.splits F)
    || not (all_below (part_count T.parts) (taken T F))
    || ltb b (length (taken T F))

-- the next frontier: the rows of the slots taken that byte c selects, joined
unfoldable pub split_step : Table → ℕ → ℕ → ℕ
split_step T F c = joined (λ p. row T.classes T.rows p c) (taken T F)

-- pairs follow from the list's accept records; a byte costs the slots taken for it
abbrev pub split : List ℕ → ℕ → Table → Engine ℕ
split L b T =
    record {
      next = split_step T;
      alerts = λ F c. accepted L (split_step T F c);
      cost = λ F. length (taken T F);
      halts = stuck b T;
    }

-- ---- the split feed: 1 to 9, then the longest front of the piece, then 14 where the next byte halts

abbrev pub split_rules : List ℕ → ℕ → Table → List ℕ → ℕ → List ℕ → List Rule
split_rules L b T R at piece = feed_rules L R at piece ++ rising_rules b T

abbrev pub split_feed : List ℕ → ℕ → Table → List ℕ → ℕ → List ℕ → List ℕ → Outcome
split_feed L b T R at piece out = feed (split_rules L b T R at piece) (split L b T) flow_layout R piece out
