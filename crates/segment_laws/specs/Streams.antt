-- Lists and machines as kinds of segments, and what holds of any segments of each.
use Rattle.std.specs.Prelude.{ℕ, ◌<◌, false, List, [], ◌∷◌, ◌⊎◌, ◌≡◌, length}
use Rattle.rules.specs.Rules.{verdict}
use Rattle.rules.specs.Words.{Row, InWords}
use Rattle.list.specs.Automaton.{start, accepted}
use Rattle.feed.specs.Calls.{Bytes, Way}
use Rattle.list_flow.specs.Flow.{flow_layout, frontier_of, offset_of}
use Rattle.list_flow.specs.Opening.{open_flow}
use Rattle.list_feed.specs.Plain.{plain}
use Rattle.table.specs.Table.{split_count}
use Rattle.index.specs.Right.{IsAt, Right}
use Rattle.machine.specs.Machine.{machine, first, first_alerts}
use Rattle.machine.specs.Record as x
use Rattle.machine.specs.Extended.{extended_open}
use Rattle.machine.specs.Words.{feed_words}
use Rattle.laws.specs.Calls.{Via, way_of, OnList, words_by}
use Rattle.laws.specs.Demands.{Swapped}
use Rattle.machine_laws.specs.Calls as machines
use Rattle.machine_laws.specs.Demands.{Demand2Opened}
use Rattle.segment.specs.Resend.{most_segment, held_size}
use Rattle.segment_feed.specs.Segment.{Sent, Kept, take_of, due_of, unheard, door_rules, feed_segment}
use Rattle.segment_feed.specs.Streamed.{Streams, Restarts}
use Rattle.segment_index.specs.Standing.{stand_way, stand_segment, stood_by}

-- ---- a flow of a list, each segment by the list alone, through a table, by a matrix or by an index

abbrev pub ListStreams : Type 0
ListStreams =
    (L R out : List ℕ) → (open_flow L R out).refusal ≡ 0
    → Streams way_of flow_layout (plain L) (start L) (accepted L (start L)) (Swapped L (open_flow L R out)) (OnList L) (open_flow L R out)

abbrev pub ListRestarts : Type 0
ListRestarts =
    (L R out : List ℕ) → (open_flow L R out).refusal ≡ 0
    → Restarts way_of flow_layout (plain L) (start L) (accepted L (start L)) (Swapped L (open_flow L R out)) (OnList L) (open_flow L R out)

-- ---- a flow of a machine

abbrev pub MachineStreams : Type 0
MachineStreams =
    (M P : List ℕ) → Bytes M → Bytes P → (R out : List ℕ) → (extended_open M P R out).refusal ≡ 0
    → Streams machines.way_of x.flow_layout (machine M P) (first P) (first_alerts P) (Demand2Opened M P (extended_open M P R out)) (machines.OnMachine M P) (extended_open M P R out)

abbrev pub MachineRestarts : Type 0
MachineRestarts =
    (M P : List ℕ) → Bytes M → Bytes P → (R out : List ℕ) → (extended_open M P R out).refusal ≡ 0
    → Restarts machines.way_of x.flow_layout (machine M P) (first P) (first_alerts P) (Demand2Opened M P (extended_open M P R out)) (machines.OnMachine M P) (extended_open M P R out)

-- ---- demand 1 of segments, by any way whose rules for a feed of no bytes are in words the rows `ws`

pub record SegmentRefuses (W : Way) (ws : List Row) (g : Sent) (S : Kept) (out : List ℕ) : Type 0 where
  -- each number exactly when its words hold and those of no row before it do: 18 first, for a segment over 65,535 bytes, a held buffer not of 4,096 or a held length over that; then those
  -- of the feed, of no bytes from the flow's own offset
  pub said : InWords ((18, ((most_segment < length g.bytes) ⊎ (length S.held ≡ held_size → ⊥)) ⊎ (held_size < S.length)) ∷ ws) (verdict (door_rules W g S))
  -- then it is the answer: no byte is passed down, no pair told, not all; and no buffer changes, nor the held place
  pub refused : (verdict (door_rules W g S) ≡ 0 → ⊥) → feed_segment W g S out ≡ unheard (verdict (door_rules W g S)) S out
  -- one that none of them refuses, and of which nothing is due, answers what taking it answers: 18 where it can't be held
  pub taken : verdict (door_rules W g S) ≡ 0 → length (due_of W g S) ≡ 0 → (feed_segment W g S out).refusal ≡ (take_of W g S).refusal
  -- a refusal never says that nothing is due any more
  pub not-all : ((feed_segment W g S out).refusal ≡ 0 → ⊥) → (feed_segment W g S out).all ≡ false

-- by the list alone, through a table, by a matrix or by an index
abbrev pub SegmentsRefuse : Type 0
SegmentsRefuse =
    (v : Via) (L : List ℕ) (g : Sent) (S : Kept) (out : List ℕ) → SegmentRefuses (way_of (record { list = L; via = v })) (words_by v L S.flow (offset_of S.flow) []) g S out

-- by a machine
abbrev pub MachineSegmentsRefuse : Type 0
MachineSegmentsRefuse =
    (M P : List ℕ) (g : Sent) (S : Kept) (out : List ℕ) → SegmentRefuses (machines.way_of (record { moves = M; programs = P })) (feed_words M P S.flow (x.offset_of S.flow) []) g S out

-- the split that a segment by an index answers: with a refusal at the door the hint handed in
abbrev pub HintsKept : Type 0
HintsKept = (S X : List ℕ) (h : ℕ) (g : Sent) (K : Kept) (out : List ℕ) → (verdict (door_rules (stand_way S X h) g K) ≡ 0 → ⊥) → stood_by S X h g K out ≡ h

-- by a right index all else is the same for every hint
abbrev pub HintsAlike : Type 0
HintsAlike =
    (L S X : List ℕ) → Right L S X → (h k : ℕ) (g : Sent) → Bytes g.bytes → (K : Kept) (out : List ℕ) → Bytes K.held → stand_segment S X h g K out ≡ stand_segment S X k g K out

-- n is the split where a flow with the record R stands: its set is the frontier, or n is the number of splits where none is
abbrev pub StandsFor : List ℕ → List ℕ → ℕ → Type 0
StandsFor S R n = IsAt S (frontier_of R) n ⊎ ((n ≡ split_count S) × ((j : ℕ) → IsAt S (frontier_of R) j → ⊥))

-- no rule of a feed refused a look
abbrev pub Fair : ℕ → Type 0
Fair n = (n ≡ 0) ⊎ ((n ≡ 14) ⊎ (n ≡ 18))

-- by a right index, where the hint is the split where the flow stands, and the answer is 0, 14 or 18, the split answered is the one where it then stands
abbrev pub SplitsAnswered : Type 0
SplitsAnswered =
    (L S X : List ℕ) → Right L S X → (h : ℕ) (g : Sent) → Bytes g.bytes → (K : Kept) (out : List ℕ) → Bytes K.held → Bytes K.flow → StandsFor S K.flow h
    → Fair (stand_segment S X h g K out).refusal → StandsFor S (stand_segment S X h g K out).kept.flow (stood_by S X h g K out)
