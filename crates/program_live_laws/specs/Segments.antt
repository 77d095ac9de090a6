-- A live line of segments that is killed at any time and started again: what a start keeps of the lines are those of the sender's flow, as far as it was passed down.
use Rattle.std.specs.Prelude.{ℕ, ◌+◌, ◌%◌, ◌≤◌, ◌<◌, true, false, List, [], ◌∷◌, ◌++◌, ◌≡◌, length, take, drop}
use Rattle.feed.specs.Calls.{Bytes}
use Rattle.list_flow.specs.Flow.{offset_of}
use Rattle.list_flow.specs.Opening.{open_flow}
use Rattle.segment.specs.Resend.{circle, held_size, most_segment, ahead}
use Rattle.segment_feed.specs.Segment.{Sent, Kept, next_of}
use Rattle.segment_feed.specs.Ways.{plain_way, plain_segment}
use Rattle.program_text.specs.Text.{last_line}
use Rattle.program_turn.specs.State.{whole_numbers, word_at, short_at, flow_of, flow_offset, kind_at, first_at, segments_kind}
use Rattle.program_turn.specs.Turn.{Turn, no_words, no_record, turn_of}
use Rattle.program_live_laws.specs.Killed.{Disk, kept, Event, turned, cut, after, after_all, begun, lines_to}

-- a segment: the number of its first byte, and its bytes
pub record Segment : Type 0 where
  pub start : ℕ
  pub bytes : List ℕ

-- the turn on it
abbrev pub turn_on : List ℕ → Disk → Segment → Turn
turn_on L D g = turn_of true false L D.state true g.start g.bytes

-- so many bytes were passed down; and the number of the next one, which a start says to the sender
abbrev pub passed : Disk → ℕ
passed D = flow_offset D.state

abbrev pub next_number : Disk → ℕ
next_number D = (short_at D.state first_at + offset_of (flow_of D.state)) % circle

-- no segment came yet
abbrev pub Untouched : Disk → Type 0
Untouched D = word_at D.state kind_at ≡ segments_kind

-- as far from the next byte a sender sends, at most: a quarter of the circle
abbrev pub reach : ℕ
reach = 1073741824

-- a segment of the flow B, whose first byte has number s: bytes of it from some place on, under the number of that place. The first segment begins with the flow; after a
-- kill the sender begins anywhere in his reach
pub record Sends (B : List ℕ) (s : ℕ) (D : Disk) (g : Segment) : Type 0 where
  pub from : ℕ
  pub number : g.start ≡ (s + from) % circle
  pub bytes : g.bytes ≡ take (length g.bytes) (drop from B)
  pub short : length g.bytes ≤ most_segment
  pub begins : Untouched D → from ≡ 0
  pub behind : passed D ≤ from + reach
  pub before : from ≤ passed D + reach

-- each segment is one of the flow, at what it meets
abbrev pub AllSent : List ℕ → List ℕ → ℕ → Disk → List (Event Segment) → Type 0
AllSent L B s D [] = Unit {0}
AllSent L B s D (turned g ∷ es) = Sends B s D g × AllSent L B s (after (turn_on L) D (turned g)) es
AllSent L B s D (cut x ∷ es) = AllSent L B s (after (turn_on L) D (cut x)) es

-- what is kept is the lines of all pairs due in the bytes passed down, which are the front of the flow, with offsets from its opening on: none is lost, none is there twice
pub record Heard (L B : List ℕ) (s : ℕ) (D : Disk) : Type 0 where
  pub within : passed D ≤ length B
  pub lines : kept D ≡ lines_to L B (passed D)
  -- the next number is that of the next byte of the flow
  pub next : (Untouched D → ⊥) → next_number D ≡ (s + passed D) % circle
  pub none : Untouched D → passed D ≡ 0
  -- no turn on a segment of the flow is the last, and one that brings the next byte moves
  pub stays : (g : Segment) → Sends B s D g → (turn_on L D g).last ≡ false
  pub moves : (g : Segment) (w : Sends B s D g) → w.from ≤ passed D → passed D < w.from + length g.bytes → passed D < passed (after (turn_on L) D (turned g))
  -- and where nothing more comes the turn adds the last line
  pub ended : (start : ℕ) (rest : List ℕ) → kept D ++ (turn_of true false L D.state false start rest).text ≡ lines_to L B (passed D) ++ last_line 0 (passed D)

-- whatever happens behind an opening that is not refused, to segments of a flow whose bytes and whose lines 64 bits count
abbrev pub SegmentsKilled : Type 0
SegmentsKilled =
    (L B : List ℕ) → (open_flow L no_record no_words).refusal ≡ 0 → Bytes B → length B < whole_numbers → length (lines_to L B (length B)) < whole_numbers
    → (s : ℕ) → s < circle → (es : List (Event Segment)) → AllSent L B s (begun L segments_kind) es
    → Heard L B s (after_all (turn_on L) (begun L segments_kind) es)

-- `again`: a segment that has to be sent again begins ahead of the next byte still, so that nothing of it was passed down
abbrev pub AgainAhead : Type 0
AgainAhead =
    (L : List ℕ) (g : Sent) (K : Kept) (out : List ℕ) → length K.held ≡ held_size → K.length ≤ held_size → length g.bytes ≤ most_segment
    → (plain_segment L g K out).refusal ≡ 18 → ahead (next_of (plain_way L) g (plain_segment L g K out).kept) g.start ≡ true
