-- Segments of a flow go on over a renewal: the caller adds the offset that the record had to the number of the flow's first byte, round the circle.
use Rattle.std.specs.Prelude.{ℕ, List, ◌≡◌}
use Rattle.list_renew.specs.Renewal.{renewal}
use Rattle.laws.specs.Calls.{Via, way_of}
use Rattle.segment_feed.specs.Segment.{Sent, Kept, next_of, take_of, due_of}

-- the segment then, where the next byte had number n; and what is kept then
abbrev pub sent_on : ℕ → Sent → Sent
sent_on n g = record { first = n; start = g.start; bytes = g.bytes }

abbrev pub kept_on : Kept → Kept
kept_on S = record { flow = (renewal S.flow).saved; held = S.held; start = S.start; length = S.length }

-- a look at a segment by the way v after a renewal: the next byte has the number that it had, the segment is taken as it was, and the same bytes are due
pub record GoesOn (v : Via) (L : List ℕ) (g : Sent) (S : Kept) : Type 0 where
  pub next : next_of (way_of (record { list = L; via = v })) (sent_on (next_of (way_of (record { list = L; via = v })) g S) g) (kept_on S) ≡ next_of (way_of (record { list = L; via = v })) g S
  pub taken : take_of (way_of (record { list = L; via = v })) (sent_on (next_of (way_of (record { list = L; via = v })) g S) g) (kept_on S) ≡ take_of (way_of (record { list = L; via = v })) g S
  pub due : due_of (way_of (record { list = L; via = v })) (sent_on (next_of (way_of (record { list = L; via = v })) g S) g) (kept_on S) ≡ due_of (way_of (record { list = L; via = v })) g S

abbrev pub SegmentsGoOn : Type 0
SegmentsGoOn = (v : Via) (L : List ℕ) (g : Sent) (S : Kept) → (renewal S.flow).refusal ≡ 0 → GoesOn v L g S
