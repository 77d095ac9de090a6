-- Segments by an index: as every segment, by the way to feed from a hint; and the split where the flow then stands.
use Rattle.std.specs.Prelude.{ℕ, zero, suc, ◌*◌, cond, List, length, drop, eqb}
use Rattle.feed.specs.Calls.{Way}
use Rattle.list_flow.specs.Flow.{offset_of}
use Rattle.index.specs.Stand.{Stand, indexed, stand_layout, stand_rules, stood_at}
use Rattle.segment_feed.specs.Segment.{Sent, Kept, Heard, Look, due_of, looked, most_looks, at_door, feed_segment}

-- by the splits S and the index X, from the split h where the flow stands there
abbrev pub stand_way : List ℕ → List ℕ → ℕ → Way
stand_way S X h = record { Config = Stand; rules = stand_rules S X h; engine = indexed S X; layout = stand_layout S X h }

-- the entry point
abbrev pub stand_segment : List ℕ → List ℕ → ℕ → Sent → Kept → List ℕ → Heard
stand_segment S X h = feed_segment (stand_way S X h)

-- ---- the split that it answers: what the last feed among its looks answers; the hint where there is none, so with every refusal at the door

-- after one look more, where n was answered before it: what its feed answers, where the look follows and something is due
unfoldable pub stood_more : List ℕ → List ℕ → ℕ → Sent → Look → ℕ → ℕ
stood_more S X h g l n =
    let K = l.heard.kept in
    let d = due_of (stand_way S X h) g K in
    let fed = stood_at S X h K.flow (offset_of K.flow) d (drop (2 * l.heard.pairs) l.heard.words) in
    cond l.on (cond (eqb (length d) 0) n fed) n

-- after k looks from l on
unfoldable pub stood_after : ℕ → List ℕ → List ℕ → ℕ → Sent → Look → ℕ
stood_after zero S X h g l = h
stood_after (suc k) S X h g l = stood_more S X h g (looked k (stand_way S X h) g l) (stood_after k S X h g l)

abbrev pub stood_by : List ℕ → List ℕ → ℕ → Sent → Kept → List ℕ → ℕ
stood_by S X h g K out = stood_after most_looks S X h g (at_door (stand_way S X h) g K out)
