-- A flow that is fed by segments, by any way to feed: each look takes the segment and feeds what is due, until nothing is due or there is no room.
use Rattle.std.specs.Prelude.{ℕ, zero, suc, ◌+◌, ◌*◌, ◌%◌, Bool, false, cond, List, [], ◌∷◌, ◌++◌, length, take, drop, ◌==◌}
use Rattle.rules.specs.Rules.{Rule, verdict}
use Rattle.feed.specs.Engine.{Outcome}
use Rattle.feed.specs.Calls.{Way, fed_by}
use Rattle.segment.specs.Resend.{circle, bad_sizes, Held, taking, due}

-- a segment: the number of the flow's first byte, the number of its own first byte, and its bytes
pub record Sent : Type 0 where
  pub first : ℕ
  pub start : ℕ
  pub bytes : List ℕ

-- what is kept of a flow between segments: its record, the held buffer, and the held place: the number of its first byte and how many bytes are held
pub record Kept : Type 0 where
  pub flow : List ℕ
  pub held : List ℕ
  pub start : ℕ
  pub length : ℕ

-- what is answered and left: a refusal's number or 0, the bytes passed down, the pairs told, whether nothing is due any more, the words, and what is kept
pub record Heard : Type 0 where
  pub refusal : ℕ
  pub down : List ℕ
  pub pairs : ℕ
  pub all : Bool
  pub words : List ℕ
  pub kept : Kept

-- ---- one look, by the way W

-- the number of the next byte: the place in the flow moves on only by the bytes that the feed consumed
abbrev pub next_of : Way → Sent → Kept → ℕ
next_of W g S = (g.first + W.layout.offset S.flow) % circle

-- the segment is taken
abbrev pub take_of : Way → Sent → Kept → Held
take_of W g S = taking (next_of W g S) S.held S.start S.length g.start g.bytes

-- the bytes that are then due
abbrev pub due_of : Way → Sent → Kept → List ℕ
due_of W g S =
    let h = take_of W g S in due (next_of W g S) h.bytes h.start h.length g.start g.bytes

-- they are fed, from the flow's own offset on
abbrev pub fed_of : Way → Sent → Kept → List ℕ → Outcome
fed_of W g S out = fed_by W S.flow (W.layout.offset S.flow) (due_of W g S) out

-- what is kept then, with the record R
abbrev pub kept_of : Way → Sent → Kept → List ℕ → Kept
kept_of W g S R =
    let h = take_of W g S in record { flow = R; held = h.bytes; start = h.start; length = h.length }

-- what is answered and left so far, and whether a look follows
pub record Look : Type 0 where
  pub on : Bool
  pub heard : Heard

-- where nothing is due, the answer is what taking the segment answered
abbrev pub idle : Way → Sent → Kept → List ℕ → Look
idle W g S out =
    let h = take_of W g S in
    record { on = false; heard = record { refusal = h.refusal; down = []; pairs = 0; all = (h.refusal == 0); words = out; kept = kept_of W g S S.flow } }

-- else what the feed answered, and another look follows where all of it was consumed
abbrev pub busy : Way → Sent → Kept → Outcome → Look
busy W g S f =
    record { on = f.all; heard = record { refusal = f.refusal; down = take f.bytes (due_of W g S); pairs = f.pairs; all = false; words = f.words; kept = kept_of W g S f.saved } }

unfoldable pub look : Way → Sent → Kept → List ℕ → Look
look W g S out = cond (length (due_of W g S) == 0) (idle W g S out) (busy W g S (fed_of W g S out))

-- ---- looks, one after the other

-- what was heard so far, and what a look after that hears
unfoldable pub behind : Heard → Heard → Heard
behind a b =
    record {
      refusal = b.refusal;
      down = a.down ++ b.down;
      pairs = a.pairs + b.pairs;
      all = b.all;
      words = take (2 * a.pairs) a.words ++ b.words;
      kept = b.kept;
    }

-- the look that follows, with the words behind the pairs told
abbrev pub look_on : Way → Sent → Look → Look
look_on W g l = look W g l.heard.kept (drop (2 * l.heard.pairs) l.heard.words)

-- one look more where one follows
unfoldable pub more : Way → Sent → Look → Look
more W g l = cond l.on (record { on = (look_on W g l).on; heard = behind l.heard (look_on W g l).heard }) l

-- k looks more at most
unfoldable pub looked : ℕ → Way → Sent → Look → Look
looked zero W g l = l
looked (suc k) W g l = more W g (looked k W g l)

-- as many as a segment can need: its part before the held one, the held one, its part behind that, and a look that finds nothing due
abbrev pub most_looks : ℕ
most_looks = 4

-- ---- a segment

-- 18 first, for the sizes; then the rules of a feed of no bytes, from the flow's own offset
abbrev pub door_rules : Way → Sent → Kept → List Rule
door_rules W g S = (18, bad_sizes (length S.held) S.length (length g.bytes)) ∷ W.rules S.flow (W.layout.offset S.flow) []

-- nothing is heard yet
abbrev pub unheard : ℕ → Kept → List ℕ → Heard
unheard n S out = record { refusal = n; down = []; pairs = 0; all = false; words = out; kept = S }

-- a rule that refuses it there changes nothing, and no look follows
abbrev pub at_door : Way → Sent → Kept → List ℕ → Look
at_door W g S out =
    let n = verdict (door_rules W g S) in record { on = (n == 0); heard = unheard n S out }

-- else it is looked at
unfoldable pub feed_segment : Way → Sent → Kept → List ℕ → Heard
feed_segment W g S out = (looked most_looks W g (at_door W g S out)).heard
