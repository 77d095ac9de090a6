-- Segments as calls on what is kept of a flow, of any kind: what each hears and leaves, and the looks that it comes to.
use Rattle.std.specs.Prelude.{ℕ, zero, suc, ◌*◌, ◌<◌, false, cond, List, [], ◌∷◌, ◌++◌, length, take}
use Rattle.rules.specs.Rules.{verdict}
use Rattle.feed.specs.Calls.{Bytes, Way, Asked, Call}
use Rattle.segment.specs.Resend.{circle}
use Rattle.segment.specs.Stream as stream
use Rattle.segment_feed.specs.Segment.{Sent, Kept, Heard, Look, look_on, looked, most_looks, door_rules, at_door, feed_segment}

-- ---- as a segment: it states the number of its first byte

-- on a flow whose first byte has number s
abbrev pub sent_of : {B : Type 0} → ℕ → Call B → Sent
sent_of s c = record { first = s; start = c.at; bytes = c.piece }

-- what it hears, on what is kept
abbrev pub hears : {B : Type 0} → (B → Way) → ℕ → Kept → Call B → Heard
hears way s S c = feed_segment (way c.by) (sent_of s c) S c.out

-- bytes of which so much is heard, as a call on what is kept: the bytes passed down, the words told, and what is kept then
abbrev pub hearing : List ℕ → (Kept → Heard) → Asked Kept
hearing piece hears = record { piece = piece; eaten = λ S. (hears S).down; spoken = λ S. take (2 * (hears S).pairs) (hears S).words; left = λ S. (hears S).kept }

abbrev pub handed : {B : Type 0} → (B → Way) → ℕ → Call B → Asked Kept
handed way s c = hearing c.piece (λ S. hears way s S c)

-- it is refused before it is looked at
abbrev pub door_of : {B : Type 0} → (B → Way) → ℕ → Kept → Call B → ℕ
door_of way s S c = verdict (door_rules (way c.by) (sent_of s c) S)

-- ---- the looks: each at the segment, with the bytes that it passed down

abbrev pub look_as : {B : Type 0} → Call B → ℕ → stream.Look
look_as c n = record { start = c.at; seg = c.piece; eaten = n; torn = false }

-- of the k looks that follow l
abbrev pub looks_from : {B : Type 0} → (B → Way) → ℕ → Call B → ℕ → Look → List stream.Look
looks_from way s c zero l = []
looks_from way s c (suc k) l =
    let m = looked k (way c.by) (sent_of s c) l in
    let here : List stream.Look = look_as c (length (look_on (way c.by) (sent_of s c) m).heard.down) ∷ [] in
    looks_from way s c k l ++ cond m.on here []

abbrev pub looks_at : {B : Type 0} → (B → Way) → ℕ → Kept → Call B → List stream.Look
looks_at way s S c = looks_from way s c most_looks (at_door (way c.by) (sent_of s c) S c.out)

-- ---- what is asked of a segment: its number and its bytes are some, and it is fit

pub record Fits {B : Type 0} (Fit : Type 0) (c : Call B) : Type 0 where
  pub number : c.at < circle
  pub bytes : Bytes c.piece
  pub fit : Fit
