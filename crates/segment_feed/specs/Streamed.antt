-- What holds of any calls on what is kept of a flow, from its opening on: segments, or looks of a caller who is killed now and then.
use Rattle.std.specs.Prelude.{◌≡◌, ℕ, suc, ◌+◌, ◌%◌, ◌<◌, true, List, [], ◌∷◌, ◌++◌, length, slice_index}
use Rattle.feed.specs.Engine.{Engine, Layout, run}
use Rattle.feed.specs.Calls.{Bytes, Way, Call, asked, Asked, record_after, all_told, all_bytes, Along}
use Rattle.feed.specs.Opening.{Opening}
use Rattle.feed.specs.Demands.{open_told, Due}
use Rattle.segment.specs.Resend.{circle}
use Rattle.segment.specs.Stream as stream
use Rattle.segment_feed.specs.Segment.{Kept, Heard, take_of, kept_of, look, unheard}
use Rattle.segment_feed.specs.Calls.{sent_of, hearing, handed, door_of, looks_at, look_as, Fits}

-- nothing is held yet: the record that an opening left, and a held buffer
abbrev pub fresh : Opening → List ℕ → Kept
fresh o held = record { flow = o.saved; held = held; start = 0; length = 0 }

-- the looks that calls come to, each call at what it meets
abbrev pub all_seen : {S A : Type 0} → (A → Asked S) → (S → A → List stream.Look) → S → List A → List stream.Look
all_seen ask seen S [] = []
all_seen ask seen S (c ∷ cs) = seen S c ++ all_seen ask seen ((ask c).left S) cs

-- the flow is opened by o, its first byte has number s, and nothing is held yet; then calls of which each passes bytes down, tells words and leaves what `ask` says, by the looks that `seen` says.
-- They go as the engine G goes from x, where the set `first` is alerted at once, and K reads the record; and as feeds by ways of the kind B do, of which `Demand` holds
pub record Streamed {A B D : Type 0} (ask : A → Asked Kept) (seen : Kept → A → List stream.Look) (way : B → Way) (K : Layout D) (G : Engine D) (x : D) (first : ℕ)
    (Demand : List (Call B) → Type 0) (o : Opening) (s : ℕ) (held : List ℕ) (cs : List A) : Type 0 where
  -- the byte passed down at each place is the one that was first consumed or held there: no gap, no repeat, and a resend of other content changes nothing
  pub came-first : (i : ℕ) → i < length (all_bytes ask (fresh o held) cs)
      → (stream.looks s (stream.begun held) (all_seen ask seen (fresh o held) cs)).first i ≡ suc (slice_index (all_bytes ask (fresh o held) cs) i)
  -- and a byte that some segment looked at carried under the number of that place, which is s and the place, round the circle
  pub carried : (i : ℕ) → i < length (all_bytes ask (fresh o held) cs)
      → stream.Carried ((s + i) % circle) (slice_index (all_bytes ask (fresh o held) cs) i) (all_seen ask seen (fresh o held) cs)
  -- the pairs told, opening's and then these, are those of the automaton on the bytes passed down, each once, by offset and then signature
  pub due : Due G x first (all_bytes ask (fresh o held) cs) (open_told o ++ all_told ask (fresh o held) cs)
  -- and the record goes on from there
  pub config : K.config (record_after ask (fresh o held) cs).flow ≡ run G x (all_bytes ask (fresh o held) cs)
  pub offset : K.offset (record_after ask (fresh o held) cs).flow ≡ length (all_bytes ask (fresh o held) cs)
  -- all this is what some feeds did, to which the demands apply
  pub feeds : List (Call B)
  pub consumed : all_bytes (asked way) o.saved feeds ≡ all_bytes ask (fresh o held) cs
  pub told : all_told (asked way) o.saved feeds ≡ all_told ask (fresh o held) cs
  pub left : record_after (asked way) o.saved feeds ≡ (record_after ask (fresh o held) cs).flow
  pub demand : Demand feeds

-- ---- a caller who looks at segments himself, saves as he goes, and is killed now and then

-- he takes a segment, saves the held buffer, saves the held place, feeds what is due, hands over the pairs, and saves the record, in this order; so far he came
-- before he was killed, and he starts again with what is saved. A pair behind the saved offset is not handed over yet: it comes again
pub data Far : Type 0 where
  whole : Far
  placed : Far
  torn : Far

pub record Glance (B : Type 0) : Type 0 where
  pub call : Call B
  pub far : Far

-- what is heard as far as it is saved: the bytes that the saved record has consumed, the words of their pairs, and what is saved; and the look that this is
abbrev pub glanced : {B : Type 0} → (B → Way) → ℕ → Kept → Call B → Far → Heard
glanced way s S c whole = (look (way c.by) (sent_of s c) S c.out).heard
glanced way s S c placed = unheard 0 (kept_of (way c.by) (sent_of s c) S S.flow) c.out
glanced way s S c torn = unheard 0 (record { flow = S.flow; held = (take_of (way c.by) (sent_of s c) S).bytes; start = S.start; length = S.length }) c.out

abbrev pub look_by : {B : Type 0} → (B → Way) → ℕ → Kept → Call B → Far → stream.Look
look_by way s S c whole = look_as c (length (glanced way s S c whole).down)
look_by way s S c placed = look_as c 0
look_by way s S c torn = record { start = c.at; seg = c.piece; eaten = 0; torn = true }

-- as a call on what is kept, and the one look that it is
abbrev pub glancing : {B : Type 0} → (B → Way) → ℕ → Glance B → Asked Kept
glancing way s g = hearing g.call.piece (λ S. glanced way s S g.call g.far)

abbrev pub glance_at : {B : Type 0} → (B → Way) → ℕ → Kept → Glance B → List stream.Look
glance_at way s S g = look_by way s S g.call g.far ∷ []

-- ---- the two statements, of feeds that go as the engine G goes from x

module _ {B D : Type 0} (way : B → Way) (K : Layout D) (G : Engine D) (x : D) (first : ℕ) (Demand : List (Call B) → Type 0) (Fit : B → Type 0) (o : Opening) where
  -- any segments, in whatever order, cut and resent; one that is looked at is fit
  abbrev pub Streams : Type 0
  Streams =
      (s : ℕ) (held : List ℕ) → Bytes held → (cs : List (Call B)) → Along (handed way s) (λ S c. Fits (door_of way s S c ≡ 0 → Fit c.by) c) (fresh o held) cs
      → Streamed (handed way s) (looks_at way s) way K G x first Demand o s held cs

  -- killed as often as may be: what is passed down is still what came first, and each pair is told once, up to the offset that is saved
  abbrev pub Restarts : Type 0
  Restarts =
      (s : ℕ) (held : List ℕ) → Bytes held → (gs : List (Glance B)) → Along (glancing way s) (λ S g. Fits (Fit g.call.by) g.call) (fresh o held) gs
      → Streamed (glancing way s) (glance_at way s) way K G x first Demand o s held gs
