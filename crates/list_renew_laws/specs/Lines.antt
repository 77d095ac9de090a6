-- Segments with renewals between them: a line that is renewed at any points tells, with the bytes before the last renewal added to each offset, what one flow without a largest offset would.
use Rattle.std.specs.Prelude.{ℕ, suc, ◌+◌, ◌*◌, ◌%◌, ◌<◌, List, [], ◌++◌, ◌≡◌, length, get_or, take}
use Rattle.list.specs.Automaton.{start}
use Rattle.feed.specs.Engine.{run}
use Rattle.feed.specs.Calls.{Bytes, Asked, record_after, all_told, all_bytes, Along}
use Rattle.feed.specs.Opening.{Opening}
use Rattle.feed.specs.Demands.{open_told}
use Rattle.list_flow.specs.Flow.{frontier_of, offset_of}
use Rattle.list_flow.specs.Opening.{open_flow}
use Rattle.list_feed.specs.Plain.{plain}
use Rattle.segment.specs.Resend.{circle}
use Rattle.segment.specs.Stream as stream
use Rattle.segment_feed.specs.Segment.{Kept, Heard}
use Rattle.segment_feed.specs.Calls.{hears, looks_at, Fits, door_of}
use Rattle.segment_feed.specs.Streamed.{fresh, all_seen}
use Rattle.list_renew.specs.Renewal.{renewal}
use Rattle.laws.specs.Calls.{Call, way_of, OnList}
use Rattle.laws.specs.Demands.{Due}
use Rattle.list_renew_laws.specs.Renewed.{raised, Flow, renew_on}
use Rattle.list_renew_laws.specs.Segments.{kept_on}

-- what a caller keeps of a line: the bytes before the last renewal, and what is kept of the flow
pub record Lasting : Type 0 where
  pub before : ℕ
  pub kept : Kept

-- of these the flow
abbrev pub flow_of : Lasting → Flow
flow_of Z = record { before = Z.before; saved = Z.kept.flow }

-- what he does: a segment by any way, or a renewal
pub data Deed : Type 0 where
  handing : Call → Deed
  renewing : Deed

-- the number of the byte at offset 0, where that of the line's first byte is s: he adds the offset that the record had, at each renewal, round the circle
abbrev pub first_of : ℕ → Lasting → ℕ
first_of s Z = (s + Z.before) % circle

-- what a segment hears
abbrev pub hears_on : ℕ → Lasting → Call → Heard
hears_on s Z c = hears way_of (first_of s Z) Z.kept c

-- each as a call: a segment tells its pairs with the bytes before the last renewal added; a renewal passes down and tells nothing
abbrev pub deeds : ℕ → Deed → Asked Lasting
deeds s (handing c) =
    record {
      piece = c.piece;
      eaten = λ Z. (hears_on s Z c).down;
      spoken = λ Z. raised Z.before (take (2 * (hears_on s Z c).pairs) (hears_on s Z c).words);
      left = λ Z. record { before = Z.before; kept = (hears_on s Z c).kept };
    }
deeds s renewing = record { piece = []; eaten = λ Z. []; spoken = λ Z. []; left = λ Z. record { before = (renew_on (flow_of Z)).before; kept = kept_on Z.kept } }

-- the looks that it comes to
abbrev pub seen_by : ℕ → Lasting → Deed → List stream.Look
seen_by s Z (handing c) = looks_at way_of (first_of s Z) Z.kept c
seen_by s Z renewing = []

-- a segment's number and bytes are some, and one that is looked at is on L, by what is checked
abbrev pub Handed : List ℕ → ℕ → Lasting → Deed → Type 0
Handed L s Z (handing c) = Fits (door_of way_of (first_of s Z) Z.kept c ≡ 0 → OnList L c.by) c
Handed L s Z renewing = Unit {0}

-- no renewal is refused
abbrev pub Renews : Lasting → Deed → Type 0
Renews Z (handing c) = Unit {0}
Renews Z renewing = (renewal Z.kept.flow).refusal ≡ 0

-- from an opening, with a held buffer that holds nothing yet
abbrev pub opening : Opening → List ℕ → Lasting
opening o held = record { before = 0; kept = fresh o held }

pub record Lasts (L : List ℕ) (o : Opening) (s : ℕ) (held : List ℕ) (ds : List Deed) : Type 0 where
  -- the byte passed down at each place of the line is the one that was first consumed or held there, and some segment looked at carried it under the number of that place
  pub came-first : (i : ℕ) → i < length (all_bytes (deeds s) (opening o held) ds)
      → (stream.looks s (stream.begun held) (all_seen (deeds s) (seen_by s) (opening o held) ds)).first i ≡ suc (get_or (all_bytes (deeds s) (opening o held) ds) i 0)
  pub carried : (i : ℕ) → i < length (all_bytes (deeds s) (opening o held) ds)
      → stream.Carried ((s + i) % circle) (get_or (all_bytes (deeds s) (opening o held) ds) i 0) (all_seen (deeds s) (seen_by s) (opening o held) ds)
  -- the pairs told, opening's and then these, are those of the automaton of L on the bytes passed down, from offset 0 on, each once, by offset and then signature
  pub due : Due L (all_bytes (deeds s) (opening o held) ds) (open_told o ++ all_told (deeds s) (opening o held) ds)
  -- and the flow goes on from there: its frontier, and the bytes before the last renewal with those since
  pub frontier : frontier_of (record_after (deeds s) (opening o held) ds).kept.flow ≡ run (plain L) (start L) (all_bytes (deeds s) (opening o held) ds)
  pub offset : (record_after (deeds s) (opening o held) ds).before + offset_of (record_after (deeds s) (opening o held) ds).kept.flow ≡ length (all_bytes (deeds s) (opening o held) ds)
  pub renews : Along (deeds s) Renews (opening o held) ds

-- from an opening, segments in whatever order, cut and resent, by the list alone, through tables, by matrices and by indexes, renewed at any points
abbrev pub ListLasts : Type 0
ListLasts =
    (L R out : List ℕ) → (open_flow L R out).refusal ≡ 0 → (s : ℕ) (held : List ℕ) → Bytes held → (ds : List Deed)
    → Along (deeds s) (Handed L s) (opening (open_flow L R out) held) ds → Lasts L (open_flow L R out) s held ds
