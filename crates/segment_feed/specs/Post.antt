-- What the code answers and leaves, against what the definitions say is heard.
use Rattle.std.specs.Prelude.{◌≡◌, ℕ, ◌+◌, ◌*◌, ◌≤◌, Bool, true, false, cond, List, length, ◌==◌}
use Rattle.std.specs.declared.ops.ControlFlow.{ControlFlow}
use Rattle.std.specs.declared.ops.ControlFlow.TheVariants.{Continue, Break}
use Rattle.feed.specs.Calls.{Way}
use Rattle.feed.specs.declared.Fed.{Fed}
use Rattle.segment.specs.Resend.{most_segment}
use Rattle.segment.specs.declared.Held.{Held}
use Rattle.segment_feed.specs.Segment as segment
use Rattle.segment_feed.specs.declared.Heard.{Heard}

-- the code answers r, and leaves the words `ws`, the record R and the held buffer H
pub record Hears (o : segment.Heard) (r : Heard) (ws R H : List ℕ) : Type 0 where
  pub refusal : r.refusal ≡ o.refusal
  pub bytes : r.bytes ≡ length o.down
  pub pairs : r.pairs ≡ o.pairs
  pub all : r.all ≡ o.all
  pub start : r.start ≡ o.kept.start
  pub length : r.length ≡ o.kept.length
  pub words : ws ≡ o.words
  pub flow : R ≡ o.kept.flow
  pub held : H ≡ o.kept.held

-- what the code has heard so far, and whether a look follows
abbrev pub Looked : Type 0
Looked = ControlFlow Heard Heard

abbrev pub heard_as : Looked → Heard
heard_as (Continue h) = h
heard_as (Break h) = h

abbrev pub follows : Looked → Bool
follows (Continue h) = true
follows (Break h) = false

-- h is heard, and a look follows where b says so
abbrev pub going : Bool → Heard → Looked
going b h = cond b (Continue h) (Break h)

-- so far the code has heard r, and a look follows where the definition says so
pub record Looks (o : segment.Look) (r : Looked) (ws R H : List ℕ) : Type 0 where
  pub on : follows r ≡ o.on
  pub heard : Hears o.heard (heard_as r) ws R H

-- a segment, and what is kept, by what the code is handed
abbrev pub sent : ℕ → ℕ → List ℕ → segment.Sent
sent first start bytes = record { first = first; start = start; bytes = bytes }

abbrev pub kept : List ℕ → List ℕ → ℕ → ℕ → segment.Kept
kept flow held start n = record { flow = flow; held = held; start = start; length = n }

-- ---- the code of one look more

-- where it stands so far, one look more leads on as the definition does: from any look that the code stands for
abbrev pub More : Way → segment.Sent → Looked → List ℕ → List ℕ → List ℕ → Looked → List ℕ → List ℕ → List ℕ → Type 0
More W g so ws R H r vs Q J = (l : segment.Look) → Looks l so ws R H → Looks (segment.more W g l) r vs Q J

-- the pairs told so far fit n words, and the bytes passed down are few
abbrev pub Roomy : Heard → ℕ → Type 0
Roomy so n = (2 * so.pairs ≤ n) × (so.bytes ≤ most_segment * segment.most_looks)

-- a segment at the door, where the rules answered n
abbrev pub begun_as : ℕ → ℕ → ℕ → Looked
begun_as n start len = going (n == 0) (record { refusal = n; bytes = 0; pairs = 0; all = false; start = start; length = len })

-- nothing is due; something is, and was fed
abbrev pub idle_as : Heard → Held → Looked
idle_as so h = Break (record { refusal = h.refusal; bytes = so.bytes; pairs = so.pairs; all = (h.refusal == 0); start = h.start; length = h.length })

abbrev pub busy_as : Heard → Held → Fed → Looked
busy_as so h f =
    going f.all (record { refusal = f.refusal; bytes = so.bytes + f.bytes; pairs = so.pairs + f.pairs; all = false; start = h.start; length = h.length })
