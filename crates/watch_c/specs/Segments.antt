-- The C face's answer to a segment that is fed, against the library's.
use Rattle.segment_feed.specs.declared.Heard.{Heard}
use Rattle.watch_c.specs.declared.WatchHeard.{WatchHeard}
use Rattle.watch_c.specs.declared.WatchHeardAt.{WatchHeardAt}

-- the answer as the library gives it
abbrev pub face_heard : WatchHeard → Heard
face_heard w = record { refusal = w.refusal; bytes = w.bytes; pairs = w.pairs; all = w.all; start = w.start; length = w.length }

-- so by an index, of all but the split
abbrev pub face_heard_at : WatchHeardAt → Heard
face_heard_at w = record { refusal = w.refusal; bytes = w.bytes; pairs = w.pairs; all = w.all; start = w.start; length = w.length }
