-- The C face's answer to which edge record is taken, against the library's.
use Rattle.list_why.specs.declared.Found.{Found}
use Rattle.watch_c.specs.declared.WatchFound.{WatchFound}

-- the answer as the library gives it
abbrev pub face_found : WatchFound → Found
face_found w = record { refusal = w.refusal; place = w.place }
