-- What a caller of the C face holds after a segment: the held place as one value, and the bytes of the part that is due.
use Rattle.std.specs.Prelude.{ℕ, cond, List, take, drop, eqb}
use Rattle.segment.specs.Resend.{Held}
use Rattle.watch_c.specs.declared.WatchHeld.{WatchHeld}
use Rattle.watch_c.specs.declared.WatchPart.{WatchPart}

abbrev pub held_place : WatchHeld → List ℕ → Held
held_place w bytes = record { refusal = w.refusal; start = w.start; length = w.length; bytes = bytes }

-- of the held buffer where the part is in it, else of the segment
abbrev pub part_of : WatchPart → List ℕ → List ℕ → List ℕ
part_of w held segment = take w.length (drop w.at (cond (eqb w.source 1) held segment))
