-- The C face's answers to a segment, against what taking it and the part due are defined to be.
use Rattle.std.specs.Prelude.{ℕ, ◌≡◌, List}
use Rattle.segment.specs.Resend.{Held, Part}
use Rattle.watch_c.specs.declared.WatchHeld.{WatchHeld}
use Rattle.watch_c.specs.declared.WatchPart.{WatchPart}

-- the face answers w, and leaves the held buffer `bs`
pub record FaceTakes (o : Held) (w : WatchHeld) (bs : List ℕ) : Type 0 where
  pub refusal : w.refusal ≡ o.refusal
  pub start : w.start ≡ o.start
  pub length : w.length ≡ o.length
  pub bytes : bs ≡ o.bytes

-- the face answers the part w
pub record FaceFinds (o : Part) (w : WatchPart) : Type 0 where
  pub source : w.source ≡ o.source
  pub at : w.at ≡ o.at
  pub length : w.length ≡ o.length
