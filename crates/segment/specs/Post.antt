-- What the code answers and leaves, against the definitions.
use Rattle.std.specs.Prelude.{◌≡◌, ℕ, List, Option, None, Some}
use Rattle.segment.specs.Resend as resend
use Rattle.segment.specs.declared.Held.{Held}
use Rattle.segment.specs.declared.Part.{Part}
use Rattle.segment.specs.declared.Source.{Source}
use Rattle.segment.specs.declared.Source.TheVariants.{Buffer, Segment}

-- the code answers h, and leaves the held buffer `bs`
pub record Takes (o : resend.Held) (h : Held) (bs : List ℕ) : Type 0 where
  pub refusal : h.refusal ≡ o.refusal
  pub start : h.start ≡ o.start
  pub length : h.length ≡ o.length
  pub bytes : bs ≡ o.bytes

-- the number of a source: 1 the held buffer, 2 the segment
abbrev pub number_of : Source → ℕ
number_of Buffer = 1
number_of Segment = 2

-- the part that the code answers, where there is one, as the definitions have it
abbrev pub part_of : Option Part → resend.Part
part_of None = record { source = 0; at = 0; length = 0 }
part_of (Some d) = record { source = number_of d.source; at = d.at; length = d.length }

-- the code answers d where the part o is due
abbrev pub Finds : resend.Part → Option Part → Type 0
Finds o d = part_of d ≡ o
