-- From the promises of the C face to one equation each. Assumes nothing.
use Prim.Native.Nat.{ℕ}
use mathlib.Core.Path.{◌≡◌}
use mathlib.Core.List.{List}
use lib.ListN.{length}
use Rattle.segment.specs.Resend.{Held, part_due, due}
use Rattle.watch_c.specs.declared.WatchHeld.{WatchHeld}
use Rattle.watch_c.specs.declared.WatchPart.{WatchPart}
use Rattle.watch_c.specs.Resent.{FaceTakes, FaceFinds}
use Rattle.watch_c_laws.specs.Resent.{held_place, part_of}

pub taken-so : (o : Held) (w : WatchHeld) (bytes : List ℕ) → FaceTakes o w bytes → held_place w bytes ≡ o
taken-so o w bytes a = rw (a.refusal, a.start, a.length, a.bytes)

pub due-so : (next : ℕ) (held : List ℕ) (p n q : ℕ) (seg : List ℕ) (w : WatchPart) → FaceFinds (part_due next (length held) p n q (length seg)) w
    → part_of w held seg ≡ due next held p n q seg
unfolding due
due-so next held p n q seg w a = rw (a.source, a.at, a.length)
