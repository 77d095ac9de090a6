-- Two tests are the same where both hold, or neither does.
use Rattle.std.proofs.Common.{◌≡◌, Bool, true, false, ◌&&◌, ◌||◌, not, refl}
use mathlib.Core.Bool.{beq}
use Rattle.list_alike.proofs.alike_at.Goals as goal

both : (a b : Bool) → beq a b ≡ (a && b || not a && not b)
both true true = refl
both true false = refl
both false true = refl
both false false = refl

pub returns : goal.returns
returns c = rw (c.edge-one.ensures, c.edge-other.ensures) (both _ _)
