-- `next_unit` meets its promise: what is left of the last one, or the next one. Assumes nothing.
use Rattle.std.proofs.Common.{◌≡◌, false, ap, refl, arith}
use Rattle.program_turn.specs.Turn.{saves}
use Rattle.program_turn.specs.declared.Next.{Next}
use Rattle.program_turn.specs.declared.Next.TheVariants.{Save, Feed}
use Rattle.program_live.proofs.Units.{next-saving, next-left, next-read}
use Rattle.program_live.proofs.Arrays.{on-all}
use Rattle.program_live.proofs.Ends.next_unit.Goals as goal

not-saves : (n : Next) → (n ≡ Save → ⊥) → saves n ≡ false
not-saves Save h = absurd (h refl)
not-saves Feed h = refl

pub returns-in-Save-clause-stands : goal.returns-in-Save-clause-stands
returns-in-Save-clause-stands c =
    on-all c.args.self.now _ (λ input answers g s. next-saving _ _ _ _ _ s (ap saves c.in-Save.is))

pub returns-then-u-clause-stands : goal.returns-then-u-clause-stands
returns-then-u-clause-stands c =
    on-all c.args.self.now _ (λ input answers g s. next-left _ _ _ _ _ s (not-saves _ c.in_default.not-Save) c.if-u.true)

pub returns-in-Arrays-clause-stands : goal.returns-in-Arrays-clause-stands
returns-in-Arrays-clause-stands c =
    rw c.in-Arrays.is (λ g s. next-read _ _ _ _ _ s (not-saves _ c.in_default.not-Save) (omega (arith, c.if-u.false)) _ _ c.recorded_unit.ensures)
