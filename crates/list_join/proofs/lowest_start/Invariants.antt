-- None of the states passed is one.
use Rattle.std.proofs.Common.{◌≡◌, ℕ, Bool, ◌<◌, false, ◌&&◌, get_or}
use Rattle.sets.specs.Set.{states, holds}
use Rattle.rules.specs.Scan.{some}
use Rattle.list_join.proofs.lowest_start.Given as goal

abbrev pub invariant-loop-s : goal.invariant-loop-s
invariant-loop-s g l =
    (p : ℕ → Bool) → ((s : ℕ) (b : Bool) → s < states → goal.P-post g l.test s b → b ≡ p s)
    → some l.s (λ q. holds (get_or l.marks q 0) 1 && p q) ≡ false
