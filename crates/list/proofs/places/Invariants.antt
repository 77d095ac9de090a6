-- The promise for the words passed.
use Rattle.std.proofs.Common.{◌≡◌, ℕ, get_or}
use Rattle.sets.specs.Set.{holds}
use Rattle.rules.specs.Scan.{some}
use Rattle.list.proofs.places.Given as goal

abbrev pub invariant-loop-x : goal.invariant-loop-x
invariant-loop-x l = (j : ℕ) → holds l.all j ≡ some l.x-index (λ k. holds (get_or l.w k 0) j)
