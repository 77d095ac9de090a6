-- The marks passed, laid over one another.
use Rattle.std.proofs.Common.{◌≡◌, get_or}
use Rattle.sets.specs.Set.{holds}
use Rattle.rules.specs.Scan.{some}
use Rattle.list_join.proofs.some_start.Given as goal

abbrev pub invariant-loop-m : goal.invariant-loop-m
invariant-loop-m l = holds l.all 1 ≡ some l.m-index (λ q. holds (get_or l.marks q 0) 1)
