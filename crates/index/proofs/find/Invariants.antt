-- So many halvings as are left lead from `lo` and `hi` to where all of them lead. Assumes nothing.
use Rattle.std.proofs.Common.{◌-◌}
use Rattle.sets.specs.Set.{set_of}
use Rattle.index.proofs.Halving.{Seeking}
use Rattle.index.proofs.find.Given as goal

abbrev pub invariant-loop-lo : goal.invariant-loop-lo
invariant-loop-lo l = Seeking l.splits (set_of l.f) l.lo l.hi

abbrev pub decreases-loop-lo : goal.decreases-loop-lo
decreases-loop-lo l = l.hi - l.lo
