-- All sets below `lo` come before the one sought, and it comes before all from `hi` on.
use Rattle.std.proofs.Common.{◌-◌}
use Rattle.sets.specs.Set.{set_of, set_bytes}
use Rattle.numbers.proofs.Halving.{Between}
use Rattle.table.proofs.Halving.{set_strings}
use Rattle.table.proofs.seek.Given as goal

abbrev pub invariant-loop-lo : goal.invariant-loop-lo
invariant-loop-lo l = Between (set_strings l.b l.size) l.n (set_bytes (set_of l.f)) l.lo l.hi

abbrev pub decreases-loop-lo : goal.decreases-loop-lo
decreases-loop-lo l = l.hi - l.lo
