use Rattle.std.proofs.Common.{◌≡◌, ◌≤◌, ◌<◌, ◌-◌, true}
use Rattle.sets.specs.Set.{set_of, holds}
use Rattle.text_walk.specs.inner.Rows.{Seamed}
use Rattle.text_walk.proofs.seam.Given as goal

-- t is the next state of the set, and those from low to t are done
abbrev pub invariant-loop-t : goal.invariant-loop-t
invariant-loop-t l = (l.low ≤ l.t) × (l.t ≤ l.high) × (l.t < l.high → holds (set_of l.to) l.t ≡ true) × Seamed (set_of l.from) (set_of l.to) l.low l.t l.initial.rows l.rows

abbrev pub decreases-loop-t : goal.decreases-loop-t
decreases-loop-t l = l.high - l.t
