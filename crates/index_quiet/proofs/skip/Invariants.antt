-- The blocks passed stay at the place. Assumes nothing.
use Rattle.std.proofs.Common.{◌+◌, ◌-◌, ◌*◌, ◌≤◌, length}
use Rattle.index.specs.Entry.{cost_at}
use Rattle.index_quiet.specs.inner.Moves.{Moves}
use Rattle.index_quiet.proofs.skip.Given as goal

abbrev pub invariant-loop-n : goal.invariant-loop-n
invariant-loop-n l =
    record {
      most : l.from + l.n ≤ length l.piece;
      moves : Moves l.index l.piece l.from l.place (l.from + l.n) l.place (l.n * cost_at l.index l.place);
    }

abbrev pub decreases-loop-n : goal.decreases-loop-n
decreases-loop-n l = length l.piece - l.n
