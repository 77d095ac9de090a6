-- The bytes passed tell nothing. Assumes nothing.
use Rattle.std.proofs.Common.{◌*◌, ◌<◌, ◌≤◌}
use Rattle.index.specs.Entry.{limit}
use Rattle.index_quiet.specs.inner.Moves.{Moves}
use Rattle.index_quiet.proofs.few.Given as goal

abbrev pub invariant-loop-i : goal.invariant-loop-i
invariant-loop-i l =
    record {
      whole : l.at < limit l.index;
      few : l.rows ≤ 255 * l.i;
      moves : Moves l.index l.piece 0 l.place l.i l.at l.rows;
    }
