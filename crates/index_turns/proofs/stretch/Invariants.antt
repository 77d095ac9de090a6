use Rattle.std.proofs.Common.{◌≡◌, ◌+◌, ◌*◌, ◌-◌, ◌≤◌, ◌<◌, length}
use Rattle.index.specs.Entry.{limit}
use Rattle.index_turns.specs.inner.Goes.{Goes}
use Rattle.index_turns.proofs.stretch.Given as goal

abbrev pub invariant-loop-i : goal.invariant-loop-i
invariant-loop-i l =
    (l.from ≤ l.i) × (l.i ≤ l.stop) × (l.at < limit l.index) × (l.rows + 255 * l.from ≤ 255 * l.i) × (length l.pairs ≡ length l.initial.pairs) × (l.words ≤ length l.pairs)
    × Goes l.index l.piece l.offset l.from l.place l.initial.pairs l.told l.i l.at l.pairs l.words l.rows

abbrev pub decreases-loop-i : goal.decreases-loop-i
decreases-loop-i l = l.stop - l.i
