use Rattle.std.proofs.Common.{◌<◌}
use Rattle.feed.specs.inner.Going.{Going}
use Rattle.machine.specs.Machine.{state_count, machine}
use Rattle.machine.proofs.feed_bytes.Given as goal

abbrev pub invariant-loop-i : goal.invariant-loop-i
invariant-loop-i l =
    Going (machine l.moves l.programs) l.fn.first l.offset l.piece l.initial.pairs l.x l.pairs l.i l.words 0 × (l.x.state < state_count l.moves)
