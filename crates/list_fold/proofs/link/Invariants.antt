-- The edges from record i on are linked.
use Rattle.list_fold.specs.inner.Known.{Linked}
use Rattle.list_fold.proofs.link.Given as goal

abbrev pub invariant-loop-i : goal.invariant-loop-i
invariant-loop-i l = Linked l.list l.head l.next l.i
