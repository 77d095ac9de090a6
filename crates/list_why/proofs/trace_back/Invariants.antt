-- The trace to the state at hand, with what is written behind it, is what is to be left.
use Rattle.sets.specs.Set.{set_at}
use Rattle.list_why.proofs.Backing.{Back}
use Rattle.list_why.proofs.trace_back.Given as goal

abbrev pub invariant-loop-i : goal.invariant-loop-i
invariant-loop-i l = Back l.list (set_at l.work 0) l.piece l.n l.end l.initial.run l.run l.t l.i
