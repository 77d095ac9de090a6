-- The sets so far are known.
use Rattle.std.proofs.Common.{◌≡◌, ◌-◌, length}
use Rattle.list.specs.Automaton.{step}
use Rattle.table.specs.Table.{byte_values, most_splits}
use Rattle.table_build.proofs.Exploring.{Going}
use Rattle.index_prepare.proofs.search.Given as goal

abbrev pub invariant-loop-i : goal.invariant-loop-i
invariant-loop-i l = Going most_splits (step l.list) l.list l.initial.queue l.initial.parts l.queue l.parts l.n byte_values l.i × (length l.work ≡ length l.fn.work)

abbrev pub decreases-loop-i : goal.decreases-loop-i
decreases-loop-i l = most_splits - l.i
