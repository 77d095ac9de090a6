-- The steps so far are among the parts.
use Rattle.table.specs.Table.{most_splits}
use Rattle.list.specs.Automaton.{step}
use Rattle.table_build.proofs.Exploring.{Growing}
use Rattle.index_prepare.proofs.steps_of.Given as goal

abbrev pub invariant-loop-c : goal.invariant-loop-c
invariant-loop-c l = Growing most_splits (step l.list) l.list l.fn.queue l.fn.parts l.queue l.parts l.n l.m l.i l.c
