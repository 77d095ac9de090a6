-- The classes are split from the byte on.
use Rattle.table_classes.specs.inner.Loops.{Parting}
use Rattle.table_classes.proofs.refine.Given as goal

abbrev pub invariant-loop-c : goal.invariant-loop-c
invariant-loop-c l = Parting l.fn.classes l.classes l.rows l.c
