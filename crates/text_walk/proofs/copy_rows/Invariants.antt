use Rattle.text_walk.specs.inner.Rows.{Copied}
use Rattle.text_walk.proofs.copy_rows.Given as goal

-- the first i rows are done
abbrev pub invariant-loop-i : goal.invariant-loop-i
invariant-loop-i l = Copied l.base l.i l.d l.initial.rows l.rows
