-- `refine` meets its promise.
use Rattle.std.proofs.Common.{arith}
use Rattle.table_classes.proofs.Parting.{part-more}
use Rattle.table_classes.proofs.refine.Goals as goal

pub loop-c-preserved : goal.loop-c-preserved
loop-c-preserved c =
    let a = c.args in
    let l = c.loop-c in
    rw c.first_like-d.ensures.0 (part-more a.classes.now l.classes a.rows.now l.c c.requires.0 (omega arith) l.invariant)
