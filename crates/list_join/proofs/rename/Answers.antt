-- By the four ways of the definition.
use Rattle.list_join.proofs.Renames.{to-same, to-above, to-under, to-next}
use Rattle.list_join.proofs.rename.Goals as goal
use Rattle.list_join.proofs.rename.Goals.{in_default-via-in-Some-2+else-s-t, in_default-via-in_default}

pub returns-in-Some : goal.returns-in-Some
returns-in-Some c = to-same c.args.n c.args.t c.in-Some.s c.in-Some.is c.if-t-s.true

pub returns-in-Some-2 : goal.returns-in-Some-2
returns-in-Some-2 c = to-above c.args.n c.args.t c.in-Some-2.s c.in-Some-2.is c.if-s-t.true

pub returns-in_default : goal.returns-in_default
returns-in_default c =
    elim c.in_default.branch [
      | in_default-via-in-Some-2+else-s-t w ↦ to-under c.args.n c.args.t w.in-Some.s w.in-Some-2.s w.in-Some.is w.if-t-s.false w.in-Some-2.is w.if-s-t.false
      | in_default-via-in_default w ↦ to-next c.args.n c.args.t w.in_default.is
    ]
