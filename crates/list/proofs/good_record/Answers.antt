-- It goes by the kind: the tests of that kind alone are what goodness asks.
use Rattle.std.proofs.Common.{◌∙◌, sym}
use Rattle.list.proofs.Listed.{good-edge, good-start, good-accept, good-none}
use Rattle.list.proofs.good_record.Goals as goal

pub returns-in-Some-Edge : goal.returns-in-Some-Edge
returns-in-Some-Edge c = c.good_edge.ensures ∙ sym (good-edge _ _ (rw c.in-Some-Edge.field-0-is at c.in-Some-Edge.ensures))

pub returns-in-Some-Start : goal.returns-in-Some-Start
returns-in-Some-Start c = c.good_start.ensures ∙ sym (good-start _ _ (rw c.in-Some-Start.field-0-is at c.in-Some-Start.ensures))

pub returns-in-Some-Accept : goal.returns-in-Some-Accept
returns-in-Some-Accept c = c.good_accept.ensures ∙ sym (good-accept _ _ (rw c.in-Some-Accept.field-0-is at c.in-Some-Accept.ensures))

pub returns-in-None : goal.returns-in-None
returns-in-None c = let k = c.in-None.ensures in sym (good-none _ _ k.0 k.1 k.2)
