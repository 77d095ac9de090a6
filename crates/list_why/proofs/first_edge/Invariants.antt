-- None of the records passed leads so.
use Rattle.std.proofs.Common.{◌≡◌, false}
use Rattle.rules.specs.Scan.{some}
use Rattle.list_why.specs.Reason.{links}
use Rattle.list_why.proofs.first_edge.Given as goal

abbrev pub invariant-loop-i : goal.invariant-loop-i
invariant-loop-i l = some l.i (links l.list l.s l.fn.byte l.t) ≡ false
