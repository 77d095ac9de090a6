-- By its definition.
use Rattle.std.proofs.Common.{◌∙◌, sym, arith}
use borrow.Author.Tests.{le-leb}
use Rattle.list_fold.proofs.Coding.{stays-accept, stays-low, stays_out}
use Rattle.list_fold.proofs.stays.Goals as goal

pub returns-then-is_accept : goal.returns-then-is_accept
returns-then-is_accept c =
    let a = c.args in
    stays-accept a.list.now a.leads.now a.top c.requires.1 c.requires.3 c.requires.2 a.i (sym c.is_accept.ensures ∙ c.if-is_accept.true)

pub returns-then-top-t : goal.returns-then-top-t
returns-then-top-t c =
    let a = c.args in
    let t = c.target-t.ensures in
    rw (le-leb a.top c.target-t.result c.if-top-t.true)
    (stays_out a.list.now a.leads.now a.top c.requires.1 c.requires.3 c.requires.2 a.i (sym c.is_accept.ensures ∙ c.if-is_accept.false) (omega (arith, t, c.if-top-t.true)))

pub returns-else-top-t : goal.returns-else-top-t
returns-else-top-t c =
    let a = c.args in
    let t = c.target-t.ensures in
    let w = stays-low a.list.now a.leads.now a.top c.requires.1 c.requires.3 c.requires.2 a.i (sym c.is_accept.ensures ∙ c.if-is_accept.false) (omega (arith, t, c.if-top-t.false)) in
    rw (c.number_at.ensures.0, t) w
