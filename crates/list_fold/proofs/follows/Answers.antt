-- It looks at chiefs alone.
use Rattle.std.proofs.Common.{◌∙◌, sym, take}
use borrow.Author.Tests.{ne_eqb}
use Rattle.list_fold.proofs.Coding.{chief-among, follows-when, follows-not}
use Rattle.list_fold.proofs.follows.Goals as goal

pub returns-then-number_at-r : goal.returns-then-number_at-r
returns-then-number_at-r c =
    let a = c.args in
    c.alike.ensures ∙ follows-when (take a.s a.leads.now) a.list.now a.s a.r (chief-among a.leads.now a.s c.requires.4 a.r c.requires.3 ∙ sym c.number_at.ensures.0 ∙ c.if-number_at-r.true)

pub returns-else-number_at-r : goal.returns-else-number_at-r
returns-else-number_at-r c =
    let a = c.args in
    ne_eqb c.number_at.result a.r c.if-number_at-r.false
    ∙ follows-not (take a.s a.leads.now) a.list.now a.s a.r (λ e. c.if-number_at-r.false (c.number_at.ensures.0 ∙ sym (chief-among a.leads.now a.s c.requires.4 a.r c.requires.3) ∙ e))
