-- The lowest states of each kind in both lists.
use Rattle.std.proofs.Common.{suc, ◌∙◌, sym, add-one}
use Rattle.list_join.specs.inner.Found.{ever, once}
use Rattle.list_join.proofs.Renames.{named-found, named-lost}
use Rattle.list_join.proofs.name_states.Goals as goal

pub returns-then-is_some : goal.returns-then-is_some
returns-then-is_some c =
    let a = c.args.a in
    let b = c.args.b in
    rw (add-one a.top) (named-found (suc a.top) (ever a.marks a.staying) (ever b.marks b.staying) (once a.marks) (once b.marks) c.shared_by-ever.result
    (c.shared_by-ever.ensures _ _ c.ever_at.ensures c.ever_at-2.ensures) (sym c.is_some.ensures ∙ c.if-is_some.true))

pub returns : goal.returns
returns c =
    let a = c.args.a in
    let b = c.args.b in
    rw (add-one a.top) (named-lost (suc a.top) (ever a.marks a.staying) (ever b.marks b.staying) (once a.marks) (once b.marks) c.shared_by-ever.result
    (c.shared_by-ever.ensures _ _ c.ever_at.ensures c.ever_at-2.ensures) (sym c.is_some.ensures ∙ c.if-is_some.false)
    c.shared_by-shared.result (c.shared_by-shared.ensures _ _ c.once_at.ensures c.once_at-2.ensures))
