-- No look follows, nothing is due, or what is due is fed. Assumes nothing.
use Rattle.std.proofs.Common.{arith, rules}
use Rattle.segment_feed.proofs.Hearing.{looks-off, looks-idle, looks-busy, fed-few}
use Rattle.segment_feed.proofs.Noting.{notes-off, noted-idle, noted-busy}
use Rattle.segment_feed.proofs.look.Goals as goal

pub returns-in_default-clause-looks : goal.returns-in_default-clause-looks
returns-in_default-clause-looks g c = looks-off _ _ _ _ _ _ (search rules)

pub returns-in_default-clause-notes : goal.returns-in_default-clause-notes
returns-in_default-clause-notes g c = notes-off _ _ _ c.args.so _ _ _ _ (search rules)

pub returns-then-due-eq0-clause-looks : goal.returns-then-due-eq0-clause-looks
returns-then-due-eq0-clause-looks g c = λ l k.
    rw c.idle.ensures
    (looks-idle _ _ _ _ _ _ _ _ _ _ _ c.offset-at.ensures c.next_of-next.ensures c.take-taken.ensures c.due-due.ensures l (rw c.in-Continue.is at k) c.if-due-eq0.true)

pub returns-then-due-eq0-clause-notes : goal.returns-then-due-eq0-clause-notes
returns-then-due-eq0-clause-notes g c = λ l k.
    noted-idle _ _ _ _ _ _ _ _ _ _ _ _ c.offset-at.ensures c.next_of-next.ensures c.take-taken.ensures c.due-due.ensures l (rw c.in-Continue.is at k) _ c.if-due-eq0.true

pub busy-requires : goal.busy-requires
busy-requires g c =
    let a = c.args in
    let f = fed-few (g.E.Feeds.way a.engine.now) c.in-Continue.heard a.pairs.now a.flow.now _ _ _ _ _ _ _ _ (rw c.in-Continue.is at c.requires) c.due-due.ensures _ _ _ c.feed-fed.ensures.answers in
    (omega (arith, f.0), omega (arith, f.1, c.well_formed.1.1.1.1.1.1.1.1.0.0))

pub returns-clause-looks : goal.returns-clause-looks
returns-clause-looks g c = λ l k.
    rw c.busy.ensures
    (looks-busy _ _ _ _ _ _ _ _ _ _ _ c.offset-at.ensures c.next_of-next.ensures c.take-taken.ensures c.due-due.ensures l (rw c.in-Continue.is at k)
    (rw c.in-Continue.is at c.requires).0 _ _ _ c.feed-fed.ensures.answers c.if-due-eq0.false)

pub returns-clause-notes : goal.returns-clause-notes
returns-clause-notes g c = λ l k.
    noted-busy _ _ _ _ _ _ _ _ _ _ _ _ c.offset-at.ensures c.next_of-next.ensures c.take-taken.ensures c.due-due.ensures l (rw c.in-Continue.is at k) _ c.if-due-eq0.false _
    c.feed-fed.ensures.notes
