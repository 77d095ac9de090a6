-- The sets are compared where the split is there and the lists are good. Assumes nothing.
use Rattle.std.proofs.Common.{not, ltb, eqb, sym, ◌∙◌}
use Rattle.list_flow.specs.Flow.{frontier_of}
use Rattle.table.specs.Table.{split_count, split_set}
use Rattle.index.specs.Entry.{bad_index}
use Rattle.index.specs.Stand.{holds_at}
use Rattle.index_feed.proofs.Finding.{both-off, both-on}
use Rattle.index_feed.proofs.holds_at.Goals as goal

pub returns-then-there : goal.returns-then-there
unfolding holds_at split_set
returns-then-there c =
    let a = c.args in
    c.same_set.ensures
    ∙ sym
    (both-on (ltb a.hint (split_count a.splits.now)) (not (bad_index a.splits.now a.index.now)) (eqb (split_set a.splits.now a.hint) (frontier_of a.flow.now))
    (sym c.there.ensures ∙ c.if-there.true))

pub returns-else-there : goal.returns-else-there
unfolding holds_at
returns-else-there c =
    let a = c.args in
    c.if-there.false
    ∙ sym
    (both-off (ltb a.hint (split_count a.splits.now)) (not (bad_index a.splits.now a.index.now)) (eqb (split_set a.splits.now a.hint) (frontier_of a.flow.now))
    (sym c.there.ensures ∙ c.if-there.false))
