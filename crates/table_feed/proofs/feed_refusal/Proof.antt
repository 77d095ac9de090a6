-- `feed_refusal` tests the list and the flow, then the table, so each return is the verdict of their rules. Assumes nothing.
use borrow.Author.Rules.{rules}
use mathlib.Core.Path.{refl, sym, ◌∙◌}
use Rattle.rules.proofs.Rules.{verdict-then, verdict-refused}
use Rattle.list_flow.specs.Flow.{feed_rules}
use Rattle.table.specs.Table.{Table, rising_rules}
use Rattle.table_feed.proofs.feed_refusal.Statement.{statement}
use Rattle.table_feed.proofs.feed_refusal.Tie as tie

feed-refusal-requires : tie.Need-feed_refusal-met-requires
feed-refusal-requires c κs = search rules

returns : tie.Need-returns-then-met-ne-PASSED
returns c =
    let a = c.args in
    let T : Table = record { classes = a.classes.now; parts = a.parts.now; rows = a.rows.now; splits = a.splits.now } in
    let e = c.feed_refusal-met.ensures in
    e ∙ sym (verdict-refused (feed_rules a.list.now a.flow.now a.start a.piece.now) (rising_rules a.bound T) (λ z. c.if-met-ne-PASSED.true (e ∙ z)))

rising-refusal-requires : tie.Need-rising_refusal-requires
rising-refusal-requires c κs = search rules

returns-2 : tie.Need-returns
returns-2 c =
    let a = c.args in
    let T : Table = record { classes = a.classes.now; parts = a.parts.now; rows = a.rows.now; splits = a.splits.now } in
    c.rising_refusal.ensures
    ∙ sym (verdict-then (feed_rules a.list.now a.flow.now a.start a.piece.now) (rising_rules a.bound T) refl (sym c.feed_refusal-met.ensures ∙ c.if-met-ne-PASSED.false))

pub feed_refusal_spec : {M : Type 1} → statement M
feed_refusal_spec = tie.close (tie.spec feed-refusal-requires returns rising-refusal-requires returns-2)
