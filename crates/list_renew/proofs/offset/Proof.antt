-- `offset` meets its promise. Assumes nothing.
use borrow.Author.Rules.{rules}
use mathlib.Core.Path.{sym, ◌∙◌}
use Rattle.list_renew.proofs.Renewing.{offset-list, offset-extended, offset-none}
use Rattle.list_renew.proofs.offset.Statement.{statement}
use Rattle.list_renew.proofs.offset.Tie as tie

offset-of-requires : tie.Need-offset_of-requires
offset-of-requires c κs = search rules

returns : tie.Need-returns-then-flow-eq-FLOW_SIZE
returns c = c.offset_of.ensures ∙ sym (offset-list c.args.flow.now c.if-flow-eq-FLOW_SIZE.true)

offset-of-requires-2 : tie.Need-offset_of-requires-then-flow-eq-X_FLOW_SIZE
offset-of-requires-2 c κs = search rules

returns-2 : tie.Need-returns-then-flow-eq-X_FLOW_SIZE
returns-2 c = c.offset_of-then-flow-eq-X_FLOW_SIZE.ensures ∙ sym (offset-extended c.args.flow.now c.if-flow-eq-FLOW_SIZE.false c.if-flow-eq-X_FLOW_SIZE.true)

returns-3 : tie.Need-returns
returns-3 c = sym (offset-none c.args.flow.now c.if-flow-eq-FLOW_SIZE.false c.if-flow-eq-X_FLOW_SIZE.false)

pub offset_spec : {M : Type 1} → statement M
offset_spec =
    tie.close (tie.spec offset-of-requires returns offset-of-requires-2 returns-2 returns-3)
