-- `open_refusal` tests the rules in their order, so each return is the table's verdict. Assumes nothing.
use borrow.Author.Rules.{rules}
use mathlib.Core.Path.{sym, ap, ◌∙◌}
use mathlib.Core.Bool.{not}
use borrow.Author.Tests.{eq-eqb, ne_eqb}
use Rattle.rules.proofs.Rules.{skip, stop, last}
use Rattle.machine.proofs.open_refusal.Statement.{statement}
use Rattle.machine.proofs.open_refusal.Tie as tie

bad-machine-requires : tie.Need-bad_machine-requires
bad-machine-requires c κs = search rules

returns : tie.Need-returns-then-bad_machine
returns c = sym (stop 24 _ (sym c.bad_machine.ensures ∙ c.if-bad_machine.true))

returns-2 : tie.Need-returns-then-flow-ne-X_FLOW_SIZE
returns-2 c = sym (skip 24 _ (sym c.bad_machine.ensures ∙ c.if-bad_machine.false) ∙ stop 4 _ (ap not (ne_eqb _ _ c.if-flow-ne-X_FLOW_SIZE.true)))

returns-3 : tie.Need-returns
returns-3 c = sym (skip 24 _ (sym c.bad_machine.ensures ∙ c.if-bad_machine.false) ∙ last 4 (ap not (eq-eqb _ _ c.if-flow-ne-X_FLOW_SIZE.false)))

pub open_refusal_spec : {M : Type 1} → statement M
open_refusal_spec = tie.close (tie.spec bad-machine-requires returns returns-2 returns-3)
