-- `feed_refusal` tests 24, then the rules of the flow. Assumes nothing.
use borrow.Author.Rules.{rules}
use mathlib.Core.Path.{sym, ◌∙◌}
use Rattle.rules.proofs.Rules.{skip, stop}
use Rattle.machine.proofs.feed_refusal.Statement.{statement}
use Rattle.machine.proofs.feed_refusal.Tie as tie

bad-machine-requires : tie.Need-bad_machine-requires
bad-machine-requires c κs = search rules

returns : tie.Need-returns-then-bad_machine
returns c = sym (stop 24 _ (sym c.bad_machine.ensures ∙ c.if-bad_machine.true))

flow-refusal-requires : tie.Need-flow_refusal-requires
flow-refusal-requires c κs = search rules

returns-2 : tie.Need-returns
returns-2 c = c.flow_refusal.ensures ∙ sym (skip 24 _ (sym c.bad_machine.ensures ∙ c.if-bad_machine.false))

pub feed_refusal_spec : {M : Type 1} → statement M
feed_refusal_spec =
    tie.close (tie.spec bad-machine-requires returns flow-refusal-requires returns-2)
