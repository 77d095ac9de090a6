-- `held_refusal` reads the flag and tests the flow. Assumes nothing.
use borrow.Author.Rules.{rules}
use mathlib.Core.Path.{ap, ◌∙◌}
use mathlib.Core.Bool.{Bool}
use Rattle.rules.specs.Rules.{verdict}
use Rattle.list_flow.specs.Flow.{flow_rules}
use Rattle.index_feed.proofs.held_refusal.Statement.{statement}
use Rattle.index_feed.proofs.held_refusal.Tie as tie

flag-at-requires : tie.Need-flag_at-requires
flag-at-requires c κs = search rules

flow-refusal-requires : tie.Need-flow_refusal-requires
flow-refusal-requires c κs = search rules

returns : tie.Need-returns
returns c =
    let a = c.args in
    c.flow_refusal.ensures ∙ ap (λ (k : Bool). verdict (flow_rules k a.flow.now a.start a.piece.now)) c.flag_at.ensures

pub held_refusal_spec : {M : Type 1} → statement M
held_refusal_spec = tie.close (tie.spec flag-at-requires flow-refusal-requires returns)
