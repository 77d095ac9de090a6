-- `feed_refusal` tests the list, then the flow, so each return is the table's verdict. Assumes nothing.
use borrow.Author.Rules.{rules}
use mathlib.Core.Path.{◌≡◌, refl, sym, ◌∙◌}
use borrow.Author.Tests.{eq-eqb}
use Rattle.sets.specs.Set.{within}
use Rattle.rules.proofs.Rules.{verdict-then, verdict-refused}
use Rattle.list.specs.List.{list_rules, list_refusal}
use Rattle.list.specs.Automaton.{named}
use Rattle.list_flow.specs.Flow.{frontier_of, flow_rules}
use Rattle.list_flow.proofs.Passing.{sizeless}
use Rattle.list_flow.proofs.feed_refusal.Statement.{statement}
use Rattle.list_flow.proofs.feed_refusal.Tie as tie

sizeless-refusal-requires : tie.Need-sizeless_refusal-requires
sizeless-refusal-requires c κs = search rules

returns : tie.Need-returns-then-flow-ne-FLOW_SIZE
returns c =
    let a = c.args in
    c.sizeless_refusal.ensures ∙ sizeless a.list.now a.flow.now a.start a.piece.now c.if-flow-ne-FLOW_SIZE.true

survey-list-requires : tie.Need-survey_list-survey-requires
survey-list-requires c κs = search rules

returns-2 : tie.Need-returns-then-survey-ne-PASSED
returns-2 c =
    let s = c.before.before in
    let a = s.args in
    let e = s.survey_list-survey.ensures.refusal in
    e ∙ sym (verdict-refused (list_rules a.list.now) (flow_rules (within (frontier_of a.flow.now) (named a.list.now)) a.flow.now a.start a.piece.now) (λ z. c.if-survey-ne-PASSED.true (e ∙ z)))

flow-refusal-requires : tie.Need-flow_refusal-requires
flow-refusal-requires c κs = search rules

returns-3 : tie.Need-returns
returns-3 c =
    let s = c.before.before.before in
    let a = s.args in
    let z : list_refusal a.list.now ≡ 0 = sym s.survey_list-survey.ensures.refusal ∙ c.if-survey-ne-PASSED.false in
    let k : s.survey_list-survey.result.known ≡ within (frontier_of a.flow.now) (named a.list.now) = s.survey_list-survey.ensures.known ∙ rw (eq-eqb (list_refusal a.list.now) 0 z) in
    rw (← k)
    (c.flow_refusal.ensures ∙ sym (verdict-then (list_rules a.list.now) (flow_rules s.survey_list-survey.result.known a.flow.now a.start a.piece.now) refl z))

pub feed_refusal_spec : {M : Type 1} → statement M
feed_refusal_spec = tie.close (tie.spec sizeless-refusal-requires returns survey-list-requires returns-2 flow-refusal-requires returns-3)
