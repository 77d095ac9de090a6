-- `open_refusal` tests the rules in their order, so each return is the table's verdict. Assumes nothing.
use borrow.Author.Rules.{rules}
use mathlib.Core.Path.{◌≡◌, refl, sym, ap, ◌∙◌}
use mathlib.Core.Bool.{not}
use mathlib.Core.List.{[], ◌∷◌}
use borrow.Author.Tests.{eq-eqb, ne_eqb}
use Rattle.rules.specs.Rules.{verdict}
use Rattle.list.specs.List.{list_rules}
use Rattle.rules.proofs.Rules.{stop, last, verdict-then, verdict-refused}
use Rattle.list_flow.specs.Flow.{wrong_size}
use Rattle.list_flow.specs.Opening.{first_rules}
use Rattle.list_flow.proofs.open_refusal.Statement.{statement}
use Rattle.list_flow.proofs.open_refusal.Tie as tie

check-list-requires : tie.Need-check_list-listed-requires
check-list-requires c κs = search rules

returns : tie.Need-returns-then-listed-ne-PASSED
returns c =
    let a = c.args in
    let e = c.check_list-listed.ensures in
    e ∙ sym (verdict-refused (list_rules a.list.now) ((4, wrong_size a.flow.now) ∷ []) (λ z. c.if-listed-ne-PASSED.true (e ∙ z)))

-- past the list's check the size decides
listed : (c : tie.Else-listed-ne-PASSED) → verdict (first_rules c.args.list.now c.args.flow.now) ≡ verdict ((4, wrong_size c.args.flow.now) ∷ [])
listed c =
    let a = c.args in
    verdict-then (list_rules a.list.now) ((4, wrong_size a.flow.now) ∷ []) refl (sym c.check_list-listed.ensures ∙ c.if-listed-ne-PASSED.false)

returns-2 : tie.Need-returns-then-flow-ne-FLOW_SIZE
returns-2 c = sym (listed c.before ∙ stop 4 _ (ap not (ne_eqb _ _ c.if-flow-ne-FLOW_SIZE.true)))

returns-3 : tie.Need-returns
returns-3 c = sym (listed c.before ∙ last 4 (ap not (eq-eqb _ _ c.if-flow-ne-FLOW_SIZE.false)))

pub open_refusal_spec : {M : Type 1} → statement M
open_refusal_spec = tie.close (tie.spec check-list-requires returns returns-2 returns-3)
