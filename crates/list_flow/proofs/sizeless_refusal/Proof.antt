-- `sizeless_refusal` tests the list, then gives 4. Assumes nothing.
use borrow.Author.Rules.{rules}
use mathlib.Core.Path.{refl, sym, ◌∙◌}
use mathlib.Core.Bool.{true}
use mathlib.Core.List.{[], ◌∷◌}
use Rattle.list.specs.List.{list_rules}
use Rattle.rules.proofs.Rules.{stop, verdict-then, verdict-refused}
use Rattle.list_flow.proofs.sizeless_refusal.Statement.{statement}
use Rattle.list_flow.proofs.sizeless_refusal.Tie as tie

check-list-requires : tie.Need-check_list-listed-requires
check-list-requires c κs = search rules

returns : tie.Need-returns-then-listed-ne-PASSED
returns c =
    let L = c.args.list.now in
    let e = c.check_list-listed.ensures in
    e ∙ sym (verdict-refused (list_rules L) ((4, true) ∷ []) (λ z. c.if-listed-ne-PASSED.true (e ∙ z)))

returns-2 : tie.Need-returns
returns-2 c =
    let L = c.args.list.now in
    sym (verdict-then (list_rules L) ((4, true) ∷ []) refl (sym c.check_list-listed.ensures ∙ c.if-listed-ne-PASSED.false) ∙ stop 4 [] refl)

pub sizeless_refusal_spec : {M : Type 1} → statement M
sizeless_refusal_spec = tie.close (tie.spec check-list-requires returns returns-2)
