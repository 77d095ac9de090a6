-- A refusal by the rules, no room for the pairs, or all of them told.
use Rattle.std.proofs.Common.{refl, sym, ◌∙◌}
use Rattle.sets.specs.Set.{set_of}
use Rattle.list_flow.proofs.Opening.{open-refused, open_full, open_told}
use Rattle.list_flow.proofs.open_flow.Goals as goal

pub returns-then-refusal-ne-PASSED : goal.returns-then-refusal-ne-PASSED
returns-then-refusal-ne-PASSED c =
    let e = c.open_refusal-refusal.ensures in
    open-refused c.args.list.now c.args.flow.now c.args.pairs.now _ e (λ z. c.if-refusal-ne-PASSED.true (e ∙ z)) refl

pub returns-in_default : goal.returns-in_default
returns-in_default c =
    open_full c.args.list.now c.args.flow.now c.args.pairs.now (set_of c.start_set-first.result) c.start_set-first.ensures _ _ c.tell_accepted.ensures
    (sym c.open_refusal-refusal.ensures ∙ c.if-refusal-ne-PASSED.false) _ c.in_default.is refl refl

pub returns : goal.returns
returns c =
    open_told c.args.list.now c.args.flow.now c.args.pairs.now (set_of c.start_set-first.result) c.start_set-first.ensures _ _ c.tell_accepted.ensures
    (sym c.open_refusal-refusal.ensures ∙ c.if-refusal-ne-PASSED.false) _ _ c.in-Some.is refl refl _ c.save.ensures
