-- A refusal by the rules, no room for the alerts of the start state's program, or all of them told.
use Rattle.std.proofs.Common.{◌≡◌, ◌<◌, refl, sym, ap, ◌∙◌, arith}
use Rattle.sets.specs.Set.{sigs_of}
use Rattle.rules.specs.Rules.{verdict}
use Rattle.machine.specs.Machine.{state_count}
use Rattle.machine.specs.Record.{flow_bytes}
use Rattle.machine.specs.Extended.{first_rules}
use Rattle.machine.proofs.Machines.{Good, good-machine, program-there, program-good}
use Rattle.machine.proofs.Opening.{first_passes, open-refused, open_full, open_told}
use Rattle.machine.proofs.open_flow.Goals as goal

pub returns-then-refusal-ne-PASSED : goal.returns-then-refusal-ne-PASSED
returns-then-refusal-ne-PASSED c =
    let e = c.open_refusal-refusal.ensures in
    open-refused c.args.moves.now c.args.programs.now c.args.flow.now c.args.pairs.now _ e (λ z. c.if-refusal-ne-PASSED.true (e ∙ z)) refl

-- past the check the machine is good, and its first state is there
pub run_program-first-requires : goal.run_program-first-requires
run_program-first-requires c =
    let M = c.args.moves.now in
    let P = c.args.programs.now in
    let v : verdict (first_rules M P c.args.flow.now) ≡ 0 = sym c.open_refusal-refusal.ensures ∙ c.if-refusal-ne-PASSED.false in
    let good : Good M P = good-machine M P (first_passes M P c.args.flow.now c.args.pairs.now v).0 in
    let some : 0 < state_count M = omega (arith, good.lengths.some) in
    (program-there M P good 0 some, program-good M P good 0 some)

pub returns-in_default : goal.returns-in_default
returns-in_default c =
    open_full c.args.moves.now c.args.programs.now c.args.flow.now c.args.pairs.now (sigs_of c.run_program-first.result.alerts) c.run_program-first.ensures.alerts _ _
    c.tell_alerts.ensures (sym c.open_refusal-refusal.ensures ∙ c.if-refusal-ne-PASSED.false) _ c.in_default.is refl refl

pub save-requires : goal.save-requires
save-requires c =
    (first_passes c.args.moves.now c.args.programs.now c.args.flow.now c.args.pairs.now (sym c.open_refusal-refusal.ensures ∙ c.if-refusal-ne-PASSED.false)).1

pub returns : goal.returns
returns c =
    open_told c.args.moves.now c.args.programs.now c.args.flow.now c.args.pairs.now (sigs_of c.run_program-first.result.alerts) c.run_program-first.ensures.alerts _ _
    c.tell_alerts.ensures (sym c.open_refusal-refusal.ensures ∙ c.if-refusal-ne-PASSED.false) _ _ c.in-Some.is refl refl _
    (c.save.ensures ∙ ap (λ x. flow_bytes x 0) c.run_program-first.ensures.config)
