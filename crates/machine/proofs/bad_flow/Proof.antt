-- `bad_flow` tests the size, then the fields. Assumes nothing.
use borrow.Author.Rules.{rules}
use mathlib.Core.Path.{ap, ap₂, ◌∙◌}
use mathlib.Core.Bool.{Bool, ◌||◌, not}
use Prim.Native.Nat.{ℕ}
use lib.ListN.{length}
use lib.Dec.{ltb, eqb}
use borrow.Author.Tests.{eq-eqb, ne_eqb}
use Rattle.machine.specs.declared.Config.{Config}
use Rattle.machine.specs.Record.{flow_size, good_counters, config_at, bad_flow}
use Rattle.machine.proofs.bad_flow.Statement.{statement}
use Rattle.machine.proofs.bad_flow.Tie as tie

returns : tie.Need-returns-then-flow-ne-X_FLOW_SIZE
unfolding bad_flow
returns c = rw (ne_eqb _ _ c.if-flow-ne-X_FLOW_SIZE.true)

load-requires : tie.Need-load-x-requires
load-requires c κs = search rules

whole-number-requires : tie.Need-whole_number-reserved-requires
whole-number-requires c κs = search rules

good-counters-requires : tie.Need-good_counters-requires
good-counters-requires c κs = search rules

returns-2 : tie.Need-returns
unfolding bad_flow config_at
returns-2 c =
    let a = c.args in
    let x = c.load-x.ensures in
    rw (eq-eqb (length a.flow.now) flow_size c.if-flow-ne-X_FLOW_SIZE.false)
    (ap₂ (λ (x y : Bool). x || y)
    (ap₂ (λ (x y : Bool). x || y) (ap (λ (y : Config). not (ltb y.state a.states)) x)
    (ap (λ (n : ℕ). not (eqb n 0)) c.whole_number-reserved.ensures))
    (ap not (c.good_counters.ensures ∙ ap (λ (y : Config). good_counters y.counters) x)))

pub bad_flow_spec : {M : Type 1} → statement M
bad_flow_spec =
    tie.close
    (tie.spec
    returns
    load-requires
    whole-number-requires
    good-counters-requires
    returns-2)
