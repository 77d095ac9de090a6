-- Bit 1 of them all.
use Rattle.std.proofs.Common.{◌≡◌, ◌∙◌, sym, arith}
use Rattle.sets.specs.Set.{states}
use Rattle.rules.specs.Scan.{some}
use Rattle.list_join.proofs.Marking.{start-bit, none-bit, some-bit}
use Rattle.list_join.proofs.some_start.Goals as goal

pub loop-m-init : goal.loop-m-init
unfolding some
loop-m-init c = none-bit

pub loop-m-preserved : goal.loop-m-preserved
loop-m-preserved c = some-bit c.args.marks.now c.loop-m.all c.loop-m.m-index c.loop-m.invariant

pub returns : goal.returns
returns c =
    let l = c.loop-m in
    let e : l.m-index ≡ states = omega (arith, c.requires) in
    sym (start-bit l.all) ∙ (rw e at l.invariant)
