-- `sum_of` meets its promise: each turn takes one byte more. Assumes nothing.
use Rattle.std.proofs.Common.{◌<◌, length, refl, arith}
use Rattle.program_turn.specs.State.{sum_from}
use Rattle.program_turn.proofs.Laws.{sum-next}
use Rattle.program_turn.proofs.sum_of.Goals as goal

pub loop-b-init : goal.loop-b-init
unfolding sum_from
loop-b-init c = (omega arith, refl)

pub loop-b-preserved : goal.loop-b-preserved
loop-b-preserved c =
    let l = c.loop-b in
    let t : l.b-index < length c.args.list.now = omega arith in
    (omega (arith, c.next_sum-sum.ensures), sum-next c.args.list.now l.b-index l.sum _ t l.invariant.1 c.next_sum-sum.ensures)
