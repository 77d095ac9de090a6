-- `largest` goes through the bytes; what is left of the list can still be larger.
use Rattle.std.proofs.Common.{sym, ◌∙◌, arith}
use Rattle.table.proofs.Entries.{largest-all, largest-more}
use Rattle.table.proofs.largest.Goals as goal

pub loop-x-init : goal.loop-x-init
loop-x-init c = omega arith

pub loop-x-preserved : goal.loop-x-preserved
loop-x-preserved c =
    let b = c.args.b.now in
    let l = c.loop-x in
    rw c.max-m.ensures (sym (largest-more b l.x-index l.m (omega arith)) ∙ l.invariant)

pub returns : goal.returns
returns c =
    let l = c.loop-x in
    sym (largest-all c.args.b.now l.x-index l.m (omega arith)) ∙ l.invariant
