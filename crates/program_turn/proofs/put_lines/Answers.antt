-- `put_lines` meets its promise: each turn puts one more line. Assumes nothing.
use Rattle.std.proofs.Common.{◌≡◌, arith}
use Rattle.program_text.proofs.Texts.{puts_none}
use Rattle.program_turn.specs.Turn.{lines_from}
use Rattle.program_turn.proofs.Laws.{puts-line-from}
use Rattle.program_turn.proofs.put_lines.Goals as goal

pub loop-i-init : goal.loop-i-init
unfolding lines_from
loop-i-init c = puts_none c.args.text.now 0 (omega arith)

pub loop-i-preserved : goal.loop-i-preserved
loop-i-preserved c =
    let a = c.args in
    let l = c.loop-i in
    puts-line-from _ a.out.now a.text.now l.i l.at l.text _ _ _ (omega arith) c.raised-offset.ensures l.invariant c.put_line-at.ensures

pub returns : goal.returns
returns c =
    let a = c.args in
    let l = c.loop-i in
    let e : l.i ≡ a.n = omega arith in
    rw e at l.invariant
