-- `begin` meets its promise: the last line where the opening is refused, else its lines. Assumes nothing.
use Rattle.std.proofs.Common.{arith}
use Rattle.program_turn.proofs.Turning.{open-refused, open-lines, open-fits}
use Rattle.program_turn.proofs.begin.Goals as goal

pub returns-then-opened-ne-PASSED : goal.returns-then-opened-ne-PASSED
returns-then-opened-ne-PASSED c =
    let a = c.args in
    open-refused a.keeping a.list.now a.state.now _ _ _ c.open_flow-opened.ensures _ _ _ c.if-opened-ne-PASSED.true c.say_last.ensures

pub say_lines-requires : goal.say_lines-requires
say_lines-requires c =
    let p = c.requires in
    let f = open-fits c.args.list.now _ _ _ c.open_flow-opened.ensures in
    (omega (arith, p.0), omega (arith, p.1), omega (arith, f), omega (arith, f))

pub returns : goal.returns
returns c =
    let a = c.args in
    open-lines a.keeping a.list.now a.state.now _ _ _ c.open_flow-opened.ensures _ _ _ _ c.if-opened-ne-PASSED.false c.put_part.ensures c.say_lines.ensures
