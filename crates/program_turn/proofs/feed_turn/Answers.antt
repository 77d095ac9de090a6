-- `feed_turn` meets its promise: the unit is fed; the last line where it is refused, else its lines. Assumes nothing.
use Rattle.std.proofs.Common.{arith}
use Rattle.program_turn.proofs.Turning.{feed-refused, feed-lines}
use Rattle.program_turn.proofs.feed_turn.Goals as goal

pub returns-then-given-ne-PASSED : goal.returns-then-given-ne-PASSED
returns-then-given-ne-PASSED c =
    let a = c.args in
    feed-refused a.keeping a.list.now a.state.now a.start a.rest.now _ _ c.number.ensures c.renew.ensures _ _ _ c.give-given.ensures _ _ _ c.if-given-ne-PASSED.true c.say_last.ensures

pub say_lines-requires : goal.say_lines-requires
say_lines-requires c =
    let g = c.give-given.ensures in
    let p = c.requires in
    (omega (arith, p.0), omega (arith, p.2), g.fits, omega (arith, g.fits))

pub returns : goal.returns
returns c =
    let a = c.args in
    feed-lines a.keeping a.list.now a.state.now a.start a.rest.now _ _ c.number.ensures c.renew.ensures _ _ _ c.give-given.ensures _ _ _ c.if-given-ne-PASSED.false c.say_lines.ensures
