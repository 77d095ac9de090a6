-- `next_turn` meets its promise: the last line, or a unit is fed. Assumes nothing.
use Rattle.program_turn.proofs.Turning.{turn-ends, turn-feeds}
use Rattle.program_turn.proofs.next_turn.Goals as goal

pub returns-then-is_end : goal.returns-then-is_end
returns-then-is_end c =
    let a = c.args in
    turn-ends a.keeping a.list.now a.state.now a.start a.rest.now _ c.is_end.ensures _ _ _ c.if-is_end.true c.say_last.ensures

pub returns : goal.returns
returns c =
    let a = c.args in
    turn-feeds a.keeping a.list.now a.state.now a.start a.rest.now _ c.is_end.ensures _ _ _ c.if-is_end.false c.feed_turn.ensures
