-- `turn` meets its promise: the state, the last line, or a unit is fed. Assumes nothing.
use Rattle.std.proofs.Common.{arith}
use Rattle.program_turn.specs.Turn.{comes, number_in}
use Rattle.program_turn.proofs.Turning.{turn-saves, turn-none}
use Rattle.program_turn.proofs.turn.Goals as goal

pub returns-in-Save : goal.returns-in-Save
returns-in-Save c =
    let a = c.args in
    rw c.in-Save.is
    (turn-saves a.keeping a.list.now a.state.now (comes a.start) (number_in a.start) a.rest.now _ _ _ _ (omega (arith, c.requires.0, c.requires.2)) c.put_bytes.ensures)

pub returns-in-None : goal.returns-in-None
returns-in-None c =
    let a = c.args in
    rw (c.in-Feed.is, c.in-None.is) (turn-none a.keeping a.list.now a.state.now _ a.rest.now _ _ _ c.say_last.ensures)
