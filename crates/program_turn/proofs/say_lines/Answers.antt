-- `say_lines` meets its promise: the lines are put, and the counts move on. Assumes nothing.
use Rattle.program_turn.proofs.Turning.{says-lines}
use Rattle.program_turn.proofs.say_lines.Goals as goal

pub returns : goal.returns
returns c =
    let a = c.args in
    let e = c.put_turn-length.ensures in
    says-lines a.keeping _ _ _ a.out.now a.state.now _ _ _ _ _ _ _ _ c.number_at-before.ensures c.told-told.ensures e.prefix_len e.text_after c.plus_number.ensures c.plus_number-2.ensures c.behind_lines.ensures
