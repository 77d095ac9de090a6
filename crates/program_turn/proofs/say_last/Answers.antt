-- `say_last` meets its promise. Assumes nothing.
use Rattle.program_turn.proofs.Laws.{says_last}
use Rattle.program_turn.proofs.say_last.Goals as goal

pub returns : goal.returns
returns c =
    let a = c.args in
    let e = c.put_last.ensures in
    says_last a.state.now a.refusal _ _ _ c.offset_of-offset.ensures e.prefix_len e.text_after
