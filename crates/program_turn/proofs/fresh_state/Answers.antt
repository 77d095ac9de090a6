-- `fresh_state` meets its promise. Assumes nothing.
use Rattle.program_turn.proofs.Turning.{fresh-is}
use Rattle.program_turn.proofs.fresh_state.Goals as goal

pub returns : goal.returns
returns c =
    let a = c.args in
    fresh-is a.list.now a.state.now _ _ _ _ _ c.put_number.ensures c.sum_of.ensures c.put_number-2.ensures c.put_number-3.ensures
