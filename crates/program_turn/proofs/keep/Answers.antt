-- `keep` meets its promise. Assumes nothing.
use Rattle.program_turn.proofs.Laws.{kept-is}
use Rattle.program_turn.proofs.keep.Goals as goal

pub returns : goal.returns
returns c =
    let a = c.args in
    kept-is a.state.now a.flow.now a.held.now a.place a.count _ _ _ _ c.put_part.ensures c.put_part-2.ensures c.put_number.ensures c.put_number-2.ensures
