-- `take_part` meets its promise: the part is put over the whole array. Assumes nothing.
use Rattle.program_turn.proofs.Laws.{taken}
use Rattle.program_turn.proofs.take_part.Goals as goal

pub returns : goal.returns
returns c =
    let a = c.args in taken a.state.now a.part.now a.at _ _ _ c.requires c.put_bytes.ensures
