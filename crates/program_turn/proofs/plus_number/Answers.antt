-- `plus_number` meets its promise. Assumes nothing.
use Rattle.std.proofs.Common.{refl}
use Rattle.program_turn.proofs.Laws.{plus-is}
use Rattle.program_turn.proofs.plus_number.Goals as goal

pub returns : goal.returns
returns c =
    let a = c.args in plus-is a.state.now a.at a.n _ _ _ c.number_at-v.ensures refl c.put_number.ensures
