-- `offset_of` meets its promise. Assumes nothing.
use Rattle.std.proofs.Common.{refl}
use Rattle.program_turn.proofs.Laws.{offset-is}
use Rattle.program_turn.proofs.offset_of.Goals as goal

pub returns : goal.returns
returns c =
    offset-is c.args.state.now _ _ c.take_part.ensures refl _ c.offset_of.ensures _ _ c.number_at-before.ensures refl
