-- `give_plain` meets its promise: the bytes are fed, and the record is put into the state. Assumes nothing.
use Rattle.std.proofs.Common.{refl}
use Rattle.program_turn.proofs.Laws.{gives-plain}
use Rattle.program_turn.proofs.give_plain.Goals as goal

pub returns : goal.returns
returns c =
    let a = c.args in
    gives-plain a.state.now _ _ c.take_part.ensures refl _ c.offset_of-at.ensures a.list.now a.rest.now a.out.now _ _ _ _ c.feed-fed.ensures c.put_part.ensures
