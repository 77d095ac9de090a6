-- `give` meets its promise: by the kind of the line. Assumes nothing.
use Rattle.program_turn.proofs.Laws.{by-plain, by-segment}
use Rattle.program_turn.proofs.give.Goals as goal

pub returns-then-is_kind : goal.returns-then-is_kind
returns-then-is_kind c =
    let a = c.args in
    by-plain a.list.now a.state.now a.start a.rest.now a.out.now _ _ _ _ c.is_kind.ensures c.if-is_kind.true (c.give_plain.ensures a.start)

pub returns-else-is_kind : goal.returns-else-is_kind
returns-else-is_kind c =
    let a = c.args in
    by-segment a.list.now a.state.now a.start a.rest.now a.out.now _ _ _ _ c.is_kind.ensures c.if-is_kind.false c.give_segment.ensures
