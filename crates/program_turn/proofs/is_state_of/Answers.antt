-- `is_state_of` meets its promise: length, then checksum. Assumes nothing.
use Rattle.program_turn.proofs.Turning.{not_ours, ours-by}
use Rattle.program_turn.proofs.is_state_of.Goals as goal

pub returns-then-number_at-list : goal.returns-then-number_at-list
returns-then-number_at-list c =
    not_ours _ _ _ c.number_at.ensures c.if-number_at-list.true

pub returns : goal.returns
returns c =
    ours-by _ _ _ _ _ c.number_at.ensures c.if-number_at-list.false c.number_at-2.ensures c.sum_of.ensures
