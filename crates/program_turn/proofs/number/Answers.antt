-- `number` meets its promise. Assumes nothing.
use borrow.Author.Tests.{not-true, not-false}
use Rattle.program_turn.proofs.Laws.{numbered-not, numbered_is}
use Rattle.program_turn.proofs.number.Goals as goal

pub returns-then-not-is_kind : goal.returns-then-not-is_kind
returns-then-not-is_kind c =
    numbered-not _ _ _ c.is_kind.ensures (not-true _ c.if-not-is_kind.true-raw)

pub returns : goal.returns
returns c =
    numbered_is _ _ _ _ _ _ c.is_kind.ensures (not-false _ c.if-not-is_kind.false-raw) c.number.ensures c.put_number.ensures c.put_number-2.ensures
